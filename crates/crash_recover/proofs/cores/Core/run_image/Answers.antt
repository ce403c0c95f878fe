use Rattle.std.proofs.Common.{ℕ, Option, IfSome, not, option_map, refl, sym, ap, subst, ◌∙◌, arith}
use Rattle.core_actors.specs.Actors.{ActorsState, driver_names, fresh_actors}
use Rattle.link_bench.specs.Benches.{BenchState}
use Rattle.crash_recover.specs.Cores.{CoreState, IsSoundLoad}
use Rattle.crash_recover.specs.CoreBoots.{core_bench}
use Rattle.crash_recover.specs.KeptCores.{IsKeptBench, IsReadyLink}
use Rattle.crash_recover.proofs.KeptBenches.{rings_kept}
use Rattle.crash_recover.proofs.ReadyCores.{started_link}
use Rattle.crash_recover.proofs.cores.Core.run_image.Goals as goal

pub invariant_of-self : goal.invariant_of-self
invariant_of-self c =
    let core = c.args.self.now in
    let life = c.args.life in
    let rings = c.args.loaded.rings in
    let names = driver_names core.actors in
    let fresh : ActorsState = fresh_actors core.actors 0 in
    let made = sym (c.in_ok-bench.ensures ∙ ap (λ (inc : ℕ). option_map (core_bench names core.book inc) rings) c.incarnation-inc.ensures) in
    record {
      book = c.self.invariant.book;
      loaded = subst (λ (core : CoreState). IsSoundLoad core.regions c.args.loaded) (sym c.self.view_is) c.requires.sound;
      has_image = sym (ap not c.requires.loaded);
      has_load = sym (ap not c.requires.loaded);
      unlinked = λ none. absurd (omega (arith, c.requires.users, none));
      kept = subst (λ (found : Option BenchState). IfSome found (IsKeptBench life)) made (rings_kept life names core.book rings c.requires.up);
      ready = subst (λ (actors : ActorsState). IsReadyLink life.state actors c.in_ok-bench.bench) (sym c.restart.ensures)
          (subst (IsReadyLink life.state fresh) made (started_link life.state fresh names core.book life.incarnation rings refl refl));
    }
