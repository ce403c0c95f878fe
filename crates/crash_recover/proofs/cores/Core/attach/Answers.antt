use Rattle.std.proofs.Common.{◌≡◌, ℕ, false, Option, IfSome, option_map, refl, sym, ap, subst, ◌∙◌, arith}
use Rattle.proc_state.specs.Lives.{is_offline}
use Rattle.core_actors.specs.Actors.{ActorsState, actors_view, driver_names, fresh_actors}
use Rattle.link_bench.specs.Benches.{BenchState}
use Rattle.crash_recover.specs.Cores.{CoreState, loaded_rings}
use Rattle.crash_recover.specs.CoreBoots.{core_bench}
use Rattle.crash_recover.specs.KeptCores.{IsKeptBench, IsReadyLink}
use Rattle.crash_recover.proofs.KeptBenches.{rings_kept}
use Rattle.crash_recover.proofs.ReadyCores.{started_link}
use Rattle.crash_recover.proofs.SoundCores.{sound_lives}
use Rattle.crash_recover.proofs.cores.Core.attach.Goals as goal

pub invariant_of-self : goal.invariant_of-self
invariant_of-self c =
    let core = c.args.self.now in
    let inside = c.self.inside in
    let life = c.args.life in
    let names = driver_names core.actors in
    let fresh : ActorsState = fresh_actors (actors_view inside.actors) 0 in
    let was : is_offline inside.life.state ≡ false = subst (λ (core : CoreState). is_offline core.life.state ≡ false) (sym c.self.view_is) c.requires.loaded in
    let made = sym (c.in_ok-bench.ensures ∙ ap (λ (inc : ℕ). option_map (core_bench names core.book inc) (loaded_rings core.loaded)) c.incarnation-inc.ensures) in
    sound_lives inside.regions inside.book inside.life life inside.image inside.loaded inside.bench c.in_ok-bench.bench (actors_view inside.actors) (actors_view c.restart.new.self) (c.requires.stays ∙ sym was)
    (λ none. absurd (omega (arith, c.requires.users, none)))
    (subst (λ (found : Option BenchState). IfSome found (IsKeptBench life)) made (rings_kept life names core.book (loaded_rings core.loaded) c.requires.up))
    (subst (λ (actors : ActorsState). IsReadyLink life.state actors c.in_ok-bench.bench) (sym c.restart.ensures)
    (subst (IsReadyLink life.state fresh) made (started_link life.state fresh names core.book life.incarnation (loaded_rings core.loaded) refl refl))) c.self.invariant
