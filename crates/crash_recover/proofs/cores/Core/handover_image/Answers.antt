use Rattle.std.proofs.Common.{IfOk, Result, not, sym, ap, subst, ◌∙◌}
use Rattle.fw_load.specs.declared.loading.Loaded.{Loaded}
use Rattle.proc_state.specs.Lives.{CoreLife}
use Rattle.crash_recover.specs.declared.core_faults.StartFault.{StartFault}
use Rattle.crash_recover.specs.Cores.{CoreState, IsSoundLoad}
use Rattle.core_actors.specs.Actors.{actors_view}
use Rattle.crash_recover.proofs.KeptBenches.{found_same}
use Rattle.crash_recover.proofs.ReadyCores.{same_ready}
use Rattle.crash_recover.proofs.SameLives.{IsHanded, hands_over}
use Rattle.crash_recover.proofs.cores.Core.handover_image.Goals as goal

pub invariant_of-self : goal.invariant_of-self
invariant_of-self c =
    let inside = c.self.inside in
    let handed : IsHanded inside.life c.args.life =
    subst (λ (core : CoreState). IsHanded core.life c.args.life) (sym c.self.view_is)
    (subst (λ (life : CoreLife). IsHanded c.args.self.now.life life) (sym c.requires.life) (hands_over c.args.self.now.life c.requires.may)) in
    record {
      book = c.self.invariant.book;
      loaded = subst (λ (core : CoreState). IsSoundLoad core.regions c.in-Ok.loaded) (sym c.self.view_is)
          (subst (λ (answer : Result Loaded StartFault). IfOk answer (IsSoundLoad c.args.self.now.regions)) c.in-Ok.is c.in_ok-loaded.ensures.sound);
      has_image = sym (ap not handed.loaded);
      has_load = sym (ap not handed.loaded);
      unlinked = λ none. c.self.invariant.unlinked (sym handed.users ∙ none);
      kept = found_same inside.life c.args.life inside.bench handed.same c.self.invariant.kept;
      ready = same_ready inside.life c.args.life (actors_view inside.actors) inside.bench handed.same c.self.invariant.ready;
    }
