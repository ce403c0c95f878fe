use Rattle.std.proofs.Common.{◌≡◌, None, Option, IfNone, IfSome, Result, not, option_map, refl, sym, ap, subst, ◌∙◌}
use Rattle.std.specs.Result.{result_err}
use Rattle.proc_state.specs.declared.answers.LifeFault.{LifeFault}
use Rattle.proc_state.specs.Lives.{CoreLife, is_offline, life_after_recovery, recovery_fault}
use Rattle.proc_state.proofs.Recoveries.{crashed_life}
use Rattle.link_bench.specs.BenchCrashes.{after_reopen}
use Rattle.link_bench.specs.BenchEnds.{bench_to_reopen}
use Rattle.link_bench.specs.Benches.{BenchState}
use Rattle.core_actors.specs.Actors.{ActorsState, actors_view, fresh_actors}
use Rattle.crash_recover.specs.Cores.{CoreState, IsSoundLoad, load_view}
use Rattle.crash_recover.specs.CoreRecoveries.{fault_with, next_life, reopen_fault}
use Rattle.crash_recover.specs.KeptCores.{IsKeptBench, IsReadyLink}
use Rattle.crash_recover.specs.contracts.cores.Core.{the_view}
use Rattle.crash_recover.specs.declared.core_faults.StartFault.{StartFault}
use Rattle.crash_recover.proofs.KeptBenches.{core_recovered}
use Rattle.crash_recover.proofs.ReadyCores.{reopened_link}
use Rattle.crash_recover.proofs.Restarts.{restarts}
use Rattle.crash_recover.proofs.SoundCores.{sound_readied, still_none}
use Rattle.crash_recover.proofs.cores.Core.restart.Goals as goal

pub invariant_of-self : goal.invariant_of-self
invariant_of-self c =
    let inside = c.self.inside in
    sound_readied inside.regions inside.book inside.life inside.image inside.loaded inside.bench c.reopen_link.new.link (actors_view inside.actors)
    (subst (λ (core : CoreState). recovery_fault core.life ≡ None) (sym c.self.view_is) c.requires.may) c.in_err-fault.ensures.memory c.self.invariant

pub invariant_of-self-in-Some : goal.invariant_of-self-in-Some
invariant_of-self-in-Some c =
    let inside = c.self.inside in
    sound_readied inside.regions inside.book inside.life inside.image inside.loaded inside.bench c.reopen_link.new.link (actors_view inside.actors)
    (subst (λ (core : CoreState). recovery_fault core.life ≡ None) (sym c.self.view_is) c.requires.may)
    (subst (λ (refused : Option StartFault). IfSome refused (λ _. c.reopen_link.new.link ≡ option_map bench_to_reopen inside.bench)) c.in-Some.is c.in_ok-fault.ensures.ready) c.self.invariant

pub invariant_of-self-2 : goal.invariant_of-self-2
invariant_of-self-2 c =
    let inside = c.self.inside in
    let core = the_view inside in
    let fresh : ActorsState = fresh_actors (actors_view inside.actors) 0 in
    let may : recovery_fault inside.life ≡ None = subst (λ (core : CoreState). recovery_fault core.life ≡ None) (sym c.self.view_is) c.requires.may in
    let did = c.in_ok-fault in
    let left_is : c.start_again.new.self ≡ (life_after_recovery inside.life).life = c.start_again.ensures.left ∙ ap (λ (life : CoreLife). (life_after_recovery life).life) c.copy-life.ensures in
    let fault_is : c.err-life_fault.result ≡ result_err (life_after_recovery inside.life).answer =
    c.err-life_fault.ensures.value ∙ ap (λ (answer : Result (Unit {0}) LifeFault). result_err answer) (c.start_again.ensures.answer ∙ ap (λ (life : CoreLife). (life_after_recovery life).answer) c.copy-life.ensures) in
    let opens : reopen_fault core ≡ None = subst (λ (why : Option LifeFault). fault_with inside.bench why ≡ None) fault_is (sym did.ensures.refused ∙ c.in_default.is) in
    let left = subst (λ (refused : Option StartFault). IfNone refused (c.reopen_link.new.link ≡ option_map (λ (bench : BenchState). after_reopen (bench_to_reopen bench)) inside.bench)) c.in_default.is did.ensures.left in
    let life_is : c.start_again.new.self ≡ next_life inside.life = left_is ∙ restarts core opens in
    let loaded : is_offline c.start_again.new.self.state ≡ is_offline inside.life.state = ap (λ (life : CoreLife). is_offline life.state) life_is ∙ sym (ap is_offline (crashed_life inside.life may)) in
    record {
      book = c.self.invariant.book;
      loaded = subst (λ (core : CoreState). IsSoundLoad core.regions c.args.loaded) (sym c.self.view_is) c.requires.sound;
      has_image = c.self.invariant.has_image ∙ ap not (sym loaded);
      has_load = sym (ap (λ (life : CoreLife). not (is_offline life.state)) life_is);
      unlinked = λ none. left ∙ still_none (λ (bench : BenchState). after_reopen (bench_to_reopen bench)) inside.bench (c.self.invariant.unlinked (sym (ap (λ (life : CoreLife). life.users) life_is) ∙ none));
      kept = subst (λ (life : CoreLife). IfSome c.reopen_link.new.link (IsKeptBench life)) (sym left_is)
          (subst (λ (found : Option BenchState). IfSome found (IsKeptBench (life_after_recovery inside.life).life)) (sym left) (core_recovered core (load_view c.args.loaded) c.self.invariant.kept opens));
      ready = subst (λ (actors : ActorsState). IsReadyLink c.start_again.new.self.state actors c.reopen_link.new.link) (sym c.restart.ensures)
          (subst (IsReadyLink c.start_again.new.self.state fresh) (sym left) (reopened_link inside.life.state c.start_again.new.self.state (actors_view inside.actors) fresh inside.bench refl refl c.self.invariant.ready));
    }
