use Rattle.std.proofs.Common.{◌≡◌, Option, Some, IfSome, is_some, sym, ap, subst, ◌∙◌}
use Rattle.std.proofs.lemmas.Bool.{true≢false}
use Rattle.proc_state.specs.Lives.{is_offline}
use Rattle.link_bench.specs.Benches.{BenchState}
use Rattle.core_actors.specs.Actors.{actors_view}
use Rattle.crash_recover.specs.Cores.{CoreState}
use Rattle.crash_recover.specs.KeptCores.{IsKeptBench, IsReadyLink}
use Rattle.crash_recover.proofs.KeptCrashes.{crash_kept}
use Rattle.crash_recover.proofs.ReadyCores.{crash_readies}
use Rattle.crash_recover.proofs.SoundCores.{found_ready, sound_lives}
use Rattle.crash_recover.proofs.cores.Core.close.Goals as goal

pub invariant_of-self-2 : goal.invariant_of-self-2
invariant_of-self-2 c =
    let inside = c.self.inside in
    let life = c.args.life in
    let kept = subst (λ (found : Option BenchState). IfSome found (IsKeptBench inside.life)) c.in-Some.is c.self.invariant.kept in
    let loaded : is_offline life.state ≡ is_offline inside.life.state = subst (λ (core : CoreState). is_offline life.state ≡ is_offline core.life.state) (sym c.self.view_is) c.requires.loaded in
    let users : life.users ≡ inside.life.users = subst (λ (core : CoreState). life.users ≡ core.life.users) (sym c.self.view_is) c.requires.users in
    let same : life.incarnation ≡ inside.life.incarnation = subst (λ (core : CoreState). life.incarnation ≡ core.life.incarnation) (sym c.self.view_is) c.requires.same in
    sound_lives inside.regions inside.book inside.life life inside.image inside.loaded inside.bench (Some c.crash.new.self) (actors_view inside.actors) (actors_view inside.actors) loaded
    (λ none. absurd (true≢false (sym (ap is_some c.in-Some.is) ∙ ap is_some (c.self.invariant.unlinked (sym users ∙ none)))))
    (subst (IsKeptBench life) (sym c.crash.ensures) (crash_kept inside.life life c.in-Some.bench same c.requires.stopped kept))
    (subst (λ (bench : BenchState). IsReadyLink life.state (actors_view inside.actors) (Some bench)) (sym c.crash.ensures)
    (crash_readies life.state (actors_view inside.actors) c.in-Some.bench c.requires.stopped (found_ready inside.life.state (actors_view inside.actors) c.in-Some.bench inside.bench c.in-Some.is c.self.invariant.ready).begun)) c.self.invariant
