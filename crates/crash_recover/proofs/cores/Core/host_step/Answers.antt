use Rattle.std.proofs.Common.{Option, IfSome, ap, subst, ◌∙◌}
use Rattle.proc_state.specs.Lives.{is_up}
use Rattle.link_bench.specs.Benches.{BenchState}
use Rattle.core_actors.specs.Actors.{actors_view}
use Rattle.core_actors.specs.ActorSteps.{first_or_take, link_step}
use Rattle.crash_recover.specs.KeptCores.{IsKeptBench}
use Rattle.crash_recover.proofs.KeptBenches.{step_kept}
use Rattle.crash_recover.proofs.ReadyCores.{ready_now, step_ready}
use Rattle.crash_recover.proofs.SoundCores.{did_or_not, found_ready, sound_linked}
use Rattle.crash_recover.specs.Cores.{CoreState}
use Rattle.crash_recover.proofs.cores.Core.host_step.Goals as goal

pub host_step-requires-clause-own : goal.host_step-requires-clause-own
host_step-requires-clause-own c =
    let inside = c.self.inside in
    (subst (λ (found : Option BenchState). IfSome found (IsKeptBench inside.life)) c.in-Some.is c.self.invariant.kept).own

pub host_step-requires-clause-ready : goal.host_step-requires-clause-ready
host_step-requires-clause-ready c =
    let inside = c.self.inside in
    let actors = actors_view inside.actors in
    ready_now inside.life.state actors c.in-Some.bench (ap (λ (core : CoreState). is_up core.life.state) c.self.view_is ∙ c.requires)
    (found_ready inside.life.state actors c.in-Some.bench inside.bench c.in-Some.is c.self.invariant.ready)

pub invariant_of-self-2 : goal.invariant_of-self-2
invariant_of-self-2 c =
    let inside = c.self.inside in
    let bench = c.in-Some.bench in
    let first = first_or_take (actors_view inside.actors).host_calls in
    sound_linked inside.regions inside.book inside.life inside.image inside.loaded bench c.host_step.new.bench inside.bench (actors_view inside.actors) (actors_view c.host_step.new.self) c.in-Some.is c.self.invariant
    (λ kept. did_or_not (IsKeptBench inside.life) bench (link_step bench 0 first).bench c.host_step.new.bench c.host_step.result c.host_step.ensures.bench c.host_step.ensures.same
    (step_kept inside.life bench 0 first kept) kept)
    (λ _ ready. step_ready inside.life.state (actors_view inside.actors) (actors_view c.host_step.new.self) bench c.host_step.new.bench c.host_step.result c.host_step.ensures.ready c.host_step.ensures.same
    c.host_step.ensures.unchanged ready)
