-- When the actors of a core may make their next steps, and what goes beside a step, by which part of the definition of a step it is (own).
use Rattle.std.specs.Prelude.{◌≡◌, ℕ, true, Option, if◌then◌else◌}
use Rattle.proc_state.specs.Lives.{is_up}
use Rattle.lane_model.specs.declared.calls.Wish.{Wish}
use Rattle.link_bench.specs.Benches.{BenchState}
use Rattle.core_actors.specs.declared.actors.Actor.{Actor}
use Rattle.core_actors.specs.declared.actors.Actor.TheVariants as actor
use Rattle.core_actors.specs.declared.progress.DriveOutcome.{DriveOutcome}
use Rattle.core_actors.specs.ActorSteps.{first_or_take, has_calls}
use Rattle.crash_recover.specs.Cores.{CoreState, IsKeptCore, IsReadyCore}
use Rattle.crash_recover.specs.Drives.{actor_to_step, is_idle, record_run, with_turn_after}

-- the actors of a core may make their next steps: the core is up, its own callers are in use on its link, and its actors hold what their calls give back
pub record MayDrive (core : CoreState) : Type 0 where
  pub up : is_up core.life.state ≡ true
  pub kept : IsKeptCore core
  pub ready : IsReadyCore core

-- beside the step of an actor is what goes with a step of a caller on the link, for the call that the actor begins if it is in none, or what goes with a record, by what the record was and the core that it left
abbrev pub beside_actor : {X : Type 0} → (Option BenchState → ℕ → Wish → X) → (DriveOutcome → CoreState → X) → Actor → CoreState → X
beside_actor on_link on_record actor.Host core = on_link core.bench 0 (first_or_take core.actors.host_calls)
beside_actor on_link on_record actor.Worker core =
    if has_calls core.bench core.actors then on_link core.bench 1 (first_or_take core.actors.worker_calls)
    else on_record (record_run core core.loaded).driven (record_run core core.loaded).core

-- the same beside the step that the actors make, and what goes with none
abbrev pub beside_drive : {X : Type 0} → X → (Option BenchState → ℕ → Wish → X) → (DriveOutcome → CoreState → X) → CoreState → X
beside_drive none on_link on_record core =
    if is_idle core then none else beside_actor on_link on_record (actor_to_step core) (with_turn_after (actor_to_step core) core)
