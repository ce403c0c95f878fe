-- What a drive of a core's actors leaves of it and writes (own).
use Rattle.std.specs.Prelude.{◌≡◌, ℕ, zero, suc, ◌+◌, ◌==◌, ◌||◌, Bool, true, false, List, [], ◌∷◌, ◌++◌, Option, Some, None, is_some, unwrap_or, if◌then◌else◌}
use Rattle.rp_base.specs.declared.limits.TheConstants.{STEPS_MOST}
use Rattle.rp_base.specs.declared.kinds.CrashKind.TheVariants as kind
use Rattle.rp_base.specs.declared.kinds.LifeState.{LifeState}
use Rattle.rp_base.specs.declared.kinds.LifeState.TheVariants.{Crashed}
use Rattle.lane_model.specs.declared.calls.CallEnd.{CallEnd}
use Rattle.remote_code.specs.Faults.{fault_number}
use Rattle.proc_state.specs.Lives.{is_up}
use Rattle.journal.specs.declared.events.Event.{Event}
use Rattle.journal.specs.declared.events.Event.TheVariants as event
use Rattle.link_bench.specs.Benches.{BenchState, link_in}
use Rattle.crash_recover.specs.Cores.{CoreState}
use Rattle.core_actors.specs.declared.progress.DriveOutcome.{DriveOutcome}
use Rattle.core_actors.specs.declared.progress.DriveOutcome.TheVariants as driven
use Rattle.crash_recover.specs.Drives.{DriveStep, drive_step, is_idle}
use Rattle.link_commands.specs.CallEvents.{end_event}
use Rattle.command_run.specs.CoreEffects.{CoreEffect, core_tells}
use Rattle.command_run.specs.CoreLives.{core_stops, crash_events}

-- the end of a call of an actor on this link
abbrev pub actor_end_events : List ℕ → ℕ → CallEnd → Option BenchState → List Event
actor_end_events name caller end None = []
actor_end_events name caller end (Some bench) = end_event name (link_in bench) caller end ∷ []

-- what is written of a step of the actors, by what it was and the link that it left; the ends of calls are not written by a drive that is quiet
abbrev pub driven_events : List ℕ → Bool → Option BenchState → DriveOutcome → List Event
driven_events name is_quiet bench driven.Idle = []
driven_events name is_quiet bench driven.Stepped = []
driven_events name is_quiet bench (driven.Ended caller end) = if is_quiet then [] else actor_end_events name caller end bench
driven_events name is_quiet bench (driven.Worker fault closed) = event.WorkerFault name (fault_number fault) ∷ crash_events name kind.Fatal closed
driven_events name is_quiet bench (driven.Crashed kind closed) = crash_events name kind closed

-- the same by the step
abbrev pub step_events : List ℕ → Bool → DriveStep → List Event
step_events name is_quiet step = driven_events name is_quiet step.core.bench step.driven

-- the same events before those of an effect
abbrev pub effect_behind : List Event → CoreEffect → CoreEffect
effect_behind earlier effect = record effect { events = earlier ++ effect.events }

-- whether a core crashed, and is not recovered
abbrev pub is_crashed : LifeState → Bool
is_crashed Crashed = true
is_crashed other = false

-- a core that is driven: it is up, unless it has crashed
abbrev pub IsDriven : CoreState → Type 0
IsDriven core = is_crashed core.life.state ≡ false → is_up core.life.state ≡ true

-- why the actors of a core make no further step: it crashed, or both have nothing to do
abbrev pub rest_event : List ℕ → CoreState → Option Event
rest_event name core =
    if is_crashed core.life.state then Some (event.Stopped name) else (if is_idle core then Some (event.Idle name) else None)

-- the drive ends with this event, or it goes on
abbrev pub rests_or : CoreState → ℕ → Option Event → CoreEffect → CoreEffect
rests_or core steps None effect = effect
rests_or core steps (Some told) effect = core_tells core steps told

-- a drive is over before its next step: its actors rest, or the run has no step left
abbrev pub is_over : List ℕ → CoreState → ℕ → Bool
is_over name core steps = is_some (rest_event name core) || steps == STEPS_MOST

-- the end of a drive that is over, or of which no step is left
abbrev pub drive_end : ℕ → List ℕ → CoreState → ℕ → CoreEffect
drive_end left name core steps =
    rests_or core steps (rest_event name core) (if left == 0 then core_tells core steps (event.Paused name) else core_stops core steps)

-- a step of the actors, and what follows
abbrev pub step_then : List ℕ → Bool → DriveStep → (CoreState → CoreEffect) → CoreEffect
step_then name is_quiet step later = effect_behind (step_events name is_quiet step) (later step.core)

-- so many steps of the actors, fewer where the core crashed or both have nothing to do before
unfoldable pub drive_steps : ℕ → List ℕ → Bool → CoreState → ℕ → CoreEffect
drive_steps zero name is_quiet core steps = core_tells core steps (unwrap_or (rest_event name core) (event.Paused name))
drive_steps (suc more) name is_quiet core steps =
    rests_or core steps (rest_event name core)
    (if steps == STEPS_MOST then core_stops core steps
    else step_then name is_quiet (drive_step core) (λ next. drive_steps more name is_quiet next (steps + 1)))

-- `drive X COUNT`: the core runs or is attached
unfoldable pub drive_effect : List ℕ → Bool → CoreState → ℕ → ℕ → CoreEffect
drive_effect name is_quiet core steps count =
    if is_up core.life.state then drive_steps count name is_quiet core steps else core_tells core steps (event.NotRunning name)
