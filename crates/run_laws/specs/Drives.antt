-- The steps that a drive of a script makes, and what it tells (own).
use Rattle.std.specs.Prelude.{◌≡◌, ℕ, zero, suc, ◌+◌, ◌==◌, ◌||◌, Bool, List, [], ◌∷◌, ◌++◌, unwrap_or, if◌then◌else◌}
use Rattle.rp_base.specs.declared.limits.TheConstants.{STEPS_MOST}
use Rattle.journal.specs.declared.events.Event.{Event}
use Rattle.journal.specs.declared.events.Event.TheVariants as event
use Rattle.crash_recover.specs.Cores.{CoreState}
use Rattle.crash_recover.specs.Drives.{drive_step}
use Rattle.command_run.specs.CoreDrives.{rest_event, step_events}
pub use Rattle.drive_laws.specs.Steps.{after_steps, rests}

-- how many of so many steps a drive makes of a run that has done so many before: fewer where the core rests or the run has no step left
abbrev pub drive_length_within : ℕ → CoreState → ℕ → ℕ
drive_length_within zero core steps = 0
drive_length_within (suc more) core steps = if rests core || steps == STEPS_MOST then 0 else suc (drive_length_within more (drive_step core).core (steps + 1))

-- what the first steps of the actors tell, one after the other
unfoldable pub steps_events : ℕ → List ℕ → Bool → CoreState → List Event
steps_events zero name is_quiet core = []
steps_events (suc more) name is_quiet core = step_events name is_quiet (drive_step core) ++ steps_events more name is_quiet (drive_step core).core

-- why a drive ended that left this core: it crashed, or both actors have nothing to do, or else all steps were made
abbrev pub last_event : List ℕ → CoreState → Event
last_event name core = unwrap_or (rest_event name core) (event.Paused name)

-- this is the last event
pub record EndsWith (events : List Event) (last : Event) : Type 0 where
  pub earlier : List Event
  pub is : events ≡ earlier ++ last ∷ []
