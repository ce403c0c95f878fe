-- Steps of the actors of a core, one after the other (own).
use Rattle.std.specs.Prelude.{ℕ, zero, suc, Bool, true, false, ◌||◌, if◌then◌else◌}
use Rattle.rp_base.specs.declared.kinds.LifeState.{LifeState}
use Rattle.rp_base.specs.declared.kinds.LifeState.TheVariants.{Crashed}
use Rattle.core_actors.specs.declared.actors.Actor.{Actor}
use Rattle.crash_recover.specs.Cores.{CoreState}
use Rattle.crash_recover.specs.Drives.{DriveStep, actor_step, drive_step, is_idle, with_turn_after}

-- the step of this actor, after which the turn is the other's
abbrev pub step_by : Actor → CoreState → DriveStep
step_by one core = actor_step one (with_turn_after one core)

-- a core has crashed
abbrev pub has_crashed : LifeState → Bool
has_crashed Crashed = true
has_crashed other = false

-- no step is made: the core has crashed, or both actors have nothing to do
abbrev pub rests : CoreState → Bool
rests core = has_crashed core.life.state || is_idle core

-- the core after so many steps
abbrev pub after_steps : ℕ → CoreState → CoreState
after_steps zero core = core
after_steps (suc more) core = after_steps more (drive_step core).core

-- how many of so many steps are made
abbrev pub drive_length : ℕ → CoreState → ℕ
drive_length zero core = 0
drive_length (suc more) core = if rests core then 0 else suc (drive_length more (drive_step core).core)

-- the core after a drive of so many steps
abbrev pub after_drive : ℕ → CoreState → CoreState
after_drive count core = after_steps (drive_length count core) core
