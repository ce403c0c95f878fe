-- What a command on a core leaves of it and writes (own).
use Rattle.std.specs.Prelude.{ℕ, List, [], ◌∷◌, Option, None}
use Rattle.journal.specs.declared.events.Event.{Event}
use Rattle.crash_recover.specs.Cores.{CoreState}
use Rattle.link_commands.specs.declared.stops.Stop.{Stop}

-- what a command leaves of its core, the steps of the run until then, what it writes, and why the run stops in its midst, if it does
pub record CoreEffect : Type 0 where
  pub core : CoreState
  pub steps : ℕ
  pub events : List Event
  pub ending : Option Stop

-- these events, and the steps as they are
abbrev pub core_tells_all : CoreState → ℕ → List Event → CoreEffect
core_tells_all core steps told = record { core = core; steps = steps; events = told; ending = None }

-- one event, and the steps as they are
abbrev pub core_tells : CoreState → ℕ → Event → CoreEffect
core_tells core steps told = core_tells_all core steps (told ∷ [])
