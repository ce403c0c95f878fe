-- The core of a name in a run (own).
use Rattle.std.specs.Prelude.{◌≡◌, ℕ, List, Option, Some, None, option_map, slice_get}
use Rattle.rp_base.specs.declared.kinds.LifeState.{LifeState}
use Rattle.crash_recover.specs.Cores.{CoreState}
use Rattle.command_run.specs.NamedCores.{NamedCoreState}
use Rattle.command_run.specs.Runs.{RunState, core_place, place_of}

-- no link has this name, and the core at this place of the run has it
pub record IsCoreAt (run : RunState) (name : List ℕ) (place : ℕ) (on : NamedCoreState) : Type 0 where
  pub unlinked : place_of run.objects.links name ≡ None
  pub placed : core_place run.objects.cores name ≡ Some place
  pub found : slice_get run.objects.cores place ≡ Some on

-- the core at a place of a run
abbrev pub core_at : RunState → ℕ → Option CoreState
core_at run place = option_map (λ (on : NamedCoreState). on.core) (slice_get run.objects.cores place)

-- the state of the core at a place of a run
abbrev pub state_at : RunState → ℕ → Option LifeState
state_at run place = option_map (λ (on : NamedCoreState). on.core.life.state) (slice_get run.objects.cores place)
