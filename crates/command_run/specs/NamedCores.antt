-- A core of a run, under its name (own).
use Rattle.std.specs.Prelude.{ℕ, List}
use Rattle.crash_recover.specs.Cores.{CoreState}

-- a core with its memory and its link, under its name
pub record NamedCoreState : Type 0 where
  pub name : List ℕ
  pub core : CoreState
