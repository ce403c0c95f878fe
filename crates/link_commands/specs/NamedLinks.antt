-- A link of a run, under its name (own).
use Rattle.std.specs.Prelude.{ℕ, List}
use Rattle.link_bench.specs.Benches.{BenchState}

-- a link with its calls, under its name
pub record NamedLink : Type 0 where
  pub name : List ℕ
  pub bench : BenchState
