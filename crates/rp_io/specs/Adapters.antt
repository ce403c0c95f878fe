-- A source or a sink over a reader or a writer of std (own).
use Rattle.std.specs.Prelude.{ℕ, List, Option}

-- what the reader has left or the writer holds, where std says it, and the count of faults (own)
pub record AdapterState : Type 0 where
  pub content : Option (List ℕ)
  pub faults : ℕ
