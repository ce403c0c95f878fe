-- A text that is before another (own). No public clause speaks of this: it serves the contracts of the crate's own functions.
use Rattle.std.specs.Prelude.{◌≡◌, ℕ, List, ◌++◌}

-- the text before is a prefix of the text after: the same bytes, and then a rest that may be empty
pub record IsFront (before after : List ℕ) : Type 0 where
  pub rest : List ℕ
  pub is : after ≡ before ++ rest
