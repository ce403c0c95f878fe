-- An image that a script made, under its name (own).
use Rattle.std.specs.Prelude.{ℕ, Bool, List}

-- an image, under its name; it was made by a recipe, or is the dump of a core
pub record ImageState : Type 0 where
  pub name : List ℕ
  pub bytes : List ℕ
  pub is_dump : Bool
