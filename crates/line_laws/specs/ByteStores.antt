-- Stores whose images are bytes (own).
use Rattle.std.specs.Prelude.{ℕ, List, IfSome}
use Rattle.std.specs.Result.{IfOk}
use Rattle.command_run.specs.Stores.{Shelf, StoreAnswers}
use Rattle.field_laws.specs.Fields.{AreBytes}

-- what a store tells of images is bytes
abbrev pub TellsBytes : StoreAnswers → Type 0
TellsBytes told = (number : ℕ) → IfSome (told number) (λ (shelf : Shelf). (name : List ℕ) → IfOk (shelf name) AreBytes)
