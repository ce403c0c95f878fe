-- A form of a link that gives no state (own).
use Rattle.std.specs.Prelude.{◌≡◌, Option, Some, None}
use mathlib.Core.Path.{subst}

abbrev IsNone : {A : Type 0} → Option A → Type 0
IsNone None = Unit {0}
IsNone (Some told) = ⊥

-- it says of a state that it tells whatever is asked
pub tells_none : {A B : Type 0} (told : A) → None ≡ Some told → B
tells_none {A} told is = absurd (subst (λ (o : Option A). IsNone o) is tt)
