-- The name under which a store is asked.
use Rattle.std.proofs.Common.{◌≡◌, ℕ, Bool, true, false, cond, List, Some, None, refl, ap}
use Rattle.std.specs.Str.{IsUtf8, is_utf8}
use Rattle.std.proofs.lemmas.Str.{IsUtf8-from_is_utf8, is_utf8-from_IsUtf8}
use Rattle.rp_io.specs.Images.{text_name}

no_text : (b : Bool) → (b ≡ true → ⊥) → b ≡ false
no_text true other = absurd (other refl)
no_text false other = refl

-- a name that is a text is asked for
pub text_is : (name : List ℕ) → IsUtf8 name → text_name name ≡ Some name
text_is name utf = ap (λ (b : Bool). cond b (Some name) None) (is_utf8-from_IsUtf8 name utf)

-- one that is none isn't
pub text_none : (name : List ℕ) → ¬ (IsUtf8 name) → text_name name ≡ None
text_none name other = ap (λ (b : Bool). cond b (Some name) None) (no_text (is_utf8 name) (λ utf. other (IsUtf8-from_is_utf8 name utf)))
