-- Names of channels as they are read.
use Rattle.std.proofs.Common.{◌≡◌, ℕ, ◌<◌, ◌≤◌, ◌==◌, ◌&&◌, ◌⊎◌, not, Bool, true, false, cond, List, [], ◌∷◌, length, Option, Some, None, refl, sym, ◌∙◌, ap, inl, inr}
use Rattle.std.specs.Prelude.{Contains, nat_le, IfSome, IfNone}
use Rattle.std.specs.List.{list_all}
use Rattle.std.proofs.lemmas.Bool.{le-leb, lt-leb}
use Rattle.std.proofs.lemmas.List.Folds.{list_all_at}
use Rattle.std.proofs.lemmas.List.Sums.{take_while-cons}
use Rattle.rp_base.specs.Texts.{text_before_zero}
use Rattle.word_kinds.specs.Readings.{is_channel}
use Rattle.word_kinds.proofs.Clean.{both}

abbrev nonzero : ℕ → Bool
nonzero byte = not (byte == 0)

whole_step : (byte : ℕ) (more : List ℕ) (test : Bool) → nonzero byte ≡ test → cond test (byte ∷ text_before_zero more) [] ≡ byte ∷ more → (nonzero byte ≡ true) × (text_before_zero more ≡ more)
whole_step byte more true e h = (e, cc)
whole_step byte more false e h = absurd (cc)

no_zeros : (text : List ℕ) → text_before_zero text ≡ text → list_all nonzero text ≡ true
no_zeros [] e = refl
no_zeros (byte ∷ more) e =
    let h = whole_step byte more (nonzero byte) refl (sym (take_while-cons nonzero byte more) ∙ e) in both (nonzero byte) (list_all nonzero more) h.0 (no_zeros more h.1)

a_zero : (text : List ℕ) → Contains text 0 → list_all nonzero text ≡ false
a_zero text h = list_all_at nonzero text h.0 0 h.1 (ap nonzero h.2)

nothing : (b : Bool) → (b && false) ≡ false
nothing true = refl
nothing false = refl

no_channel : (text : List ℕ) → (31 < length text) ⊎ Contains text 0 → is_channel text ≡ false
no_channel text (inl h) = ap (λ b. b && list_all nonzero text) (lt-leb (length text) 31 h)
no_channel text (inr h) = ap (λ b. nat_le (length text) 31 && b) (a_zero text h) ∙ nothing (nat_le (length text) 31)

named : (text : List ℕ) (found : Option (List ℕ)) → IfSome found (λ name. name ≡ text) → IfSome found (λ name. (length text ≤ 31) × (text_before_zero text ≡ text)) → IfNone found ((31 < length text) ⊎ Contains text 0)
    → found ≡ cond (is_channel text) (Some text) None
named text None some fits none = ap (λ b. cond b (Some text) None) (sym (no_channel text none))
named text (Some name) some fits none =
    ap Some some ∙ ap (λ b. cond b (Some text) None) (sym (both (nat_le (length text) 31) (list_all nonzero text) (le-leb (length text) 31 fits.0) (no_zeros text fits.1)))

pub channel_found : (text bytes : List ℕ) (found : Option (List ℕ)) → text ≡ bytes → IfSome found (λ name. name ≡ text) → IfSome found (λ name. (length text ≤ 31) × (text_before_zero text ≡ text)) → IfNone found ((31 < length text) ⊎ Contains text 0)
    → found ≡ cond (is_channel bytes) (Some bytes) None
channel_found text bytes found e some fits none = named text found some fits none ∙ ap (λ t. cond (is_channel t) (Some t) None) e

pub no_name_read : (test : Bool) (text : List ℕ) → ◌≡◌ {A = Option (List ℕ)} None (cond test (Some text) None) → ◌≡◌ {A = List ℕ} [] (cond test text [])
no_name_read true text e = absurd (cc)
no_name_read false text e = refl
