-- A text cut at a byte.
use Rattle.std.proofs.Common.{◌≡◌, ℕ, ◌+◌, ◌<◌, ◌-◌, ◌==◌, Bool, true, false, cond, List, [], ◌∷◌, length, take, drop, Some, None, refl, sym, ◌∙◌, ap, arith, length-drop}
use lib.Dec.{ltb as nat_lt}
use Rattle.std.specs.List.{slice_split, position, position_or_len}
use Rattle.std.proofs.lemmas.Bool.{ltb-false}
use Rattle.std.proofs.lemmas.List.{take_all}
use Rattle.std.proofs.lemmas.List.Quantifiers.{position-Some}
use Rattle.std.proofs.lemmas.List.Sums.{position_or_len_is, fails_before_first}
use Rattle.std.proofs.lemmas.List.Splits.{slice_split_first, slice_split_none}

-- at the first place of the byte
pub cut_here : (text : List ℕ) (byte place : ℕ) → position (λ found. found == byte) text ≡ Some place
    → slice_split (λ found. found == byte) text ≡ take place text ∷ slice_split (λ found. found == byte) (take (length text - (place + 1)) (drop (place + 1) text))
cut_here text byte place e =
    let p : ℕ → Bool = λ found. found == byte in
    let at = position-Some p text place 0 e in
    let is : position_or_len p text ≡ place = position_or_len_is p text place 0 (let h = at.0 in omega arith) at.2 (λ h. at.1) in
    let within : position_or_len p text < length text = let h = at.0 in omega arith in
    let whole : take (length text - (place + 1)) (drop (place + 1) text) ≡ drop (place + 1) text = take_all _ _ (omega (arith, length-drop (place + 1) text)) in
    slice_split_first p text 0 within ∙ ap (λ n. take n text ∷ slice_split p (drop (n + 1) text)) is ∙ ap (λ rest. take place text ∷ slice_split p rest) (sym whole)

no_place : (test : Bool) (place : ℕ) → cond test (Some place) None ≡ None → test ≡ false
no_place true place e = absurd (cc)
no_place false place e = refl

-- no place of the byte
pub no_cut : (text : List ℕ) (byte : ℕ) → position (λ found. found == byte) text ≡ None → slice_split (λ found. found == byte) text ≡ text ∷ []
no_cut text byte e =
    let p : ℕ → Bool = λ found. found == byte in
    let past = ltb-false (position_or_len p text) (length text) (no_place (nat_lt (position_or_len p text) (length text)) (position_or_len p text) e) in
    slice_split_none p text (λ k d h. fails_before_first p text k d (omega arith))
