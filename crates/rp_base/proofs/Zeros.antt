-- Texts without a zero, in fields filled with zeros.
use Rattle.std.proofs.Common.{◌≡◌, ℕ, zero, suc, ◌+◌, ◌-◌, ◌==◌, eqb, Bool, true, false, not, cond, ◌||◌, List, [], ◌∷◌, ◌++◌, length, take, drop, replicate, refl, ap, sym, ◌∙◌, arith, append-nil}
use Rattle.std.specs.List.{prefix_len, list_any}
use Rattle.std.proofs.lemmas.Bool.{false≢true}
use Rattle.std.proofs.Math.Seq.{take-append_seam}
use Rattle.std.proofs.lemmas.List.{drop-replicate}
use Rattle.std.proofs.lemmas.List.Sums.{take_while-cons}
use Rattle.rp_base.specs.Texts.{text_before_zero, padded_name}

abbrev pub is_text : ℕ → Bool
is_text byte = not (byte == 0)

or_false : (a b : Bool) → (a || b) ≡ false → (a ≡ false) × (b ≡ false)
or_false false b h = (refl, h)
or_false true b h = absurd (false≢true (sym h))

-- a text without a zero ends at the zeros behind it
pub prefix_len-append : (text : List ℕ) (n : ℕ) → list_any (λ byte. eqb byte 0) text ≡ false → prefix_len is_text (text ++ replicate n 0) ≡ length text
prefix_len-append [] zero clear = refl
prefix_len-append [] (suc n) clear = refl
prefix_len-append (x ∷ xs) n clear =
    let parts = or_false (eqb x 0) (list_any (λ byte. eqb byte 0) xs) clear in
    ap (λ b. cond (not b) (1 + prefix_len is_text (xs ++ replicate n 0)) 0) parts.0
    ∙ (let rest = prefix_len-append xs n parts.1 in omega arith)

-- a text without a zero, and then zeros or nothing, has the text before its first zero
pub text_before_zero-append : (text : List ℕ) (n : ℕ) → list_any (λ byte. eqb byte 0) text ≡ false → text_before_zero (text ++ replicate n 0) ≡ text
text_before_zero-append text n clear =
    ap (λ k. take k (text ++ replicate n 0)) (prefix_len-append text n clear) ∙ take-append_seam text (replicate n 0)

-- in a field of 32 bytes: the field is the padded text, whose text is this one again
pub padded_field : (text field : List ℕ) → list_any (λ byte. eqb byte 0) text ≡ false → field ≡ text ++ drop (length text) (replicate 32 0) → (text_before_zero field ≡ text) × (field ≡ padded_name (text_before_zero field))
padded_field text field clear is =
    let zeros : field ≡ padded_name text = is ∙ ap (λ rest. text ++ rest) (drop-replicate (length text) 32 0) in
    let same : text_before_zero field ≡ text = ap text_before_zero zeros ∙ text_before_zero-append text (32 - length text) clear in
    (same, zeros ∙ ap padded_name (sym same))

-- a text without a zero is its own text
pub text_before_zero-clear : (text : List ℕ) → list_any (λ byte. eqb byte 0) text ≡ false → text_before_zero text ≡ text
text_before_zero-clear text clear = ap text_before_zero (sym (append-nil text)) ∙ text_before_zero-append text 0 clear

-- what stands before the first zero has no zero
pub text_before_zero-is_clear : (bytes : List ℕ) → list_any (λ byte. eqb byte 0) (text_before_zero bytes) ≡ false
text_before_zero-is_clear [] = refl
text_before_zero-is_clear (x ∷ xs) =
    ap (list_any (λ byte. eqb byte 0)) (take_while-cons is_text x xs) ∙ kept (eqb x 0) refl (text_before_zero-is_clear xs)
  where
    kept : (b : Bool) → eqb x 0 ≡ b → list_any (λ byte. eqb byte 0) (text_before_zero xs) ≡ false → list_any (λ byte. eqb byte 0) (cond (not (eqb x 0)) (x ∷ text_before_zero xs) []) ≡ false
    kept true is rest = rw is refl
    kept false is rest = rw is (rw is rest)
