-- The hexadecimal digits of a number below 2^64: one of them, or those of its sixteenth and one more.
use Rattle.std.proofs.Common.{◌≡◌, ℕ, zero, suc, ◌/◌, ◌%◌, ◌^◌, ◌<◌, ◌≤◌, false, cond, List, [], ◌∷◌, ◌++◌, refl, sym, ◌∙◌, ap, subst, arith, inl, inr, append_assoc}
use Rattle.std.specs.Fmt.{digits, digits_onto, digit_glyph}
use Rattle.std.proofs.lemmas.Bool.{eq-eqb, ne_eqb, cases_lt}
use Rattle.std.proofs.lemmas.Bool.Decides.{nat_tests}
use Rattle.word_kinds.specs.Texts.{hex_digit}

-- at most so many digits of a number, and the rest behind them
abbrev spelled : ℕ → ℕ → List ℕ → List ℕ
spelled most n rest = digits_onto most 16 false n rest

abbrev last : ℕ → ℕ
last n = digit_glyph false (n % 16)

last_is : (n : ℕ) → last n ≡ hex_digit (n % 16)
last_is n = grind (arith, nat_tests)

spelled_one : (most n : ℕ) (rest : List ℕ) → n < 16 → spelled (suc most) n rest ≡ last n ∷ rest
spelled_one most n rest small = ap (λ b. cond b (last n ∷ rest) (spelled most (n / 16) (last n ∷ rest))) (eq-eqb (n / 16) 0 (omega arith))

spelled_more : (most n : ℕ) (rest : List ℕ) → 16 ≤ n → spelled (suc most) n rest ≡ spelled most (n / 16) (last n ∷ rest)
spelled_more most n rest large = ap (λ b. cond b (last n ∷ rest) (spelled most (n / 16) (last n ∷ rest))) (ne_eqb (n / 16) 0 (λ e. absurd (omega arith)))

spelled_front : (most n : ℕ) (rest : List ℕ) → spelled most n rest ≡ spelled most n [] ++ rest
spelled_front zero n rest = refl
spelled_front (suc most) n rest =
    elim (cases_lt n 16) [
      | inl small ↦ spelled_one most n rest small ∙ ap (λ xs. xs ++ rest) (sym (spelled_one most n [] small))
      | inr large ↦
          spelled_more most n rest large ∙ spelled_front most (n / 16) (last n ∷ rest) ∙ sym (append_assoc (spelled most (n / 16) []) (last n ∷ []) rest)
          ∙ ap (λ xs. xs ++ rest) (sym (spelled_more most n [] large ∙ spelled_front most (n / 16) (last n ∷ [])))
    ]

-- more digits than it has make no difference
spelled_whole : (most more n : ℕ) → n < 16 ^ suc most → n < 16 ^ suc more → spelled (suc most) n [] ≡ spelled (suc more) n []
spelled_whole zero more n h g = spelled_one zero n [] (omega arith) ∙ sym (spelled_one more n [] (omega arith))
spelled_whole (suc most) zero n h g = spelled_one (suc most) n [] (omega arith) ∙ sym (spelled_one zero n [] (omega arith))
spelled_whole (suc most) (suc more) n h g =
    elim (cases_lt n 16) [
      | inl small ↦ spelled_one (suc most) n [] small ∙ sym (spelled_one (suc more) n [] small)
      | inr large ↦
          spelled_more (suc most) n [] large ∙ spelled_front (suc most) (n / 16) (last n ∷ []) ∙ ap (λ xs. xs ++ last n ∷ []) (spelled_whole most more (n / 16) (omega arith) (omega arith))
          ∙ sym (spelled_more (suc more) n [] large ∙ spelled_front (suc more) (n / 16) (last n ∷ []))
    ]

pub one_hexadecimal : (n : ℕ) → n < 16 → digits 16 false n ≡ hex_digit (n % 16) ∷ []
unfolding digits
one_hexadecimal n small = spelled_one 63 n [] small ∙ ap (λ digit. digit ∷ []) (last_is n)

pub more_hexadecimals : (n : ℕ) → 16 ≤ n → n < 2 ^ 64 → digits 16 false n ≡ digits 16 false (n / 16) ++ hex_digit (n % 16) ∷ []
unfolding digits
more_hexadecimals n large small =
    spelled_more 63 n [] large ∙ spelled_front 63 (n / 16) (last n ∷ []) ∙ ap (λ xs. xs ++ last n ∷ []) (spelled_whole 62 63 (n / 16) (omega arith) (omega arith))
    ∙ ap (λ digit. spelled 64 (n / 16) [] ++ digit ∷ []) (last_is n)

-- by induction on the digits
module _ (P : ℕ → List ℕ → Type 0) (one : (n : ℕ) → n < 16 → P n (hex_digit (n % 16) ∷ [])) (more : (n : ℕ) (front : List ℕ) → 16 ≤ n → P (n / 16) front → P n (front ++ hex_digit (n % 16) ∷ [])) where
  up_to : (most n : ℕ) → n ≤ most → n < 2 ^ 64 → P n (digits 16 false n)
  up_to zero n h small = subst (P n) (sym (one_hexadecimal n (omega arith))) (one n (omega arith))
  up_to (suc most) n h small =
      elim (cases_lt n 16) [
        | inl one_digit ↦ subst (P n) (sym (one_hexadecimal n one_digit)) (one n one_digit)
        | inr large ↦ subst (P n) (sym (more_hexadecimals n large small)) (more n (digits 16 false (n / 16)) large (up_to most (n / 16) (omega arith) (omega arith)))
      ]

  pub hexadecimal_by_steps : (n : ℕ) → n < 2 ^ 64 → P n (digits 16 false n)
  hexadecimal_by_steps n small = up_to n n (omega arith) small

-- the last digit is pushed behind none, or behind the others
pub pushed_one : (n digit : ℕ) (before between after : List ℕ) → n < 16 → between ≡ before → after ≡ between ++ digit ∷ [] → digit ≡ hex_digit (n % 16) → after ≡ before ++ digits 16 false n
pushed_one n digit before between after small same pushed is = pushed ∙ ap (λ xs. xs ++ digit ∷ []) same ∙ ap (λ last. before ++ last ∷ []) is ∙ ap (λ xs. before ++ xs) (sym (one_hexadecimal n small))

pub pushed_more : (n digit : ℕ) (before between after : List ℕ) → 16 ≤ n → n < 2 ^ 64 → between ≡ before ++ digits 16 false (n / 16) → after ≡ between ++ digit ∷ [] → digit ≡ hex_digit (n % 16) → after ≡ before ++ digits 16 false n
pushed_more n digit before between after large small front pushed is =
    pushed ∙ ap (λ xs. xs ++ digit ∷ []) front ∙ append_assoc before (digits 16 false (n / 16)) (digit ∷ []) ∙ ap (λ last. before ++ (digits 16 false (n / 16) ++ last ∷ [])) is
    ∙ ap (λ xs. before ++ xs) (sym (more_hexadecimals n large small))
