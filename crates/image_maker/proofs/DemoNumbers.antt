-- How a number in decimal is read in a line of a script.
use Rattle.std.proofs.Common.{◌≡◌, ◌∙◌, ◌<◌, ◌≤◌, ◌+◌, ◌*◌, ◌/◌, ◌%◌, ◌^◌, ◌==◌, ◌&&◌, ◌⊎◌, ℕ, Bool, true, false, cond, List, [], ◌∷◌, ◌++◌, length, get_or, Option, Some, None, zero, suc, refl, ap, arith, inl, inr}
use Rattle.std.specs.Prelude.{nat_le}
use Rattle.std.specs.Fmt.{decimal}
use Rattle.std.specs.List.{list_all}
use Rattle.std.proofs.lemmas.Bool.{ne_eqb, le-leb}
use Rattle.std.proofs.lemmas.Bool.Decides.{nat_tests}
use Rattle.std.proofs.lemmas.Fmt.{decimal_by_steps, decimal_digit, decimal_nonempty, first_decimal}
use Rattle.std.proofs.lemmas.List.Folds.{list_all-append}
use Rattle.word_kinds.proofs.Clean.{both}
use Rattle.word_kinds.specs.Spellings.{is_digit, is_digit_to, hex_value, digits_from, decimal_of, hexadecimal_of, number_of}

-- a digit
digit_value : (digit : ℕ) → digit < 10 → hex_value (48 + digit) ≡ digit
digit_value digit small = grind (arith, nat_tests)

digit_is : (digit : ℕ) → digit < 10 → is_digit_to 10 (48 + digit) ≡ true
digit_is digit small = grind (arith, nat_tests)

-- a digit more
here : (value digit : ℕ) → digit < 10 → 10 * value + digit ≤ 4294967295 → digits_from 10 value ((48 + digit) ∷ []) ≡ Some (10 * value + digit)
here value digit small fits =
    ap (λ v. cond (is_digit_to 10 (48 + digit) && nat_le (10 * value + v) 4294967295) (Some (10 * value + v)) None) (digit_value digit small)
    ∙ ap (λ b. cond (b && nat_le (10 * value + digit) 4294967295) (Some (10 * value + digit)) None) (digit_is digit small)
    ∙ ap (λ b. cond b (Some (10 * value + digit)) None) (le-leb (10 * value + digit) 4294967295 fits)

behind : (test : Bool) (before after : Option ℕ) (old new : ℕ) → (before ≡ Some old → after ≡ Some new) → cond test before None ≡ Some old → cond test after None ≡ Some new
behind true before after old new next e = next e
behind false before after old new next e = absurd (cc)

digit_more : (front : List ℕ) (value number digit : ℕ) → digit < 10 → 10 * number + digit ≤ 4294967295 → digits_from 10 value front ≡ Some number
    → digits_from 10 value (front ++ (48 + digit) ∷ []) ≡ Some (10 * number + digit)
digit_more [] value number digit small fits e =
    let same : value ≡ number = cc in here value digit small (omega arith) ∙ ap (λ v. Some (10 * v + digit)) same
digit_more (first ∷ more) value number digit small fits e =
    let next = 10 * value + hex_value first in
    behind (is_digit_to 10 first && nat_le next 4294967295) (digits_from 10 next more) (digits_from 10 next (more ++ (48 + digit) ∷ [])) number (10 * number + digit)
    (digit_more more next number digit small fits) e

digits_back : (number : ℕ) → number ≤ 4294967295 → digits_from 10 0 (decimal number) ≡ Some number
digits_back number small =
    decimal_by_steps (λ n digits. n ≤ 4294967295 → digits_from 10 0 digits ≡ Some n)
    (λ n less fits. here 0 n less (omega arith) ∙ ap Some (omega arith))
    (λ n digits large before fits. digit_more digits 0 (n / 10) (n % 10) (omega arith) (omega arith) (before (omega arith)) ∙ ap Some (omega arith))
    number (omega arith) small

-- the first digit is zero in the number 0 alone
first_digit : (number : ℕ) → number < 2 ^ 64 → (length (decimal number) ≡ 1) ⊎ (48 < get_or (decimal number) 0 0)
first_digit zero small = inl (ap length (decimal_digit 0 (omega arith)))
first_digit (suc number) small = inr (first_decimal (suc number) (omega arith) small)

decimal_read : (word : List ℕ) → 0 < length word → (length word ≡ 1) ⊎ (48 < get_or word 0 0) → decimal_of word ≡ digits_from 10 0 word
decimal_read [] some first = absurd (omega arith)
decimal_read (digit ∷ []) some first = refl
decimal_read (digit ∷ next ∷ more) some (inl one) = absurd (omega arith)
decimal_read (digit ∷ next ∷ more) some (inr large) =
    ap (λ b. cond b None (digits_from 10 0 (digit ∷ next ∷ more))) (ne_eqb digit 48 (λ e. absurd (omega arith)))

nothing : (test : Bool) → (test && false) ≡ false
nothing true = refl
nothing false = refl

number_read : (word : List ℕ) → 0 < length word → (length word ≡ 1) ⊎ (48 < get_or word 0 0) → number_of word ≡ decimal_of word
number_read [] some first = absurd (omega arith)
number_read (digit ∷ []) some first = ap (λ b. cond b (hexadecimal_of []) (decimal_of (digit ∷ []))) (nothing (digit == 48))
number_read (digit ∷ next ∷ more) some (inl one) = absurd (omega arith)
number_read (digit ∷ next ∷ more) some (inr large) =
    ap (λ b. cond (b && (next == 120)) (hexadecimal_of more) (decimal_of (digit ∷ next ∷ more))) (ne_eqb digit 48 (λ e. absurd (omega arith)))

pub decimal_back : (number : ℕ) → number ≤ 4294967295 → decimal_of (decimal number) ≡ Some number
decimal_back number small = decimal_read (decimal number) (decimal_nonempty number (omega arith)) (first_digit number (omega arith)) ∙ digits_back number small

pub number_back : (number : ℕ) → number ≤ 4294967295 → number_of (decimal number) ≡ Some number
number_back number small = number_read (decimal number) (decimal_nonempty number (omega arith)) (first_digit number (omega arith)) ∙ decimal_back number small

-- all bytes are digits
pub is_one : (digit : ℕ) → digit < 10 → is_digit (48 + digit) ≡ true
is_one digit small = grind (arith, nat_tests)

pub all_digits : (number : ℕ) → number < 2 ^ 64 → list_all is_digit (decimal number) ≡ true
all_digits =
    decimal_by_steps (λ number digits. list_all is_digit digits ≡ true)
    (λ number small. both (is_digit (48 + number)) true (is_one number small) refl)
    (λ number digits large before.
    list_all-append is_digit digits ((48 + number % 10) ∷ []) ∙ both (list_all is_digit digits) _ before (both (is_digit (48 + number % 10)) true (is_one (number % 10) (omega arith)) refl))
