-- The numbers of one taker among all takers.
use Rattle.std.proofs.Common.{◌≡◌, ℕ, zero, suc, ◌+◌, ◌<◌, Bool, true, false, cond, eqb, List, [], ◌∷◌, Option, Some, refl, ap, sym, subst, ◌∙◌, arith}
use Rattle.std.specs.List.{All, Contains}
use Rattle.std.specs.Prelude.{slice_get}
use Rattle.std.proofs.lemmas.Bool.{eqb-true}
use Rattle.std.proofs.lemmas.List.Elements.{All-nil, All-cons, All-contains}
use Rattle.link_words.specs.Histories.{takes_by}
use Rattle.shared_laws.specs.Taken.{Ascends}

next_number : (n j : ℕ) → n + suc j ≡ suc n + j
next_number n j = omega arith

first_number : (n : ℕ) → n + 0 ≡ n
first_number n = omega arith

-- what holds of the number of each place at which the caller is a taker, holds of each number that it took
pub taken_at : (P : ℕ → Type 0) (caller n : ℕ) (cs : List ℕ) → ((j : ℕ) → slice_get cs j ≡ Some caller → P (n + j)) → All P (takes_by caller n cs)
taken_at P caller n [] all = All-nil P
taken_at P caller n (c ∷ cs) all =
    by (eqb c caller) (taken_at P caller (suc n) cs (λ j here. subst P (next_number n j) (all (suc j) here))) (eqb-true c caller)
  where
    by : (b : Bool) → All P (takes_by caller (suc n) cs) → (b ≡ true → c ≡ caller) → All P (cond b (n ∷ takes_by caller (suc n) cs) (takes_by caller (suc n) cs))
    by true rest same = All-cons P n (takes_by caller (suc n) cs) (subst P (first_number n) (all 0 (ap Some (same refl)))) rest
    by false rest same = rest

above_first : (n j : ℕ) → n < suc n + j
above_first n j = omega arith

-- they ascend
pub taken_ascend : (caller n : ℕ) (cs : List ℕ) → Ascends (takes_by caller n cs)
taken_ascend caller n [] = tt
taken_ascend caller n (c ∷ cs) = by (eqb c caller) (taken_ascend caller (suc n) cs)
  where
    by : (b : Bool) → Ascends (takes_by caller (suc n) cs) → Ascends (cond b (n ∷ takes_by caller (suc n) cs) (takes_by caller (suc n) cs))
    by true rest = (taken_at (λ m. n < m) caller (suc n) cs (λ j here. above_first n j), rest)
    by false rest = rest

-- the caller is the taker of each
pub taker_is : (caller : ℕ) (cs : List ℕ) (number : ℕ) → Contains (takes_by caller 0 cs) number → slice_get cs number ≡ Some caller
taker_is caller cs number there =
    All-contains (λ k. slice_get cs k ≡ Some caller) (takes_by caller 0 cs) number
    (taken_at (λ k. slice_get cs k ≡ Some caller) caller 0 cs (λ j here. subst (λ k. slice_get cs k ≡ Some caller) (sym (zero_plus j)) here)) there
  where
    zero_plus : (j : ℕ) → 0 + j ≡ j
    zero_plus j = omega arith

some_same : (a b : ℕ) (o : Option ℕ) → o ≡ Some a → o ≡ Some b → a ≡ b
some_same a b o one other = cc

-- so one number has one taker
pub one_taker : (one other : ℕ) (cs : List ℕ) (number : ℕ) → Contains (takes_by one 0 cs) number → Contains (takes_by other 0 cs) number → one ≡ other
one_taker one other cs number here there = some_same one other (slice_get cs number) (taker_is one cs number here) (taker_is other cs number there)
