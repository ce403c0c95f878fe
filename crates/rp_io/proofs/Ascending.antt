-- Numbers that ascend, and what a binary search finds in them.
use Rattle.std.proofs.Common.{◌≡◌, ℕ, zero, suc, ◌<◌, ◌≤◌, ◌==◌, ◌&&◌, Bool, true, false, eqb, List, [], ◌∷◌, length, get_or, Result, Ok, Err, is_ok, refl, sym, ⊎_elim, arith, rules, tests}
use borrow.Author.Tests.{ltb-true}
use Rattle.std.specs.List.{list_any}
use Rattle.std.specs.List.Sorted.{IsBinarySearchResult}
use Rattle.std.specs.Ordering.{nat_cmp}
use Rattle.std.proofs.lemmas.Bool.{false≢true, cases_lt, eq-eqb}
use Rattle.std.proofs.lemmas.List.Elements.{All-from_get_or}
use Rattle.std.proofs.lemmas.List.Folds.{list_any_at, list_any_none}
use Rattle.std.proofs.lemmas.List.Sorted.{searched}
use Rattle.rp_io.specs.Calls.{ascends, ascends_above}

both_true : (a b : Bool) → (a && b) ≡ true → (a ≡ true) × (b ≡ true)
both_true true b h = (refl, h)
both_true false b h = absurd (false≢true h)

-- each of numbers that ascend above `low` is above it
all_above : (low : ℕ) (xs : List ℕ) → ascends_above low xs ≡ true → (k : ℕ) → k < length xs → low < get_or xs k 0
all_above low [] h k within = absurd (omega arith)
all_above low (x ∷ xs) h zero within = ltb-true low x (both_true _ _ h).0
all_above low (x ∷ xs) h (suc k) within =
    let parts = both_true _ _ h in
    let first = ltb-true low x parts.0 in
    let more = all_above x xs parts.1 k (omega arith) in
    omega arith

-- of numbers that ascend, one further back is no smaller
in_order : (x : ℕ) (xs : List ℕ) → ascends_above x xs ≡ true → (i j : ℕ) → i ≤ j → j < length (x ∷ xs) → get_or (x ∷ xs) i 0 ≤ get_or (x ∷ xs) j 0
in_order x xs h zero zero le within = omega arith
in_order x xs h zero (suc j) le within =
    let above = all_above x xs h j (omega arith) in omega arith
in_order x xs h (suc i) zero le within = absurd (omega arith)
in_order x [] h (suc i) (suc j) le within = absurd (omega arith)
in_order x (y ∷ ys) h (suc i) (suc j) le within = in_order y ys (both_true _ _ h).1 i j (omega arith) (omega arith)

ascends-in_order : (xs : List ℕ) → ascends xs ≡ true → (i j : ℕ) → i ≤ j → j < length xs → get_or xs i 0 ≤ get_or xs j 0
ascends-in_order [] h i j le within = absurd (omega arith)
ascends-in_order (x ∷ xs) h i j le within = in_order x xs h i j le within

-- a binary search succeeds exactly where the number is one of them
pub is_ok-binary_search : (xs : List ℕ) (x : ℕ) (r : Result ℕ ℕ) → ascends xs ≡ true → IsBinarySearchResult (λ y. nat_cmp y x) xs r → is_ok r ≡ list_any (λ number. number == x) xs
is_ok-binary_search xs x (Ok i) h position =
    let at = searched xs x (Ok i) position (ascends-in_order xs h) in
    sym (list_any_at (λ number. number == x) xs i 0 at.0 (eq-eqb _ _ at.1))
is_ok-binary_search xs x (Err i) h position =
    let apart = searched xs x (Err i) position (ascends-in_order xs h) in
    let differs : (k : ℕ) → k < length xs → eqb (get_or xs k 0) x ≡ false = λ k within. different (get_or xs k 0) x (λ same. clash k within same apart) in
    sym (list_any_none (λ number. number == x) xs (All-from_get_or (λ number. eqb number x ≡ false) xs 0 differs))
  where
    different : (a b : ℕ) → (a ≡ b → ⊥) → eqb a b ≡ false
    different a b ne = search (rules, tests)

    clash : (k : ℕ) → k < length xs → get_or xs k 0 ≡ x → (i ≤ length xs) × ((k : ℕ) → k < i → get_or xs k 0 < x) × ((k : ℕ) → i ≤ k → k < length xs → x < get_or xs k 0) → ⊥
    clash k within same apart =
        ⊎_elim (λ below. let less = apart.1 k below in omega arith) (λ above. let more = apart.2 k above within in omega arith) (cases_lt k i)
