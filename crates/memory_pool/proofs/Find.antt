-- The first element of a list that passes a test.
use Rattle.std.proofs.Common.{◌≡◌, ℕ, zero, suc, ◌+◌, ◌<◌, ◌≤◌, Bool, true, false, inl, inr, List, [], ◌∷◌, Some, None, refl, ap, arith, length, ◌&&◌, ◌||◌}
use Rattle.std.specs.Prelude.{slice_index_or}
use Rattle.std.specs.List.{find, range_with_len, list_any, filter, Contains}
use Rattle.std.proofs.lemmas.Bool.{cases_Bool, cases_eq, both_ways, false_from_ne_true, or_parts}
use Rattle.std.proofs.lemmas.List.Folds.{list_any_at}

-- the first number of a range that passes
pub find_first : (p : ℕ → Bool) (from n at : ℕ) → from ≤ at → at < from + n → p at ≡ true → ((k : ℕ) → from ≤ k → k < at → p k ≡ false) → find p (range_with_len from n) ≡ Some at
find_first p from zero at ge lt here below = absurd (omega arith)
find_first p from (suc n) at ge lt here below =
    elim (cases_eq from at) [
      | inl same ↦ let e : p from ≡ true = rw same here in rw e (ap Some same)
      | inr other ↦
          let e : p from ≡ false = below from (omega arith) (omega arith) in
          rw e (find_first p (from + 1) n at (omega arith) (omega arith) here (λ k low high. below k (omega arith) high))
    ]

-- no number of a range passes
pub find_none : (p : ℕ → Bool) (from n : ℕ) → ((k : ℕ) → from ≤ k → k < from + n → p k ≡ false) → find p (range_with_len from n) ≡ None
find_none p from zero none = refl
find_none p from (suc n) none =
    let e : p from ≡ false = none from (omega arith) (omega arith) in
    rw e (find_none p (from + 1) n (λ k low high. none k (omega arith) (omega arith)))

-- two tests that agree find the same
pub find_agree : {X : Type 0} (p q : X → Bool) → ((x : X) → p x ≡ q x) → (xs : List X) → find p xs ≡ find q xs
find_agree p q same [] = refl
find_agree p q same (x ∷ xs) = rw (same x, find_agree p q same xs) refl

-- what is found passes, and is in the list
pub find_is : {X : Type 0} (p : X → Bool) (xs : List X) (x : X) → find p xs ≡ Some x → (p x ≡ true) × Contains xs x
find_is p [] x e = absurd (cc)
find_is p (y ∷ ys) x e =
    elim (cases_Bool (p y)) [
      | inl t ↦
          let is : Some y ≡ Some x = rw t at e in
          let same : y ≡ x = cc in
          (rw (← same) t, (0, omega arith, same))
      | inr f ↦
          let rest = find_is p ys x (rw f at e) in
          (rest.0, (suc rest.1.0, omega arith, rest.1.2))
    ]

-- where no element passes, each fails
pub none_at : {X : Type 0} (p : X → Bool) (xs : List X) (k : ℕ) (d : X) → k < length xs → list_any p xs ≡ false → p (slice_index_or xs k d) ≡ false
none_at p xs k d lt none =
    false_from_ne_true (p (slice_index_or xs k d)) (λ t. both_ways (list_any p xs) none (list_any_at p xs k d lt t))

-- where none of those that pass one test passes another, each of them fails it
pub filtered_none : {X : Type 0} (p q : X → Bool) (xs : List X) (k : ℕ) (d : X) → k < length xs → list_any p (filter q xs) ≡ false → q (slice_index_or xs k d) ≡ true → p (slice_index_or xs k d) ≡ false
filtered_none p q [] k d lt none here = absurd (omega arith)
filtered_none p q (x ∷ xs) zero d lt none here =
    (or_parts (p x) (list_any p (filter q xs)) (rw here at none)).0
filtered_none p q (x ∷ xs) (suc k) d lt none here =
    elim (cases_Bool (q x)) [
      | inl t ↦ filtered_none p q xs k d (omega arith) (or_parts (p x) (list_any p (filter q xs)) (rw t at none)).1 here
      | inr f ↦ filtered_none p q xs k d (omega arith) (rw f at none) here
    ]

-- one of those that pass a test passes another where one passes both
pub any_filter : {X : Type 0} (p q : X → Bool) (xs : List X) → list_any p (filter q xs) ≡ list_any (λ x. q x && p x) xs
any_filter p q [] = refl
any_filter p q (x ∷ xs) =
    elim (cases_Bool (q x)) [
      | inl t ↦ rw t (ap (λ rest. p x || rest) (any_filter p q xs))
      | inr f ↦ rw f (any_filter p q xs)
    ]
