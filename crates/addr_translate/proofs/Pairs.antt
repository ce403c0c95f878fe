-- Relations that hold of each two of a list.
use Rattle.std.proofs.Common.{◌≡◌, ◌≢◌, ◌<◌, ◌⊎◌, inl, inr, ℕ, zero, suc, Bool, List, [], ◌∷◌, ◌++◌, length, get_or, set, refl, ap, sym, ◌∙◌, arith, map, length-set, get_or-set_same, get_or-set_other}
use Rattle.std.specs.List.{All, AllPairs, filter, swap}
use Rattle.std.specs.List.Sorted.{IsPermutation}
use Rattle.std.proofs.lemmas.Bool.{cases_eq, cases_order, cond_both}
use Rattle.std.proofs.lemmas.List.Edits.{swap_is, length-swap}
use Rattle.std.proofs.lemmas.List.Elements.{All-head, All-tail, All-append, All-filter, All-map, All-weaker}
use Rattle.std.proofs.lemmas.List.Sorted.{IsPermutation-keeps}

-- the relation holds of each element and each later one
abbrev pub EachTwo : {X : Type 0} → (X → X → Type 0) → List X → Type 0
EachTwo R [] = Unit {0}
EachTwo R (x ∷ xs) = All (R x) xs × EachTwo R xs

pub from_pairs : {X : Type 0} (R : X → X → Type 0) (xs : List X) → AllPairs R xs → EachTwo R xs
from_pairs R [] pairs = tt
from_pairs R (x ∷ xs) pairs =
    (λ k d lt. pairs 0 (suc k) d (omega arith) (omega arith), from_pairs R xs (λ i j d lt bound. pairs (suc i) (suc j) d (omega arith) (omega arith)))

pub to_pairs : {X : Type 0} (R : X → X → Type 0) (xs : List X) → EachTwo R xs → AllPairs R xs
to_pairs R [] two i j d lt bound = absurd (omega arith)
to_pairs R (x ∷ xs) two zero zero d lt bound = absurd (omega arith)
to_pairs R (x ∷ xs) two zero (suc j) d lt bound = two.0 j d (omega arith)
to_pairs R (x ∷ xs) two (suc i) zero d lt bound = absurd (omega arith)
to_pairs R (x ∷ xs) two (suc i) (suc j) d lt bound = to_pairs R xs two.1 i j d (omega arith) (omega arith)

pub two_append : {X : Type 0} (R : X → X → Type 0) (xs ys : List X) → EachTwo R xs → EachTwo R ys → All (λ x. All (R x) ys) xs → EachTwo R (xs ++ ys)
two_append R [] ys first second between = second
two_append R (x ∷ xs) ys first second between = (
  All-append (R x) xs ys first.0 (All-head (λ x. All (R x) ys) x xs between),
  two_append R xs ys first.1 second (All-tail (λ x. All (R x) ys) x xs between),
)

pub two_map : {X Y : Type 0} (R : Y → Y → Type 0) (f : X → Y) (xs : List X) → EachTwo (λ a b. R (f a) (f b)) xs → EachTwo R (map f xs)
two_map R f [] two = tt
two_map R f (x ∷ xs) two = (All-map (R (f x)) f xs two.0, two_map R f xs two.1)

pub two_filter : {X : Type 0} (R : X → X → Type 0) (p : X → Bool) (xs : List X) → EachTwo R xs → EachTwo R (filter p xs)
two_filter R p [] two = tt
two_filter R p (x ∷ xs) two =
    cond_both (p x) (x ∷ filter p xs) (filter p xs) (EachTwo R)
    (λ e. (All-filter p (R x) xs two.0, two_filter R p xs two.1))
    (λ e. two_filter R p xs two.1)

pub two_weaker : {X : Type 0} (R S : X → X → Type 0) → ((a b : X) → R a b → S a b) → (xs : List X) → EachTwo R xs → EachTwo S xs
two_weaker R S weaker [] two = tt
two_weaker R S weaker (x ∷ xs) two =
    (All-weaker (R x) (S x) (λ y. weaker x y) xs two.0, two_weaker R S weaker xs two.1)

-- the element at k stood at m before those at i and j were exchanged
abbrev CameFrom : ℕ → ℕ → ℕ → ℕ → Type 0
CameFrom i j k m = ((k ≡ j) × (m ≡ i)) ⊎ (((k ≡ i) × (m ≡ j)) ⊎ ((k ≢ i) × (k ≢ j) × (m ≡ k)))

came_apart : (i j p q m n : ℕ) → p < q → CameFrom i j p m → CameFrom i j q n → m ≢ n
came_apart i j p q m n less (inl one) (inl other) same = omega arith
came_apart i j p q m n less (inl one) (inr (inl other)) same = omega arith
came_apart i j p q m n less (inl one) (inr (inr other)) same = omega arith
came_apart i j p q m n less (inr (inl one)) (inl other) same = omega arith
came_apart i j p q m n less (inr (inl one)) (inr (inl other)) same = omega arith
came_apart i j p q m n less (inr (inl one)) (inr (inr other)) same = omega arith
came_apart i j p q m n less (inr (inr one)) (inl other) same = omega arith
came_apart i j p q m n less (inr (inr one)) (inr (inl other)) same = omega arith
came_apart i j p q m n less (inr (inr one)) (inr (inr other)) same = omega arith

at_swap : {X : Type 0} (xs : List X) (i j k : ℕ) (d : X) → i < length xs → j < length xs → k < length xs
    → (m : ℕ) × (m < length xs) × (get_or (swap xs i j) k d ≡ get_or xs m d) × CameFrom i j k m
at_swap xs i j k d first second bound =
    let half = set xs i (get_or xs j d) in
    let is : get_or (swap xs i j) k d ≡ get_or (set half j (get_or xs i d)) k d = ap (λ all. get_or all k d) (sym (swap_is xs i j d first second)) in
    elim (cases_eq k j) [
      | inl same ↦
          let within : j < length half = omega (arith, length-set xs i (get_or xs j d)) in
          (i, first, is ∙ ap (λ at. get_or (set half j (get_or xs i d)) at d) same ∙ get_or-set_same half j (get_or xs i d) d within, inl (same, refl))
      | inr not_second ↦
          let kept = is ∙ get_or-set_other half j k (get_or xs i d) d not_second in
          elim (cases_eq k i) [
            | inl same ↦ (j, second, kept ∙ ap (λ at. get_or half at d) same ∙ get_or-set_same xs i (get_or xs j d) d first, inr (inl (same, refl)))
            | inr not_first ↦ (k, bound, kept ∙ get_or-set_other xs i k (get_or xs j d) d not_first, inr (inr (not_first, not_second, refl)))
          ]
    ]

pairs_swap : {X : Type 0} (R : X → X → Type 0) → ((a b : X) → R a b → R b a) → (xs : List X) (i j : ℕ) → i < length xs → j < length xs → AllPairs R xs → AllPairs R (swap xs i j)
pairs_swap R back xs i j first second pairs p q d less bound =
    let within : q < length xs = omega (arith, length-swap xs i j) in
    let one = at_swap xs i j p d first second (omega arith) in
    let other = at_swap xs i j q d first second within in
    let apart = came_apart i j p q one.0 other.0 less one.3 other.3 in
    rw (one.2, other.2) (elim (cases_order one.0 other.0) [
      | inl same ↦ absurd (apart same)
      | inr order ↦ elim order [
        | inl below ↦ pairs one.0 other.0 d below other.1
        | inr above ↦ back (get_or xs other.0 d) (get_or xs one.0 d) (pairs other.0 one.0 d above one.1)
      ]
    ])

-- a relation that goes both ways holds of each two in any order
pub pairs_permuted : {X : Type 0} (R : X → X → Type 0) → ((a b : X) → R a b → R b a) → (xs ys : List X) → IsPermutation xs ys → AllPairs R xs → AllPairs R ys
pairs_permuted R back xs ys moved pairs =
    IsPermutation-keeps xs (AllPairs R) pairs (λ l i j first second kept. pairs_swap R back l i j first second kept) ys moved
