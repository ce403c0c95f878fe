-- Ranges of which no two meet, each within a region, have no more addresses than the regions.
use Rattle.std.proofs.Common.{◌≡◌, ℕ, zero, suc, Bool, ◌+◌, ◌-◌, ◌≤◌, ◌⊎◌, inl, inr, List, [], ◌∷◌, map, refl, ap, arith}
use Rattle.std.specs.Prelude.{slice_index_or}
use Rattle.std.specs.List.{All, Contains, filter, sum_by}
use Rattle.std.proofs.lemmas.Bool.{cases_Bool, cases_eq}
use Rattle.std.proofs.lemmas.List.Elements.{All-nil, All-cons, All-contains, All-head, All-tail, All-weaker}
use Rattle.std.proofs.lemmas.List.Sums.{sum_by-cons}
use Rattle.addr_translate.proofs.Pairs.{EachTwo}

-- how many addresses below one a range has
abbrev pub below : ℕ → ℕ × ℕ → ℕ
below address range = (address - range.0) - (address - (range.0 + range.1))

-- whether it has this address, as a number
abbrev pub hit : ℕ → ℕ × ℕ → ℕ
hit address range = below (address + 1) range - below address range

-- one range ends before the other begins
abbrev pub IsApart : ℕ × ℕ → ℕ × ℕ → Type 0
IsApart a b = (b.0 + b.1 ≤ a.0) ⊎ (a.0 + a.1 ≤ b.0)

-- one range lies in the other
abbrev pub IsWithin : ℕ × ℕ → ℕ × ℕ → Type 0
IsWithin inner outer = (outer.0 ≤ inner.0) × (inner.0 + inner.1 ≤ outer.0 + outer.1)

one_more : (address : ℕ) (range : ℕ × ℕ) → below (address + 1) range ≡ below address range + hit address range
one_more address range = omega arith

all_more : (address : ℕ) (ranges : List (ℕ × ℕ)) → sum_by (below (address + 1)) ranges ≡ sum_by (below address) ranges + sum_by (hit address) ranges
all_more address [] = refl
all_more address (range ∷ more) =
    omega
    (arith, sum_by-cons (below (address + 1)) range more, sum_by-cons (below address) range more, sum_by-cons (hit address) range more, one_more address range, all_more address more)

none_hit : (f : ℕ × ℕ → ℕ) (ranges : List (ℕ × ℕ)) → All (λ range. f range ≤ 0) ranges → sum_by f ranges ≡ 0
none_hit f [] all = refl
none_hit f (range ∷ more) all =
    omega (arith, sum_by-cons f range more, All-head (λ range. f range ≤ 0) range more all, none_hit f more (All-tail (λ range. f range ≤ 0) range more all))

not_both : (address : ℕ) (a b : ℕ × ℕ) → IsApart a b → 1 ≤ hit address a → hit address b ≤ 0
not_both address a b (inl before) here = omega arith
not_both address a b (inr behind) here = omega arith

-- an address is in one of them at most
pub one_hit : (address : ℕ) (ranges : List (ℕ × ℕ)) → EachTwo IsApart ranges → sum_by (hit address) ranges ≤ 1
one_hit address [] two = omega arith
one_hit address (range ∷ more) two =
    let all = sum_by-cons (hit address) range more in
    let once : hit address range ≤ 1 = omega arith in
    elim (cases_eq (hit address range) 0) [
      | inl none ↦ omega (arith, all, one_hit address more two.1)
      | inr some ↦
          let here : 1 ≤ hit address range = omega arith in
          omega (arith, all, none_hit (hit address) more (λ k d lt. not_both address range (slice_index_or more k d) (two.0 k d lt) here))
    ]

within_hit : (address : ℕ) (inner outer : ℕ × ℕ) → IsWithin inner outer → hit address inner ≤ hit address outer
within_hit address inner outer within = omega arith

-- one of a list counts no more than all
part_of_sum : (f : ℕ × ℕ → ℕ) (ranges : List (ℕ × ℕ)) → All (λ range. f range ≤ sum_by f ranges) ranges
part_of_sum f [] = All-nil (λ range. f range ≤ 0)
part_of_sum f (range ∷ more) =
    let all = sum_by-cons f range more in
    let total = sum_by f (range ∷ more) in
    All-cons (λ one. f one ≤ total) range more (omega arith)
    (All-weaker (λ one. f one ≤ sum_by f more) (λ one. f one ≤ total) (λ one le. omega arith) more (part_of_sum f more))

-- an address is in the ranges no more often than in the regions
hit_within : (address : ℕ) (ranges regions : List (ℕ × ℕ)) → sum_by (hit address) ranges ≤ 1 → All (λ inner. (outer : ℕ × ℕ) × Contains regions outer × IsWithin inner outer) ranges
    → sum_by (hit address) ranges ≤ sum_by (hit address) regions
hit_within address ranges regions once inside =
    elim (cases_eq (sum_by (hit address) regions) 0) [
      | inr some ↦ omega arith
      | inl none ↦
          omega (
            arith,
            none_hit (hit address) ranges (λ k d lt.
                let held = inside k d lt in
                omega (arith, within_hit address (slice_index_or ranges k d) held.0 held.2, All-contains (λ range. hit address range ≤ sum_by (hit address) regions) regions held.0 (part_of_sum (hit address) regions) held.1)),
          )
    ]

below_none : (ranges : List (ℕ × ℕ)) → sum_by (below 0) ranges ≡ 0
below_none ranges = none_hit (below 0) ranges (λ k d lt. omega arith)

below_within : (address : ℕ) (ranges regions : List (ℕ × ℕ)) → ((here : ℕ) → sum_by (hit here) ranges ≤ sum_by (hit here) regions) → sum_by (below address) ranges ≤ sum_by (below address) regions
below_within zero ranges regions each = omega (arith, below_none ranges)
below_within (suc address) ranges regions each =
    let next : suc address ≡ address + 1 = omega arith in
    omega
    (arith, ap (λ n. sum_by (below n) ranges) next, ap (λ n. sum_by (below n) regions) next, all_more address ranges, all_more address regions, each address, below_within address ranges regions each)

-- a range that ends by an address is all below it
all_below : (address : ℕ) (ranges : List (ℕ × ℕ)) → All (λ range. range.0 + range.1 ≤ address) ranges → sum_by (below address) ranges ≡ sum_by (λ range. range.1) ranges
all_below address [] all = refl
all_below address (range ∷ more) all =
    omega (
      arith,
      sum_by-cons (below address) range more,
      sum_by-cons (λ (range : ℕ × ℕ). range.1) range more,
      All-head (λ (range : ℕ × ℕ). range.0 + range.1 ≤ address) range more all,
      all_below address more (All-tail (λ (range : ℕ × ℕ). range.0 + range.1 ≤ address) range more all),
    )

-- the lengths of all of them together are at most those of the regions
pub lengths_within : (end : ℕ) (ranges regions : List (ℕ × ℕ)) → ((address : ℕ) → sum_by (hit address) ranges ≤ 1) → All (λ range. range.0 + range.1 ≤ end) ranges → All (λ range. range.0 + range.1 ≤ end) regions
    → All (λ inner. (outer : ℕ × ℕ) × Contains regions outer × IsWithin inner outer) ranges → sum_by (λ range. range.1) ranges ≤ sum_by (λ range. range.1) regions
lengths_within end ranges regions once ends region_ends inside =
    omega (arith, below_within end ranges regions (λ address. hit_within address ranges regions (once address) inside), all_below end ranges ends, all_below end regions region_ends)

-- those that pass a test have an address no more often
pub hit_filtered : {X : Type 0} (address : ℕ) (f : X → ℕ × ℕ) (p : X → Bool) (xs : List X) → sum_by (hit address) (map f (filter p xs)) ≤ sum_by (hit address) (map f xs)
hit_filtered address f p [] = omega arith
hit_filtered address f p (x ∷ xs) =
    let all = sum_by-cons (hit address) (f x) (map f xs) in
    let later = hit_filtered address f p xs in
    elim (cases_Bool (p x)) [
      | inl kept ↦ rw kept (omega (arith, all, later, sum_by-cons (hit address) (f x) (map f (filter p xs))))
      | inr left ↦ rw left (omega (arith, all, later))
    ]
