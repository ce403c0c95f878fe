-- The block of a map that holds a range.
use Rattle.std.proofs.Common.{◌≡◌, ℕ, zero, suc, ◌+◌, ◌-◌, ◌<◌, ◌≤◌, Bool, true, false, inl, inr, List, [], ◌∷◌, length, get_or, Some, None, refl, ap, sym, ◌∙◌, arith, leb}
use Rattle.std.specs.List.{All, find}
use Rattle.std.specs.List.Sorted.{IsPartitionPoint, IsPermutation}
use Rattle.std.proofs.lemmas.List.Elements.{All-nil, All-cons}
use Rattle.std.proofs.lemmas.List.Sorted.{All-permutation, Contains-permutation}
use Rattle.std.proofs.lemmas.Bool.{cases_Bool, cases_order, cases_eq, cases_lt, and_left, leb-true, false_from_ne_true}
use Rattle.memory_pool.specs.Ranges.{ranges_meet}
use Rattle.memory_pool.proofs.Find.{find_is}
use Rattle.memory_pool.proofs.Meets.{apart_sides, within_ends}
use Rattle.memory_pool.proofs.Sound.{option_cases}
use Rattle.addr_translate.specs.Maps.{holds}
use Rattle.addr_translate.specs.OrderedMaps.{SoundMap, AreApart}
use Rattle.addr_translate.specs.declared.mapped.Mapped.{Mapped}

find_here : {X : Type 0} (p : X → Bool) (xs : List X) (i : ℕ) (d : X) → i < length xs → p (get_or xs i d) ≡ true → ((k : ℕ) → k < i → p (get_or xs k d) ≡ false) → find p xs ≡ Some (get_or xs i d)
find_here p [] i d lt here before = absurd (omega arith)
find_here p (x ∷ xs) zero d lt here before = rw here refl
find_here p (x ∷ xs) (suc i) d lt here before =
    let first : p x ≡ false = before 0 (omega arith) in
    rw first (find_here p xs i d (omega arith) here (λ k less. before (suc k) (omega arith)))

find_nowhere : {X : Type 0} (p : X → Bool) (xs : List X) → All (λ x. p x ≡ false) xs → find p xs ≡ None
find_nowhere p [] none = refl
find_nowhere p (x ∷ xs) none =
    let first : p x ≡ false = none 0 x (omega arith) in
    rw first (find_nowhere p xs (λ k d lt. none (suc k) d (omega arith)))

nowhere_each : {X : Type 0} (p : X → Bool) (xs : List X) → find p xs ≡ None → All (λ x. p x ≡ false) xs
nowhere_each p [] none = All-nil (λ x. p x ≡ false)
nowhere_each p (x ∷ xs) none =
    elim (cases_Bool (p x)) [
      | inl t ↦ absurd (let e : Some x ≡ None = rw t at none in cc)
      | inr f ↦ All-cons (λ x. p x ≡ false) x xs f (nowhere_each p xs (rw f at none))
    ]

-- a block before another one in order ends where that begins, or earlier
ends_before : (blocks : List Mapped) (memory_len : ℕ) → SoundMap blocks memory_len → (k i : ℕ) (d : Mapped) → k < i → i < length blocks → (get_or blocks k d).da + (get_or blocks k d).len ≤ (get_or blocks i d).da
ends_before blocks memory_len sound k i d less bound =
    let a = get_or blocks k d in
    let b = get_or blocks i d in
    let order = sound.ordered k i d (omega arith) bound in
    let range = sound.sound.ranges i d bound in
    elim (apart_sides a.da a.len b.da b.len (sound.sound.apart k i d less bound)) [
      | inl h ↦ absurd (omega (arith, range.some))
      | inr h ↦ h
    ]

-- two blocks that do not meet do not both hold a range
not_both : (a b : Mapped) (da len : ℕ) → 1 ≤ len → holds da len a ≡ true → holds da len b ≡ true → ranges_meet a.da a.len b.da b.len ≡ false → ⊥
not_both a b da len some here there apart =
    let in_a = within_ends da len a.da a.len here in
    let in_b = within_ends da len b.da b.len there in
    elim (apart_sides a.da a.len b.da b.len apart) [
      | inl h ↦ omega (arith, in_a.0, in_a.1, in_b.0, in_b.1)
      | inr h ↦ omega (arith, in_a.0, in_a.1, in_b.0, in_b.1)
    ]

-- where one block holds a range, no other does
pub one_holds : (blocks : List Mapped) (da len i j : ℕ) (d : Mapped) → AreApart blocks → 1 ≤ len → i < length blocks → j < length blocks → holds da len (get_or blocks i d) ≡ true → holds da len (get_or blocks j d) ≡ true → i ≡ j
one_holds blocks da len i j d apart some first second here there =
    elim (cases_order i j) [
      | inl same ↦ same
      | inr order ↦ absurd (elim order [
        | inl less ↦ not_both (get_or blocks i d) (get_or blocks j d) da len some here there (apart i j d less second)
        | inr more ↦ not_both (get_or blocks j d) (get_or blocks i d) da len some there here (apart j i d more first)
      ])
    ]

-- a block behind an address does not hold it
later_misses : (blocks : List Mapped) (da len : ℕ) (k behind : ℕ) (d : Mapped) → IsPartitionPoint (λ one. leb one.da da ≡ true) (λ one. leb one.da da ≡ false) blocks behind → behind ≤ k → k < length blocks → holds da len (get_or blocks k d) ≡ false
later_misses blocks da len k behind d point ge lt =
    let one = get_or blocks k d in
    and_left (leb one.da da) (leb (da + len) (one.da + one.len)) (point.1 k d ge lt)

-- the block that holds a range is the first one that does
pub found : (blocks : List Mapped) (da len i : ℕ) (d : Mapped) → AreApart blocks → 1 ≤ len → i < length blocks → holds da len (get_or blocks i d) ≡ true → find (holds da len) blocks ≡ Some (get_or blocks i d)
found blocks da len i d apart some lt here =
    find_here (holds da len) blocks i d lt here (λ k less.
    false_from_ne_true (holds da len (get_or blocks k d)) (λ there.
    let same = one_holds blocks da len k i d apart some (omega arith) lt there here in
    omega arith))

-- where the last block that begins by an address does not hold the range, none does
pub missed : (blocks : List Mapped) (memory_len da len behind : ℕ) → SoundMap blocks memory_len → 1 ≤ len → IsPartitionPoint (λ one. leb one.da da ≡ true) (λ one. leb one.da da ≡ false) blocks behind → behind ≤ length blocks → ((d : Mapped) → 0 < behind → holds da len (get_or blocks (behind - 1) d) ≡ false) → find (holds da len) blocks ≡ None
missed blocks memory_len da len behind sound some point bound last =
    find_nowhere (holds da len) blocks (λ k d lt.
    elim (cases_lt k behind) [
      | inr ge ↦ later_misses blocks da len k behind d point ge lt
      | inl less ↦ elim (cases_eq k (behind - 1)) [
        | inl same ↦ rw same (last d (omega arith))
        | inr other ↦ false_from_ne_true (holds da len (get_or blocks k d)) (λ there.
            let one = get_or blocks k d in
            let next = get_or blocks (behind - 1) d in
            let inside = within_ends da len one.da one.len there in
            let ends = ends_before blocks memory_len sound k (behind - 1) d (omega arith) (omega arith) in
            let begins = leb-true next.da da (point.0 (behind - 1) d (omega arith) (omega arith)) in
            omega (arith, inside.1, ends, begins))
      ]
    ])

-- of blocks that do not meet, the same one holds a range in any order
pub found_permuted : (xs ys : List Mapped) (da len : ℕ) → IsPermutation xs ys → AreApart ys → 1 ≤ len → find (holds da len) ys ≡ find (holds da len) xs
found_permuted xs ys da len moved apart some =
    elim (option_cases (find (holds da len) xs)) [
      | inl none ↦
          find_nowhere (holds da len) ys (All-permutation (λ one. holds da len one ≡ false) xs ys moved (nowhere_each (holds da len) xs none)) ∙ sym none
      | inr one ↦
          let is = find_is (holds da len) xs one.0 one.1 in
          let has = Contains-permutation xs ys one.0 moved is.1 in
          found ys da len has.0 one.0 apart some has.1 (ap (holds da len) has.2 ∙ is.0) ∙ ap Some has.2 ∙ sym one.1
    ]
