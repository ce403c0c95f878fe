-- Windows of rings: what a count from one number to another keeps when an entry is stored outside, and when an end moves.
use Rattle.std.proofs.Common.{◌≡◌, ◌≢◌, ℕ, ◌+◌, ◌/◌, ◌%◌, ◌<◌, ◌≤◌, zero, suc, cond, List, length, set, refl, ap, ◌∙◌, inl, inr, arith, get_or-set_other, get_or-set_same}
use Rattle.std.proofs.lemmas.Bool.{cases_lt, eq-eqb}
use Rattle.std.proofs.Math.Nat.{div-add-mod, mul-le-mul_left}
use Rattle.std.proofs.lemmas.Nat.{mod_below}
use Rattle.vring_layout.specs.declared.words.UsedWord.{UsedWord}
use Rattle.ring_core.specs.Rings.{entry_of, buffer_at}
use Rattle.ring_core.specs.Owners.{once, times_between}

-- the first number of a window
pub times_first : (f : ℕ → ℕ) (id first n m : ℕ) → n ≡ suc m → times_between f id first n ≡ once (f first) id + times_between f id (first + 1) m
times_first f id first n m long = ap (times_between f id first) long

-- one number more behind the last
pub times_last : (f : ℕ → ℕ) (id first n last : ℕ) → first + n ≡ last → times_between f id first (suc n) ≡ times_between f id first n + once (f last) id
times_last f id first zero last at =
    let same : first ≡ last = omega arith in
    let h : once (f first) id ≡ once (f last) id = ap (λ k. once (f k) id) same in
    omega arith
times_last f id first (suc n) last at =
    let rest = times_last f id (first + 1) n last (omega arith) in
    omega arith

-- two rings that agree between the ends count the same
pub times_agree : (f g : ℕ → ℕ) (id first n : ℕ) → ((k : ℕ) → first ≤ k → k < first + n → f k ≡ g k) → times_between f id first n ≡ times_between g id first n
times_agree f g id first zero same = refl
times_agree f g id first (suc n) same =
    let here : f first ≡ g first = same first (omega arith) (omega arith) in
    let rest : times_between f id (first + 1) n ≡ times_between g id (first + 1) n =
    times_agree f g id (first + 1) n (λ k low high. same k (omega arith) (omega arith)) in
    let one : once (f first) id ≡ once (g first) id = ap (λ b. once b id) here in
    omega arith

-- what counts once
pub once_same : (id : ℕ) → once id id ≡ 1
once_same id = ap (λ b. cond b 1 0) (eq-eqb id id refl)

-- a number between the ends is counted
pub times_some : (f : ℕ → ℕ) (first n k : ℕ) → first ≤ k → k < first + n → 1 ≤ times_between f (f k) first n
times_some f first zero k low high = omega arith
times_some f first (suc n) k low high = elim (cases_lt first k) [
  | inl before ↦ let rest = times_some f (first + 1) n k (omega arith) (omega arith) in omega arith
  | inr not_before ↦
      let at : first ≡ k = omega arith in
      let here : once (f first) (f k) ≡ 1 = ap (λ j. once (f j) (f k)) at ∙ once_same (f k) in
      omega arith
]

-- two numbers less than a ring apart have different entries
pub entries_apart : (n a b : ℕ) → a < b → b < a + n → a % n ≢ b % n
entries_apart n a b below within same =
    let from_a = div-add-mod a n in
    let from_b = div-add-mod b n in
    elim (cases_lt (a / n) (b / n)) [
      | inl further ↦ omega (arith, mul-le-mul_left n further)
      | inr not_further ↦ omega (arith, mul-le-mul_left n not_further)
    ]

-- an entry is read as it was stored
pub buffer_at_stored : (n : ℕ) (ring : List UsedWord) (k : ℕ) (entry : UsedWord) → 1 ≤ n → length ring ≡ n → buffer_at n (set ring (k % n) entry) k ≡ entry.id
buffer_at_stored n ring k entry some long =
    let within : k % n < length ring = omega (arith, mod_below k n (omega arith)) in
    ap (λ (word : UsedWord). word.id) (get_or-set_same ring (k % n) entry (entry_of 0) within)

-- an entry less than a ring away is as it was
pub buffer_at_other : (n : ℕ) (ring : List UsedWord) (j k : ℕ) (entry : UsedWord) → j % n ≢ k % n → buffer_at n (set ring (k % n) entry) j ≡ buffer_at n ring j
buffer_at_other n ring j k entry other =
    ap (λ (word : UsedWord). word.id) (get_or-set_other ring (k % n) (j % n) entry (entry_of 0) other)
