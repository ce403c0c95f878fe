-- Ranges that meet, and ranges that do not.
use Rattle.std.proofs.Common.{◌≡◌, ℕ, ◌+◌, ◌<◌, ◌≤◌, true, false, ◌⊎◌, inl, inr, ltb, leb, arith}
use Rattle.std.proofs.lemmas.Bool.{and_cases, and_from, and_left, and_right, and_parts, ltb-false, lt-ltb, le-ltb, leb-true}
use Rattle.memory_pool.specs.Ranges.{ranges_meet, lies_within}

pub apart_sides : (start len other other_len : ℕ) → ranges_meet start len other other_len ≡ false → (other + other_len ≤ start) ⊎ (start + len ≤ other)
apart_sides start len other other_len e =
    elim (and_cases (ltb start (other + other_len)) (ltb other (start + len)) e) [
      | inl h ↦ inl (ltb-false start (other + other_len) h)
      | inr h ↦ inr (ltb-false other (start + len) h)
    ]

pub meet_from : (start len other other_len : ℕ) → start < other + other_len → other < start + len → ranges_meet start len other other_len ≡ true
meet_from start len other other_len a b =
    and_from (ltb start (other + other_len)) (ltb other (start + len)) (lt-ltb _ _ a) (lt-ltb _ _ b)

pub apart_behind : (start len other other_len : ℕ) → other + other_len ≤ start → ranges_meet start len other other_len ≡ false
apart_behind start len other other_len a = and_left (ltb start (other + other_len)) (ltb other (start + len)) (le-ltb _ _ a)

pub apart_before : (start len other other_len : ℕ) → start + len ≤ other → ranges_meet start len other other_len ≡ false
apart_before start len other other_len a = and_right (ltb start (other + other_len)) (ltb other (start + len)) (le-ltb _ _ a)

-- what is apart is so the other way round
pub apart_back : (start len other other_len : ℕ) → ranges_meet start len other other_len ≡ false → ranges_meet other other_len start len ≡ false
apart_back start len other other_len e =
    elim (apart_sides start len other other_len e) [
      | inl h ↦ apart_before other other_len start len h
      | inr h ↦ apart_behind other other_len start len h
    ]

pub within_ends : (start len other other_len : ℕ) → lies_within start len other other_len ≡ true → (other ≤ start) × (start + len ≤ other + other_len)
within_ends start len other other_len e =
    let parts = and_parts (leb other start) (leb (start + len) (other + other_len)) e in
    (leb-true other start parts.0, leb-true (start + len) (other + other_len) parts.1)

-- a range in another one meets nothing that the other does not meet
pub apart_within : (start len other other_len outer outer_len : ℕ) → lies_within start len outer outer_len ≡ true → ranges_meet other other_len outer outer_len ≡ false → ranges_meet other other_len start len ≡ false
apart_within start len other other_len outer outer_len inside e =
    let ends = within_ends start len outer outer_len inside in
    elim (apart_sides other other_len outer outer_len e) [
      | inl h ↦ apart_behind other other_len start len (omega (arith, ends.1))
      | inr h ↦ apart_before other other_len start len (omega (arith, ends.0))
    ]
