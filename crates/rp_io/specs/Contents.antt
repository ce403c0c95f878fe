-- What is left to read and what is written, where a device says it (own; after the words of std's `Io.KnownBytes`).
use Rattle.std.specs.Prelude.{◌≡◌, ◌↔◌, ◌<◌, ◌≤◌, ℕ, List, [], length, take, Some, None}
use Rattle.std.specs.declared.option.Option.{Option}
use Rattle.std.specs.Io.KnownBytes.{Appends, Consumes}

-- where told: a read of this many bytes is one of none exactly where nothing was left (own)
abbrev pub EndsWhereEmpty : Option (List ℕ) → ℕ → Type 0
EndsWhereEmpty None count = Unit {0}
EndsWhereEmpty (Some left) count = (count ≡ 0) ↔ (left ≡ [])

-- where told: the bytes are what was left, or its first `most` bytes where there were more (own)
abbrev pub IsFrontOf : Option (List ℕ) → ℕ → List ℕ → Type 0
IsFrontOf None most bytes = Unit {0}
IsFrontOf (Some left) most bytes = bytes ≡ take most left

-- where told: the bytes are all that was left (own)
abbrev pub IsAllOf : Option (List ℕ) → List ℕ → Type 0
IsAllOf None bytes = Unit {0}
IsAllOf (Some left) bytes = bytes ≡ left

-- where told: more bytes than so many were left (own)
abbrev pub IsLonger : Option (List ℕ) → ℕ → Type 0
IsLonger None most = Unit {0}
IsLonger (Some left) most = most < length left

-- some prefix of what was left, of at most so many bytes, is gone (own)
pub record LosesFront (old new : Option (List ℕ)) (most : ℕ) : Type 0 where
  pub lost : List ℕ
  pub consumed : Consumes old new lost
  pub within : length lost ≤ most

-- the first `count` of the bytes were appended (own)
pub record AppendsFront (old new : Option (List ℕ)) (bytes : List ℕ) : Type 0 where
  pub count : ℕ
  pub appended : Appends old new (take count bytes)
