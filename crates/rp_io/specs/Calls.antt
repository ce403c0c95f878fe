-- The calls of a device in memory, of which chosen ones fail (own).
use Rattle.std.specs.Prelude.{ℕ, ◌==◌, ◌&&◌, nat_lt, Bool, true, List, [], ◌∷◌, if◌then◌else◌}
use Rattle.std.specs.List.{list_any}
use Rattle.rp_io.specs.Causes.{next_count}

-- the numbers of the calls that fail, from 0; the number of the next call, and how many have failed (own)
pub record Calls : Type 0 where
  pub fails : List ℕ
  pub next : ℕ
  pub faults : ℕ

-- no call was made (own)
abbrev pub no_calls : List ℕ → Calls
no_calls fails = record { fails = fails; next = 0; faults = 0 }

-- the next call is one of those that fail (own)
abbrev pub fails_next : Calls → Bool
fails_next calls = list_any (λ number. number == calls.next) calls.fails

-- one call more, which failed or not (own)
abbrev pub with_call : Calls → Bool → Calls
with_call calls failed = record calls { next = next_count calls.next; faults = if failed then next_count calls.faults else calls.faults }

-- each number is above the one before it, and the first is above `low` (own)
abbrev pub ascends_above : ℕ → List ℕ → Bool
ascends_above low [] = true
ascends_above low (number ∷ more) = nat_lt low number && ascends_above number more

-- each number is above the one before it (own)
abbrev pub ascends : List ℕ → Bool
ascends [] = true
ascends (number ∷ more) = ascends_above number more
