-- The buffers in the hands of the callers of an end, as a list (own).
use Rattle.std.specs.Prelude.{◌≡◌, ◌≢◌, ℕ, List, slice_set, Option, Some, None}
use mathlib.Core.Option.{some}
use lib.ListN.{get_elem?}
use Rattle.lane_model.specs.declared.states.Holding.{Holding}
use Rattle.lane_model.specs.HeldBuffers.{HeldBuffer}
use Rattle.managed_link.specs.declared.hands.Hand.{Hand}

-- what is held of a buffer in hand
abbrev pub holding_of : Hand → Holding
holding_of hand = record { number = hand.number; caller = hand.caller }

-- the buffer of the message of this number, in the hands of this caller, is at this place
pub record IsHandAt (hands : List Hand) (number caller place : ℕ) (hand : Hand) : Type 0 where
  pub here : get_elem? hands place ≡ some hand
  pub numbered : hand.number ≡ number
  pub by_caller : hand.caller ≡ caller

abbrev pub IsAtPlace : List Hand → ℕ → ℕ → ℕ → Type 0
IsAtPlace hands number caller place = (hand : Hand) × IsHandAt hands number caller place hand

-- what was in its place goes out of it
abbrev pub IsTakenOut : ℕ → ℕ → Option HeldBuffer → List Hand → List Hand → Type 0
IsTakenOut number caller out before after = (place : ℕ) × (hand : Hand) × IsHandAt before number caller place hand × (out ≡ hand.held) × (after ≡ slice_set before place (record hand { held = None }))

-- a buffer comes into its place
abbrev pub IsPutIn : HeldBuffer → List Hand → List Hand → Type 0
IsPutIn held before after = (place : ℕ) × (hand : Hand) × IsHandAt before held.number held.caller place hand × (after ≡ slice_set before place (record hand { held = Some held }))

-- each of these is among those
abbrev pub AreSome : List Hand → List Hand → Type 0
AreSome before after = (place : ℕ) (hand : Hand) → get_elem? after place ≡ some hand → (was : ℕ) × (get_elem? before was ≡ some hand)

-- and is another caller's
abbrev pub AreOthers : ℕ → List Hand → List Hand → Type 0
AreOthers caller before after = (place : ℕ) (hand : Hand) → get_elem? after place ≡ some hand → (hand.caller ≢ caller) × ((was : ℕ) × (get_elem? before was ≡ some hand))
