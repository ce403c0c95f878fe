-- The manager's own call over steps: its view but for that call, and the slots that are out (own).
use Rattle.std.specs.Prelude.{◌≡◌, ◌⊎◌, ◌+◌, ℕ, List, ◌∷◌, Option, Some}
use Rattle.lane_model.specs.declared.TheConstants.{MANAGER}
use mathlib.Core.Option.{some}
use lib.ListN.{get_elem?}
use base.Stored.{Coded}
use Rattle.rp_base.specs.declared.kinds.End.{End}
use Rattle.lane_model.specs.declared.recoveries.LaneTurn.{LaneTurn}
use Rattle.lane_model.specs.declared.recoveries.LaneTurn.TheVariants as lane_turn
use Rattle.lane_model.specs.Desks.{DeskMeaning}
use Rattle.lane_model.specs.Links.{end_of}
use Rattle.link_words.specs.declared.copies.LinkCopy.{LinkCopy}
use Rattle.link_words.specs.declared.rule.Call.{Call}
use Rattle.link_words.specs.declared.rule.Call.TheVariants.{Gathers}
use Rattle.link_words.specs.declared.rule.LaneSides.{LaneSides}
use Rattle.link_words.specs.declared.rule.Pass.{Pass}
use Rattle.link_words.specs.declared.rule.ReceiverSide.{ReceiverSide}
use Rattle.link_words.specs.declared.rule.SenderSide.{SenderSide}
use Rattle.link_words.specs.declared.rule.Slot.{Slot}
use Rattle.link_words.specs.declared.rule.Slot.TheVariants.{Empty}
use Rattle.link_words.specs.declared.rule.View.{View}
use Rattle.link_words.specs.Calls.{SeatState, with_pass_at}
use Rattle.link_words.specs.Deeds.{ManagerTakes, ManagerLeaves}
use Rattle.link_words.specs.Layouts.{place_in}
use Rattle.link_words.specs.Passes.{with_call, place_of_number}
use Rattle.link_words.specs.Reopens.{ManagerDoes, SomeInUse, both_sides, gathered}
use Rattle.link_words.specs.Sides.{no_sides, sides_at}
use Rattle.link_words.specs.Steps.{HasWord, StoresWord, turn_number}
use Rattle.link_words.specs.Words.{sender_slot, receiver_slot}

-- the view in which the manager's own pass is in this call
abbrev pub called_view : View → Call → Option LinkCopy → View
called_view v call copy = record v { copy = copy; passes = with_pass_at (λ p. with_call p call) (place_of_number MANAGER v.passes) v.passes }

-- the seat's view is this one, but for the manager's own pass, which is in this call, and for the copy; and these slots are out
pub record IsCalling (v : View) (call : Call) (slots : List (ℕ × Slot)) (me : SeatState) : Type 0 where
  pub manager : Pass
  pub here : get_elem? v.passes (place_of_number MANAGER v.passes) ≡ some manager
  pub number : manager.number ≡ MANAGER
  pub is : me ≡ (called_view v call me.0.copy, slots)

-- the manager has a side state more or less of the lane to this end
abbrev pub TakesSide : End → (LaneSides → LaneSides) → ℕ → SeatState → SeatState → Type 0
TakesSide lane f slot me me' = (v : View) (a b : LaneSides) (slots : List (ℕ × Slot)) → IsCalling v (Gathers a b) slots me → IsCalling v (gathered lane f a b) ((slot, Empty) ∷ slots) me'

abbrev pub PutsSide : End → (LaneSides → LaneSides) → ℕ → SeatState → SeatState → Type 0
PutsSide lane f slot me me' = (v : View) (a b : LaneSides) (slots : List (ℕ × Slot)) → IsCalling v (Gathers a b) ((slot, Empty) ∷ slots) me → IsCalling v (gathered lane f a b) slots me'

-- an attempt at this turn met this holder
abbrev pub Meets : {D : Type 0} → Coded D → DeskMeaning D → LaneTurn → End → ℕ → SeatState → Type 0
Meets coded meaning which lane holder me = ManagerDoes coded meaning me (HasWord (place_in (turn_number which lane)) (holder + 1)) (ManagerTakes which lane) me

-- the manager found this turn of a lane free, and has it; or frees one that it had
abbrev pub FindsTurnFree : {D : Type 0} → Coded D → DeskMeaning D → LaneTurn → End → SeatState → SeatState → Type 0
FindsTurnFree coded meaning which lane me me' = ManagerDoes coded meaning me (HasWord (place_in (turn_number which lane)) 0) (ManagerTakes which lane) me'

abbrev pub FreesTurn : {D : Type 0} → Coded D → DeskMeaning D → LaneTurn → End → SeatState → SeatState → Type 0
FreesTurn coded meaning which lane me me' = ManagerDoes coded meaning me (StoresWord (place_in (turn_number which lane)) 0) (ManagerLeaves which lane) me'

-- who has a turn is a caller that is in use; or the manager has it, by the seat of a caller that is in use
abbrev pub IsHolderIn : View → ℕ → Type 0
IsHolderIn v holder = ((e : End) × (end_of v.users holder ≡ Some e)) ⊎ ((holder ≡ MANAGER) × SomeInUse v)

-- the slots of both side states of a lane are out, with nothing in them
abbrev pub lane_slots : End → List (ℕ × Slot) → List (ℕ × Slot)
lane_slots lane slots = (receiver_slot lane, Empty) ∷ (sender_slot lane, Empty) ∷ slots

-- both side states of a lane are taken, or left
abbrev pub TakesLane : End → SenderSide → ReceiverSide → SeatState → SeatState → Type 0
TakesLane lane x y me me' = (v : View) (a b : LaneSides) (slots : List (ℕ × Slot)) → IsCalling v (Gathers a b) slots me → IsCalling v (gathered lane (λ g. both_sides x y) a b) (lane_slots lane slots) me'

abbrev pub PutsLane : End → SeatState → SeatState → Type 0
PutsLane lane me me' = (v : View) (a b : LaneSides) (slots : List (ℕ × Slot)) → IsCalling v (Gathers a b) (lane_slots lane slots) me → IsCalling v (gathered lane (λ g. no_sides) a b) slots me'

-- the manager has what it had before, of a lane of which it had nothing
abbrev pub IsAsBefore : End → SeatState → SeatState → Type 0
IsAsBefore lane me me' = (v : View) (a b : LaneSides) (slots : List (ℕ × Slot)) → sides_at lane a b ≡ no_sides → IsCalling v (Gathers a b) slots me → IsCalling v (Gathers a b) slots me'

-- an attempt at one of the two turns of a lane met this holder: at the sender's, or at the receiver's while the manager had the sender's
abbrev pub MeetsLane : {D : Type 0} → Coded D → DeskMeaning D → End → ℕ → SeatState → Type 0
MeetsLane coded meaning lane holder me = Meets coded meaning lane_turn.Sender lane holder me
    ⊎ ((before : SeatState) × (x : SenderSide) × TakesSide lane (λ g. record g { sender = Some x }) (sender_slot lane) me before × Meets coded meaning lane_turn.Receiver lane holder before)
