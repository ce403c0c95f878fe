-- A reopening: what the manager reads in it, what it answers, and what its view is then (own).
use Rattle.std.specs.Option.{option_map, option_or}
use Rattle.std.specs.Prelude.{◌≡◌, ◌⊎◌, ◌+◌, ◌-◌, ◌^◌, ◌==◌, ◌<◌, if◌then◌else◌, ℕ, List, [], length, Option, Some, None, Result, Ok, Err, true, false}
use base.Stored.{Coded}
use Rattle.rp_base.specs.declared.kinds.End.{End}
use Rattle.rp_base.specs.declared.kinds.End.TheVariants as side
use Rattle.lane_model.specs.declared.recoveries.Books.{Books}
use Rattle.lane_model.specs.declared.recoveries.ReopenFault.{ReopenFault}
use Rattle.lane_model.specs.declared.recoveries.ReopenFault.TheVariants as fault
use Rattle.lane_model.specs.Desks.{DeskMeaning}
use Rattle.lane_model.specs.Links.{end_of}
use Rattle.ring_core.specs.declared.states.Hand.{Hand}
use Rattle.link_words.specs.declared.rule.Call.TheVariants.{Gathers}
use Rattle.link_words.specs.declared.rule.LaneSides.{LaneSides}
use Rattle.link_words.specs.declared.rule.ReceiverSide.{ReceiverSide}
use Rattle.link_words.specs.declared.rule.SenderSide.{SenderSide}
use Rattle.link_words.specs.declared.rule.Slot.{Slot}
use Rattle.link_words.specs.declared.rule.View.{View}
use Rattle.link_words.specs.Calls.{SeatState}
use Rattle.link_words.specs.Histories.{LaneBooks}
use Rattle.link_words.specs.Reopens.{AreBooksOf, both_sides, least_hand}
use Rattle.link_words.specs.Sides.{no_sides}
use Rattle.split_ring.specs.Gathers.{IsCalling, IsHolderIn, lane_slots, TakesLane, MeetsLane}

-- the slots of the four side states are out, beside these
abbrev pub four_slots : List (ℕ × Slot) → List (ℕ × Slot)
four_slots slots = lane_slots side.Remote (lane_slots side.Host slots)

abbrev pub all_slots : List (ℕ × Slot)
all_slots = four_slots []

-- the manager has no side state itself, while these slots are out with the calls that it carries; or it has these four
abbrev pub HasNoneBeside : List (ℕ × Slot) → View → SeatState → Type 0
HasNoneBeside slots v me = IsCalling v (Gathers no_sides no_sides) slots me

abbrev pub HasAllBeside : List (ℕ × Slot) → View → SenderSide → ReceiverSide → SenderSide → ReceiverSide → SeatState → Type 0
HasAllBeside slots v x y u w me = IsCalling v (Gathers (both_sides x y) (both_sides u w)) (four_slots slots) me

-- whatever is out; or nothing
abbrev pub HasNoneItself : View → SeatState → Type 0
HasNoneItself v me = (slots : List (ℕ × Slot)) × HasNoneBeside slots v me

abbrev pub HasNone : View → SeatState → Type 0
HasNone v me = HasNoneBeside [] v me

abbrev pub HasAll : View → SenderSide → ReceiverSide → SenderSide → ReceiverSide → SeatState → Type 0
HasAll v x y u w me = HasAllBeside [] v x y u w me

-- the four side states are taken, or left; or the manager has none of them after it had none
abbrev pub TakesAll : SenderSide → ReceiverSide → SenderSide → ReceiverSide → SeatState → SeatState → Type 0
TakesAll x y u w me me' = (v : View) (slots : List (ℕ × Slot)) → HasNoneBeside slots v me → HasAllBeside slots v x y u w me'

abbrev pub PutsAll : SeatState → SeatState → Type 0
PutsAll me me' = (v : View) (a b : LaneSides) (slots : List (ℕ × Slot)) → IsCalling v (Gathers a b) (four_slots slots) me → HasNoneBeside slots v me'

abbrev pub StillHasNone : SeatState → SeatState → Type 0
StillHasNone me me' = (v : View) (slots : List (ℕ × Slot)) → HasNoneBeside slots v me → HasNoneBeside slots v me'

-- an attempt at one of the four turns, in their order, met this holder, where those before it were free
abbrev pub MeetsTurn : {D : Type 0} → Coded D → DeskMeaning D → ℕ → SeatState → Type 0
MeetsTurn coded meaning holder me = MeetsLane coded meaning side.Host holder me
    ⊎ ((before : SeatState) × (x : SenderSide) × (y : ReceiverSide) × TakesLane side.Host x y me before × MeetsLane coded meaning side.Remote holder before)

-- that this is the last incarnation
abbrev pub spent_by : ℕ → Option ReopenFault
spent_by inc = if inc == 2 ^ 32 - 1 then Some fault.IncarnationsSpent else None

-- why a closed incarnation whose four turns the manager has is not the last one before the next: a buffer is held, that of the least number first, of
-- the lane to the host first; or there is no next
abbrev pub refusal_from : List Hand → List Hand → ℕ → Option ReopenFault
refusal_from host remote inc = option_or (option_map (λ h. fault.StillHeld h.caller h.number) (option_or (least_hand host) (least_hand remote))) (spent_by inc)

-- the books that a reopening hands back are these
pub record AreTold (books : Books) (told : End → LaneBooks) : Type 0 where
  pub to_host : books.to_host.entries ≡ (told side.Host).accepted
  pub to_host_takers : books.to_host_takers.items ≡ (told side.Host).takers
  pub to_host_handed : books.to_host_handed ≡ length (told side.Host).takers
  pub to_remote : books.to_remote.entries ≡ (told side.Remote).accepted
  pub to_remote_takers : books.to_remote_takers.items ≡ (told side.Remote).takers
  pub to_remote_handed : books.to_remote_handed ≡ length (told side.Remote).takers

-- the view in the next incarnation
abbrev pub next_view : View → View
next_view v = record v { inc = v.inc + 1; reclaims = []; ended_passes = []; is_closed = false }

-- a reopening from this view has this answer, and leaves this view but for the copy. Each refusal says what it read: the era, which the manager did not
-- know closed; the turn that was another's, or the manager's by another's seat, while the manager had those before it, and a caller is in use; what is held by the side states, by a caller in use; or that it is the last
-- incarnation. The books are those of the incarnation that was closed
abbrev pub IsReopening : {D : Type 0} → Coded D → DeskMeaning D → View → Result Books ReopenFault → View → Type 0
IsReopening coded meaning v (Err fault.NoMemory) v' = v' ≡ v
IsReopening coded meaning v (Err (fault.StillOpen era)) v' = (era ≡ record { inc = v.inc; is_live = true }) × (v' ≡ record v { is_closed = false }) × (v.is_closed ≡ false)
IsReopening coded meaning v (Err (fault.StillTurn holder)) v' = (before : SeatState) × HasNoneItself (record v { is_closed = true }) before × MeetsTurn coded meaning holder before × (v' ≡ record v { is_closed = true; copy = v'.copy })
    × IsHolderIn v holder
IsReopening coded meaning v (Err (fault.StillHeld caller number)) v' = (x : SenderSide) × (y : ReceiverSide) × (u : SenderSide) × (w : ReceiverSide) × (before : SeatState) × HasAll (record v { is_closed = true }) x y u w before
    × (refusal_from y.hands w.hands v.inc ≡ Some (fault.StillHeld caller number)) × (v' ≡ record v { is_closed = true; copy = v'.copy })
    × ((e : End) × (end_of v.users caller ≡ Some e))
IsReopening coded meaning v (Err fault.IncarnationsSpent) v' = (x : SenderSide) × (y : ReceiverSide) × (u : SenderSide) × (w : ReceiverSide) × (before : SeatState) × HasAll (record v { is_closed = true }) x y u w before
    × (refusal_from y.hands w.hands v.inc ≡ Some fault.IncarnationsSpent) × (v' ≡ record v { is_closed = true; copy = v'.copy })
IsReopening coded meaning v (Ok books) v' = (told : End → LaneBooks) × AreBooksOf v told × AreTold books told × (books.inc ≡ v.inc) × (v.inc + 1 < 2 ^ 32) × (v' ≡ record (next_view v) { copy = v'.copy })
