-- One pass of a seat that may have several, alone with the slots that are out with it, and what a step of it leaves as it is (own).
use Rattle.std.specs.Prelude.{◌≡◌, ℕ, zero, suc, List, [], ◌∷◌}
use base.Stored.{Coded}
use Rattle.atomic_table.specs.Seated.{TableId}
use Rattle.lane_model.specs.declared.lane_links.LaneLink.{LaneLink}
use Rattle.lane_model.specs.declared.stages.Receiving.{Receiving}
use Rattle.lane_model.specs.declared.stages.SendStage.{SendStage}
use Rattle.lane_model.specs.declared.stages.SendStage.TheVariants as stage
use Rattle.lane_model.specs.declared.stages.Sending.{Sending}
use Rattle.lane_model.specs.declared.stages.TakeStage.TheVariants as take_stage
use Rattle.lane_model.specs.declared.stages.Turn.{Turn}
use Rattle.lane_model.specs.declared.stages.Work.{Work}
use Rattle.lane_model.specs.declared.stages.Work.TheVariants as work
use Rattle.lane_model.specs.Desks.{DeskMeaning}
use Rattle.ring_core.specs.declared.states.RingState.{RingState}
use Rattle.link_words.specs.declared.rule.Call.{Call}
use Rattle.link_words.specs.declared.rule.Call.TheVariants.{Idle, Rests, Sends, EndsSend, EndsBoth, Receives, EndsReceive, Reclaims, EndsHeld, Reopens, Gathers}
use Rattle.link_words.specs.declared.rule.LinkSizes.{LinkSizes}
use Rattle.link_words.specs.declared.rule.Pass.{Pass}
use Rattle.link_words.specs.declared.rule.Slot.{Slot}
use Rattle.link_words.specs.Calls.{SeatState, call_at, under_way_or, with_pass_at}
use Rattle.link_words.specs.Deeds.{Deed, IsSoundState, after_deed}
use Rattle.link_words.specs.Orderly.{IsOrderly}
use Rattle.link_words.specs.Passes.{only_pass, place_of_number}
use Rattle.link_words.specs.PlacedDesks.{placed_meaning}
use Rattle.link_words.specs.PlacedLinks.{KnowsState, placed_link}
use Rattle.link_words.specs.Rule.{IsCallOf}
use Rattle.split_ring.specs.Seats.{pass_in}

-- how many slots are out with a send that has done the step of this stage last, and with other work
abbrev pub send_count : SendStage → ℕ
send_count stage.Turn = 1
send_count stage.Era = 1
send_count stage.Look = 1
send_count stage.Buffer = 2
send_count stage.Entry = 2

abbrev pub work_count : Work → ℕ
work_count (work.Take take_stage.Turn) = 1
work_count (work.Take take_stage.Era) = 1
work_count (work.Take take_stage.Look) = 1
work_count (work.Take take_stage.Buffer) = 2
work_count (work.Give number given) = 1
work_count (work.Bind address) = 1
work_count (work.Unbind address) = 1

-- with a turn: the side state alone where the end is settled
abbrev pub send_turn_count : Turn Sending → ℕ
send_turn_count t = under_way_or 1 (λ caller s. send_count s.stage) t

abbrev pub work_turn_count : Turn Receiving → ℕ
work_turn_count t = under_way_or 1 (λ caller r. work_count r.work) t

-- how many are out with a caller's call: none between its calls. While a reclaim ends it, as many, and the receiver's side state where the manager has that turn
abbrev pub slot_count : Call → ℕ
slot_count Idle = 0
slot_count (Rests e) = 0
slot_count (Sends e t x b) = send_turn_count t
slot_count (EndsSend e t x b) = send_turn_count t
slot_count (EndsBoth e t x b y) = suc (send_turn_count t)
slot_count (Receives e t x b message) = work_turn_count t
slot_count (EndsReceive e t x b message) = work_turn_count t
slot_count (Reclaims e x) = 1
slot_count (EndsHeld e x) = 1
slot_count (Reopens p inc a b) = 0
slot_count (Gathers a b) = 0

-- the first so many slots, and those after them
abbrev pub front : ℕ → List (ℕ × Slot) → List (ℕ × Slot)
front zero slots = []
front (suc n) [] = []
front (suc n) (x ∷ xs) = x ∷ front n xs

abbrev pub behind : ℕ → List (ℕ × Slot) → List (ℕ × Slot)
behind zero slots = slots
behind (suc n) [] = []
behind (suc n) (x ∷ xs) = behind n xs

-- the seat as if it had the pass at this place alone, with the first so many of its slots
abbrev pub focus : ℕ → ℕ → SeatState → SeatState
focus k c me = (record me.0 { passes = only_pass k me.0.passes }, front c me.1)

-- how many slots are out with the call of the pass of this number
abbrev pub count_of : ℕ → SeatState → ℕ
count_of n me = slot_count (call_at (place_of_number n me.0.passes) me.0.passes)

-- the seat as if it had the pass of this number alone, with the slots of its call, which are in front of the others
abbrev pub seat_of : ℕ → SeatState → SeatState
seat_of n me = focus (place_of_number n me.0.passes) (count_of n me) me

-- the slots after those
abbrev pub others_of : ℕ → SeatState → List (ℕ × Slot)
others_of n me = behind (count_of n me) me.1

-- the seat has that pass alone, and its slots
pub record IsAlone (n : ℕ) (me : SeatState) : Type 0 where
  pub one : me.0.passes ≡ pass_in me ∷ []
  pub here : place_of_number n me.0.passes ≡ 0
  pub none : others_of n me ≡ []

-- the seat is one of this table, which has these sizes, and its passes are in order
pub record IsOrderlySeat (table : TableId) (sizes : LinkSizes) (table_id : TableId) (me : SeatState) : Type 0 where
  pub at_table : table_id ≡ table
  pub told : me.0.sizes ≡ sizes
  pub order : IsOrderly me.0

-- of what the seat knows nothing else has changed than the pass of this number, which has it still, and the copy; and the others' slots are where they were
pub record LeavesOthers (n : ℕ) (me me' : SeatState) : Type 0 where
  pub change : Pass → Pass
  pub view : me'.0 ≡ record me.0 { copy = me'.0.copy; passes = with_pass_at change (place_of_number n me.0.passes) me.0.passes }
  pub here : place_of_number n me'.0.passes ≡ place_of_number n me.0.passes
  pub others : others_of n me' ≡ others_of n me

-- in this state of the link the pass of this number is in the call that the view says
abbrev pub ShowsCall : {D : Type 0} → Coded D → ℕ → SeatState → LaneLink (RingState D) → Type 0
ShowsCall coded n me m = IsCallOf (placed_link coded me.0.sizes.desks m) 0 n (call_at (place_of_number n me.0.passes) me.0.passes)

-- a step of the pass of this number, which is this deed: nothing else changes, and a manager that knew the state, which was sound, knows the one after the deed;
-- in both the pass is in the call that the view says
pub record StepsAlone {D : Type 0} (coded : Coded D) (meaning : DeskMeaning D) (n : ℕ) (d : Deed) (me me' : SeatState) : Type 0 where
  pub leaves : LeavesOthers n me me'
  pub knows : (m : LaneLink (RingState D)) → KnowsState coded me.0 m → KnowsState coded me'.0 (after_deed meaning m d)
  pub sound : (m : LaneLink (RingState D)) → KnowsState coded me.0 m → IsSoundState (placed_meaning coded me.0.sizes.desks meaning) (placed_link coded me.0.sizes.desks m)
  pub calls : (m : LaneLink (RingState D)) → KnowsState coded me.0 m → ShowsCall coded n me m × ShowsCall coded n me' (after_deed meaning m d)

-- nothing changes but what is in the slots of the call of the pass of this number
pub record StaysAlone (n : ℕ) (me me' : SeatState) : Type 0 where
  pub view : me'.0 ≡ me.0
  pub others : others_of n me' ≡ others_of n me

-- the state after these deeds, the first of them first
abbrev pub after_deeds : {D : Type 0} → DeskMeaning D → LaneLink (RingState D) → List Deed → LaneLink (RingState D)
after_deeds meaning m [] = m
after_deeds meaning m (d ∷ ds) = after_deeds meaning (after_deed meaning m d) ds

-- a manager that knew the state knows the one after these deeds
abbrev pub KnowsAfter : {D : Type 0} → Coded D → DeskMeaning D → List Deed → SeatState → SeatState → Type 0
KnowsAfter coded meaning ds me me' = (m : LaneLink (RingState _)) → KnowsState coded me.0 m → KnowsState coded me'.0 (after_deeds meaning m ds)

-- steps of a reclaim with the pass of this number, which are these deeds of the manager: nothing else changes
pub record ChangesAlone {D : Type 0} (coded : Coded D) (meaning : DeskMeaning D) (n : ℕ) (ds : List Deed) (me me' : SeatState) : Type 0 where
  pub leaves : LeavesOthers n me me'
  pub knows : KnowsAfter coded meaning ds me me'
