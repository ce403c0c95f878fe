-- What the steps of a reclaim say that are made with the seat of the caller that is reclaimed. They are the manager's, so none of them is noted in the
-- caller's list (own).
use Rattle.std.specs.Prelude.{◌≡◌, ◌≢◌, ℕ, ◌≤◌, ◌<◌, Bool, true, false, if◌then◌else◌, List, [], ◌∷◌}
use base.Stored.{Coded}
use Rattle.atomic_table.specs.Table.{rest}
use Rattle.rp_base.specs.declared.kinds.End.{End}
use Rattle.rp_base.specs.declared.kinds.Era.{Era}
use Rattle.lane_model.specs.declared.lane_links.LaneLink.{LaneLink}
use Rattle.lane_model.specs.declared.recoveries.LaneTurn.{LaneTurn}
use Rattle.lane_model.specs.declared.recoveries.LaneTurn.TheVariants as lane_turn
use Rattle.lane_model.specs.Desks.{DeskMeaning}
use Rattle.ring_core.specs.declared.states.RingState.{RingState}
use Rattle.ring_core.specs.Owners.{sender_is_out, receiver_is_out}
use Rattle.ring_core.specs.RingSteps.{hands_of_others}
use Rattle.link_words.specs.declared.rule.Call.{Call}
use Rattle.link_words.specs.declared.rule.Call.TheVariants.{Idle, Sends, Rests, Reclaims, EndsHeld, Receives, EndsReceive, EndsSend, EndsBoth, Reopens, Gathers}
use Rattle.link_words.specs.declared.rule.Pass.{Pass}
use Rattle.link_words.specs.declared.rule.ReceiverSide.{ReceiverSide}
use Rattle.link_words.specs.declared.rule.Slot.{Slot}
use Rattle.link_words.specs.declared.rule.Slot.TheVariants.{Sender, Receiver, Buffer}
use Rattle.link_words.specs.Calls.{SeatState, place_of, call_at, number_at, Becomes}
use Rattle.link_words.specs.Deeds.{Deed, Nothing, EndsCall, ManagerTakes, ManagerLeaves, LeavesTurn}
use Rattle.link_words.specs.Passes.{Mover, with_call, with_call_and_hands, place_of_number}
use Rattle.link_words.specs.PlacedDesks.{PlacedDesk, placed_coded, placed_meaning}
use Rattle.link_words.specs.Steps.{IsStepOf, HasWord, StoresWord}
use Rattle.link_words.specs.Turns.{is_manager}
use Rattle.link_words.specs.Words.{other, era_word, sender_slot, receiver_slot, buffer_slot}

-- the step of a seat is this deed of the ring form, which the manager does to the pass at this place
abbrev pub DoesAt : {D : Type 0} (coded : Coded D) → DeskMeaning D → ℕ → (me : SeatState) → (LaneLink (RingState (PlacedDesk coded me.0.sizes.desks)) → LaneLink (RingState (PlacedDesk coded me.0.sizes.desks)) → Type 0) → Deed → SeatState → Type 0
DoesAt coded meaning k me Reads d me' = IsStepOf (placed_coded coded me.0.sizes.desks) (placed_meaning coded me.0.sizes.desks meaning) Reads d (number_at k me.0.passes) (call_at k me.0.passes) (call_at k me'.0.passes) me me'

-- the pass that steps is in this call
pub record StandsIn (me : SeatState) (call : Call) : Type 0 where
  pub mover : Mover me.0
  pub here : mover.place ≡ place_of me
  pub is : mover.pass.call ≡ call

-- the call of a caller when its seat has found the era closed
abbrev pub doomed_call : Call → Call
doomed_call Idle = Idle
doomed_call (Rests e) = Rests e
doomed_call (Sends e t x b) = EndsSend e t x b
doomed_call (EndsSend e t x b) = EndsSend e t x b
doomed_call (EndsBoth e t x b y) = EndsBoth e t x b y
doomed_call (Receives e t x b message) = EndsReceive e t x b message
doomed_call (EndsReceive e t x b message) = EndsReceive e t x b message
doomed_call (Reclaims e x) = EndsHeld e x
doomed_call (EndsHeld e x) = EndsHeld e x
doomed_call (Reopens p inc a b) = Reopens p inc a b
doomed_call (Gathers x y) = Gathers x y

-- a seat that has a turn, which it may find the era closed with
abbrev pub HasTurn : Call → Type 0
HasTurn (Sends e t x b) = is_manager t ≡ false
HasTurn (Receives e t x b message) = Unit {0}
HasTurn (Reclaims e x) = Unit {0}
HasTurn other = ⊥

abbrev pub MayFindClosed : SeatState → Type 0
MayFindClosed me = (call : Call) × StandsIn me call × HasTurn call

-- a load of the era: where it is closed, the call is to be ended; else nothing has changed
abbrev pub FindsClosed : SeatState → ℕ → SeatState → Type 0
FindsClosed me n me' = (era : Era) × (n ≡ era_word era) × (era.inc < 4294967296)
    × (era.is_live ≡ false → Becomes (λ p. with_call p (doomed_call p.call)) (place_of me) me.1 me me') × (era.is_live ≡ true → me' ≡ me)

-- the caller of this number, of this end, has no turn, or its send has found the era closed
abbrev pub IsUnclaimed : End → Call → Type 0
IsUnclaimed end (Rests e) = e ≡ end
IsUnclaimed end (EndsSend e t x b) = (other e ≡ end) × (is_manager t ≡ false)
IsUnclaimed end other = ⊥

pub record MayClaim (me : SeatState) (end : End) (caller : ℕ) : Type 0 where
  pub mover : Mover me.0
  pub here : mover.place ≡ place_of_number caller me.0.passes
  pub number : mover.pass.number ≡ caller
  pub call : Call
  pub is : mover.pass.call ≡ call
  pub unclaimed : IsUnclaimed end call

-- its call when its seat has the receiver's turn for the manager, and when another has it: a send may go on then
abbrev pub claimed_call : ReceiverSide → Call → Call
claimed_call y Idle = Idle
claimed_call y (Rests e) = Reclaims e y
claimed_call y (Sends e t x b) = Sends e t x b
claimed_call y (EndsSend e t x b) = EndsBoth e t x b y
claimed_call y (EndsBoth e t x b old) = EndsBoth e t x b old
claimed_call y (Receives e t x b message) = Receives e t x b message
claimed_call y (EndsReceive e t x b message) = EndsReceive e t x b message
claimed_call y (Reclaims e x) = Reclaims e x
claimed_call y (EndsHeld e x) = EndsHeld e x
claimed_call y (Reopens p inc a b) = Reopens p inc a b
claimed_call y (Gathers a b) = Gathers a b

abbrev pub spared_call : Call → Call
spared_call Idle = Idle
spared_call (Rests e) = Rests e
spared_call (Sends e t x b) = Sends e t x b
spared_call (EndsSend e t x b) = Sends e t x b
spared_call (EndsBoth e t x b y) = EndsBoth e t x b y
spared_call (Receives e t x b message) = Receives e t x b message
spared_call (EndsReceive e t x b message) = EndsReceive e t x b message
spared_call (Reclaims e x) = Reclaims e x
spared_call (EndsHeld e x) = EndsHeld e x
spared_call (Reopens p inc a b) = Reopens p inc a b
spared_call (Gathers a b) = Gathers a b

-- one attempt to take the receiver's turn for the manager
abbrev pub ClaimsTurn : End → ℕ → SeatState → ℕ → SeatState → Type 0
ClaimsTurn end caller me n me' = let k = place_of_number caller me.0.passes in
    (n ≡ 0 → (y : ReceiverSide) × Becomes (λ p. with_call p (claimed_call y p.call)) k ((receiver_slot end, Receiver y) ∷ me.1) me me')
    × (n ≢ 0 → Becomes (λ p. with_call p (spared_call p.call)) k me.1 me me')

-- the side state that goes home after a call that had the receiver's turn: what the caller held is in hand no more
abbrev pub without_hands : ReceiverSide → ℕ → ReceiverSide
without_hands x caller = record x { hands = hands_of_others x.hands caller }

-- the slots of the turn that is left, and of the buffer that its call has out, are the last ones
abbrev pub HasSlots : Bool → ℕ → ℕ → Slot → SeatState → Type 0
HasSlots true buffer slot x me = (y : Slot) × (me.1 ≡ (buffer, y) ∷ (slot, x) ∷ rest (rest me.1))
HasSlots false buffer slot x me = me.1 ≡ (slot, x) ∷ rest me.1

abbrev pub HasFilledSlots : Bool → ℕ → List ℕ → ℕ → Slot → SeatState → Type 0
HasFilledSlots true buffer message slot x me = me.1 ≡ (buffer, Buffer message) ∷ (slot, x) ∷ rest (rest me.1)
HasFilledSlots false buffer message slot x me = me.1 ≡ (slot, x) ∷ rest me.1

-- the turn of this lane may be left in a reclaim: the pass that steps, of this number, has it, and its side state is as it is to go home
abbrev pub MayEnd : LaneTurn → End → ℕ → SeatState → Call → Type 0
MayEnd lane_turn.Sender lane caller me (EndsSend e t x b) = (e ≡ lane) × (is_manager t ≡ false) × HasSlots (sender_is_out t) (buffer_slot me.0.sizes.to_host.capacity e b) (sender_slot e) (Sender x) me
MayEnd lane_turn.Sender lane caller me (EndsBoth e t x b y) = (e ≡ lane) × (is_manager t ≡ false) × HasSlots (sender_is_out t) (buffer_slot me.0.sizes.to_host.capacity e b) (sender_slot e) (Sender x) me
MayEnd lane_turn.Sender lane caller me other = ⊥
MayEnd lane_turn.Receiver lane caller me (EndsReceive e t x b message) = (e ≡ lane) × (is_manager t ≡ false)
    × HasFilledSlots (receiver_is_out t) (buffer_slot me.0.sizes.to_host.capacity e b) message (receiver_slot e) (Receiver (without_hands x caller)) me
MayEnd lane_turn.Receiver lane caller me (EndsHeld e x) = (e ≡ lane) × (me.1 ≡ (receiver_slot e, Receiver (without_hands x caller)) ∷ rest me.1)
MayEnd lane_turn.Receiver lane caller me (Reclaims e x) = (e ≡ lane) × (me.1 ≡ (receiver_slot e, Receiver x) ∷ rest me.1)
MayEnd lane_turn.Receiver lane caller me other = ⊥

pub record MayLeaveEnded (turn : LaneTurn) (lane : End) (me : SeatState) : Type 0 where
  pub call : Call
  pub stands : StandsIn me call
  pub may : MayEnd turn lane stands.mover.pass.number me call

-- the pass then: in no call, and where it had the receiver's turn in a closed era it holds nothing; a seat that has the receiver's turn beside a
-- send has it still
abbrev pub ended_pass : Pass → Call → Pass
ended_pass p Idle = p
ended_pass p (Rests e) = p
ended_pass p (Sends e t x b) = p
ended_pass p (EndsSend e t x b) = with_call p (Rests (other e))
ended_pass p (EndsBoth e t x b y) = with_call p (EndsHeld (other e) y)
ended_pass p (Receives e t x b message) = p
ended_pass p (EndsReceive e t x b message) = with_call_and_hands p (Rests e) []
ended_pass p (Reclaims e x) = with_call p (Rests e)
ended_pass p (EndsHeld e x) = with_call_and_hands p (Rests e) []
ended_pass p (Reopens q inc a b) = p
ended_pass p (Gathers x y) = p

-- the slots that are still out
abbrev pub slots_left : Call → List (ℕ × Slot) → List (ℕ × Slot)
slots_left Idle slots = slots
slots_left (Rests e) slots = slots
slots_left (Sends e t x b) slots = slots
slots_left (EndsSend e t x b) slots = if sender_is_out t then rest (rest slots) else rest slots
slots_left (EndsBoth e t x b y) slots = if sender_is_out t then rest (rest slots) else rest slots
slots_left (Receives e t x b message) slots = slots
slots_left (EndsReceive e t x b message) slots = if receiver_is_out t then rest (rest slots) else rest slots
slots_left (Reclaims e x) slots = rest slots
slots_left (EndsHeld e x) slots = rest slots
slots_left (Reopens q inc a b) slots = slots
slots_left (Gathers x y) slots = slots

-- the deed of the ring form: the call is gone; or the manager leaves the receiver's turn, without what this caller held, or as it took it
abbrev pub ending_of : Call → ℕ → Deed
ending_of Idle caller = Nothing
ending_of (Rests e) caller = Nothing
ending_of (Sends e t x b) caller = Nothing
ending_of (EndsSend e t x b) caller = EndsCall (other e) caller
ending_of (EndsBoth e t x b y) caller = EndsCall (other e) caller
ending_of (Receives e t x b message) caller = Nothing
ending_of (EndsReceive e t x b message) caller = EndsCall e caller
ending_of (Reclaims e x) caller = ManagerLeaves lane_turn.Receiver e
ending_of (EndsHeld e x) caller = LeavesTurn e caller
ending_of (Reopens q inc a b) caller = Nothing
ending_of (Gathers x y) caller = Nothing

-- the turn is left, and its slots are at home
abbrev pub LeavesEnded : SeatState → SeatState → Type 0
LeavesEnded me me' = let k = place_of me in Becomes (λ p. ended_pass p p.call) k (slots_left (call_at k me.0.passes) me.1) me me'

-- the two steps as the table says
abbrev pub ClaimsAs : {D : Type 0} → Coded D → DeskMeaning D → End → ℕ → ℕ → SeatState → ℕ → SeatState → Type 0
ClaimsAs coded meaning end caller place me n me' = ClaimsTurn end caller me n me' × (n ≤ 65) × DoesAt coded meaning (place_of_number caller me.0.passes) me (HasWord place n) (ManagerTakes lane_turn.Receiver end) me'

abbrev pub LeavesAs : {D : Type 0} → Coded D → DeskMeaning D → ℕ → SeatState → ℕ → SeatState → Type 0
LeavesAs coded meaning place me n me' = let k = place_of me in
    LeavesEnded me me' × DoesAt coded meaning k me (StoresWord place n) (ending_of (call_at k me.0.passes) (number_at k me.0.passes)) me'
