-- A reclaim: the parts that a caller has, how its seat is, and what it leaves (own).
use Rattle.std.specs.Prelude.{◌⊎◌, ◌≡◌, ◌+◌, ℕ, Bool, true, false, List, [], ◌∷◌, Option, Some, None}
use Rattle.lane_model.specs.declared.recoveries.LaneTurn.TheVariants as lane_turn
use Rattle.lane_model.specs.declared.recoveries.ReclaimRefusal.{ReclaimRefusal}
use Rattle.lane_model.specs.declared.recoveries.ReclaimRefusal.TheVariants as refusal
use base.Stored.{Coded}
use Rattle.rp_base.specs.declared.kinds.End.{End}
use Rattle.rp_base.specs.declared.kinds.Era.{Era}
use Rattle.lane_model.specs.declared.calls.Answer.{Answer}
use Rattle.lane_model.specs.declared.calls.Answer.TheVariants as answer
use Rattle.lane_model.specs.declared.calls.Ask.{Ask}
use Rattle.lane_model.specs.declared.calls.Ask.TheVariants as ask
use Rattle.lane_model.specs.declared.stages.SendStage.{SendStage}
use Rattle.lane_model.specs.declared.stages.SendStage.TheVariants as stage
use Rattle.lane_model.specs.declared.stages.TakeStage.{TakeStage}
use Rattle.lane_model.specs.declared.stages.TakeStage.TheVariants as take_stage
use Rattle.lane_model.specs.declared.stages.Turn.{Turn}
use Rattle.lane_model.specs.declared.stages.Turn.TheVariants as turn
use Rattle.lane_model.specs.declared.stages.Sending.{Sending}
use Rattle.lane_model.specs.declared.stages.Receiving.{Receiving}
use Rattle.lane_model.specs.declared.lane_links.LaneLink.{LaneLink}
use Rattle.lane_model.specs.Desks.{DeskMeaning}
use Rattle.lane_model.specs.Lanes.{holder}
use Rattle.ring_core.specs.declared.states.RingState.{RingState}
use Rattle.ring_core.specs.Owners.{sender_is_out, receiver_is_out}
use Rattle.link_words.specs.declared.rule.Call.{Call}
use Rattle.link_words.specs.declared.rule.Call.TheVariants.{Rests, Sends, Receives, EndsHeld, EndsReceive}
use Rattle.link_words.specs.declared.rule.LinkSizes.{LinkSizes}
use Rattle.link_words.specs.declared.rule.Pass.{Pass}
use Rattle.link_words.specs.declared.rule.ReceiverSide.{ReceiverSide}
use Rattle.link_words.specs.declared.rule.SenderSide.{SenderSide}
use Rattle.link_words.specs.declared.rule.Slot.{Slot}
use Rattle.link_words.specs.declared.rule.Slot.TheVariants.{Buffer, Receiver, Sender}
use Rattle.link_words.specs.Calls.{SeatState, has_side, first_side}
use Rattle.link_words.specs.Deeds.{Deed, EndsCall, LeavesTurn, ManagerTakes}
use Rattle.link_words.specs.Layouts.{place_in}
use Rattle.link_words.specs.Passes.{with_call_and_hands, after_end_with, place_of_number, spent_view}
use Rattle.link_words.specs.PlacedLinks.{KnowsState}
use Rattle.link_words.specs.Reclaims.{DoesAt}
use Rattle.link_words.specs.Seats.{with_era}
use Rattle.link_words.specs.Steps.{HasWord}
use Rattle.link_words.specs.Turns.{is_manager}
use Rattle.link_words.specs.Words.{lane_to, other, receiver_word, sender_slot, receiver_slot, buffer_slot}
use Rattle.split_ring.specs.declared.callers.CallerId.{CallerId}
use Rattle.split_ring.specs.CallPhases.{Phase}
use Rattle.split_ring.specs.CallPhases as phase
use Rattle.split_ring.specs.declared.calls.RingCall.{RingCall}
use Rattle.split_ring.specs.declared.ends.TurnHeld.{TurnHeld}
use Rattle.split_ring.specs.declared.ends.TurnHeld.TheVariants as held
use Rattle.split_ring.specs.Calls.{IsInPhase}
use Rattle.split_ring.specs.Seats.{IsAt, pass_in}

-- the turn that a call in this phase has, and whether its buffer is out
abbrev pub send_turn : SendStage → TurnHeld
send_turn stage.Turn = held.Sender
send_turn stage.Era = held.Sender
send_turn stage.Look = held.Sender
send_turn stage.Buffer = held.SenderAndBuffer
send_turn stage.Entry = held.SenderAndBuffer

abbrev pub take_turn : TakeStage → TurnHeld
take_turn take_stage.Turn = held.Receiver
take_turn take_stage.Era = held.Receiver
take_turn take_stage.Look = held.Receiver
take_turn take_stage.Buffer = held.ReceiverAndBuffer

abbrev pub turn_in : Phase → TurnHeld
turn_in (phase.Asked asked) = held.Neither
turn_in (phase.Sends s c message) = send_turn s
turn_in (phase.Takes s c buffer) = take_turn s
turn_in (phase.Gives s given returned) = held.Receiver
turn_in (phase.Asks asked) = held.Receiver
turn_in (phase.LeavesSender answer) = held.Sender
turn_in (phase.LeavesReceiver answer) = held.Receiver
turn_in phase.Ended = held.Neither

-- the buffer that a call is to give back, or that it was handed
abbrev pub asked_buffer : Ask → List ℕ
asked_buffer (ask.Send message) = []
asked_buffer ask.Take = []
asked_buffer (ask.Give given) = given.number ∷ []
asked_buffer (ask.Bind address) = []
asked_buffer (ask.Unbind address) = []

abbrev pub taken_buffer : Answer → List ℕ
taken_buffer (answer.Sent number) = []
taken_buffer (answer.Took held verdict) = held.number ∷ []
taken_buffer (answer.Gave number) = []
taken_buffer (answer.Bound endpoint) = []
taken_buffer (answer.Unbound endpoint) = []
taken_buffer (answer.Busy holder) = []
taken_buffer (answer.GiveBusy holder held) = []
taken_buffer (answer.Dead era) = []
taken_buffer (answer.NoBuffer accepted returned) = []
taken_buffer (answer.BookFull accepted) = []
taken_buffer (answer.Empty accepted) = []
taken_buffer (answer.Refused fault) = []

abbrev pub buffer_in : Phase → List ℕ
buffer_in (phase.Asked asked) = asked_buffer asked
buffer_in (phase.Sends s c message) = []
buffer_in (phase.Takes s c buffer) = []
buffer_in (phase.Gives s given returned) = given.number ∷ []
buffer_in (phase.Asks asked) = []
buffer_in (phase.LeavesSender said) = taken_buffer said
buffer_in (phase.LeavesReceiver said) = taken_buffer said
buffer_in phase.Ended = []

abbrev pub is_give : Ask → Bool
is_give (ask.Send message) = false
is_give ask.Take = false
is_give (ask.Give given) = true
is_give (ask.Bind address) = false
is_give (ask.Unbind address) = false

abbrev pub is_taken : Answer → Bool
is_taken (answer.Sent number) = false
is_taken (answer.Took held verdict) = true
is_taken (answer.Gave number) = false
is_taken (answer.Bound endpoint) = false
is_taken (answer.Unbound endpoint) = false
is_taken (answer.Busy holder) = false
is_taken (answer.GiveBusy holder held) = false
is_taken (answer.Dead era) = false
is_taken (answer.NoBuffer accepted returned) = false
is_taken (answer.BookFull accepted) = false
is_taken (answer.Empty accepted) = false
is_taken (answer.Refused fault) = false

abbrev pub has_buffer : Phase → Bool
has_buffer (phase.Asked asked) = is_give asked
has_buffer (phase.Sends s c message) = false
has_buffer (phase.Takes s c buffer) = false
has_buffer (phase.Gives s given returned) = true
has_buffer (phase.Asks asked) = false
has_buffer (phase.LeavesSender said) = is_taken said
has_buffer (phase.LeavesReceiver said) = is_taken said
has_buffer phase.Ended = false

-- the phase of a caller's call; a caller in none is where an ended call leaves it
abbrev pub phase_of : {D : Type 0} → Option (RingCall D) → Phase
phase_of None = phase.Ended
phase_of (Some call) = call.phase

-- where its seat is
abbrev pub StandsIn : LinkSizes → CallerId → Phase → SeatState → Type 0
StandsIn z who (phase.Asked asked) me = IsInPhase z who (phase.Asked asked) me
StandsIn z who (phase.Sends s c message) me = IsInPhase z who (phase.Sends s c message) me
StandsIn z who (phase.Takes s c buffer) me = IsInPhase z who (phase.Takes s c buffer) me
StandsIn z who (phase.Gives s given returned) me = IsInPhase z who (phase.Gives s given returned) me
StandsIn z who (phase.Asks asked) me = IsInPhase z who (phase.Asks asked) me
StandsIn z who (phase.LeavesSender answer) me = IsInPhase z who (phase.LeavesSender answer) me
StandsIn z who (phase.LeavesReceiver answer) me = IsInPhase z who (phase.LeavesReceiver answer) me
StandsIn z who phase.Ended me = IsAt me (Rests who.end) []

-- the slots of a turn, with the buffer where it is out
abbrev pub SendSlots : Bool → ℕ → ℕ → Slot → List (ℕ × Slot) → Type 0
SendSlots true buffer slot x slots = (y : Slot) × (slots ≡ (buffer, y) ∷ (slot, x) ∷ [])
SendSlots false buffer slot x slots = slots ≡ (slot, x) ∷ []

abbrev pub TakeSlots : Bool → ℕ → List ℕ → ℕ → Slot → List (ℕ × Slot) → Type 0
TakeSlots true buffer message slot x slots = slots ≡ (buffer, Buffer message) ∷ (slot, x) ∷ []
TakeSlots false buffer message slot x slots = slots ≡ (slot, x) ∷ []

-- a caller has the sender's turn for its send
pub record HasSend (z : LinkSizes) (who : CallerId) (out : Bool) (me : SeatState) : Type 0 where
  pub turn : Turn Sending
  pub side : SenderSide
  pub buffer : ℕ
  pub bare : is_manager turn ≡ false
  pub is_out : sender_is_out turn ≡ out
  pub at : IsAt me (Sends (other who.end) turn side buffer) me.1
  pub slots : SendSlots out (buffer_slot z.to_host.capacity (other who.end) buffer) (sender_slot (other who.end)) (Sender side) me.1

-- or the receiver's for its call
pub record HasReceive (z : LinkSizes) (who : CallerId) (out : Bool) (me : SeatState) : Type 0 where
  pub turn : Turn Receiving
  pub side : ReceiverSide
  pub buffer : ℕ
  pub message : List ℕ
  pub bare : is_manager turn ≡ false
  pub is_out : receiver_is_out turn ≡ out
  pub at : IsAt me (Receives who.end turn side buffer message) me.1
  pub slots : TakeSlots out (buffer_slot z.to_host.capacity who.end buffer) message (receiver_slot who.end) (Receiver side) me.1

abbrev pub HasTurnHeld : LinkSizes → CallerId → TurnHeld → SeatState → Type 0
HasTurnHeld z who held.Neither me = IsAt me (Rests who.end) []
HasTurnHeld z who held.Sender me = HasSend z who false me
HasTurnHeld z who held.SenderAndBuffer me = HasSend z who true me
HasTurnHeld z who held.Receiver me = HasReceive z who false me
HasTurnHeld z who held.ReceiverAndBuffer me = HasReceive z who true me

-- the seat has this one pass and these slots now, and the sizes as before
pub record IsNow (p : Pass) (slots : List (ℕ × Slot)) (me me' : SeatState) : Type 0 where
  pub one : me'.0.passes ≡ p ∷ []
  pub out : me'.1 ≡ slots
  pub sizes : me'.0.sizes ≡ me.0.sizes

-- the seat has one pass, whose call has the first side state that is out
pub record StandsAlone (me : SeatState) : Type 0 where
  pub one : me.0.passes ≡ pass_in me ∷ []
  pub side : has_side (first_side me.1) (pass_in me).call ≡ true

-- a call that is to be ended with the receiver's turn of this end alone, and this side state
abbrev pub IsEmptied : End → ReceiverSide → Call → Type 0
IsEmptied end x (EndsHeld e y) = (e ≡ end) × (y ≡ x)
IsEmptied end x (EndsReceive e t y b message) = (e ≡ end) × (y ≡ x) × (is_manager t ≡ false) × (receiver_is_out t ≡ false)
IsEmptied end x other = ⊥

-- the seat of such a call, whose side state is out
pub record HoldsAlone (who : CallerId) (me : SeatState) : Type 0 where
  pub one : me.0.passes ≡ pass_in me ∷ []
  pub number : (pass_in me).number ≡ who.number
  pub side : ReceiverSide
  pub out : me.1 ≡ (receiver_slot who.end, Receiver side) ∷ []
  pub emptied : IsEmptied who.end side (pass_in me).call

-- the pass of a caller that was ended: it did what it did before, and holds nothing
abbrev pub ended_of : CallerId → Pass → Pass
ended_of who p = with_call_and_hands p (Rests who.end) []

-- another has the receiver's turn of this end: its word was found to be this holder's by an attempt of the seat
pub record IsAnothers {D : Type 0} (coded : Coded D) (meaning : DeskMeaning D) (who : CallerId) (holder : ℕ) : Type 0 where
  pub before : SeatState
  pub after : SeatState
  pub step : DoesAt coded meaning (place_of_number who.number before.0.passes) before (HasWord (place_in (receiver_word who.end)) (holder + 1)) (ManagerTakes lane_turn.Receiver who.end) after

-- why a call is not ended: the era was found live, by a look with the turn of the call or for what the caller holds; or another has the receiver's turn, and
-- the caller holds something, and its call has another turn or none
abbrev pub lacks_receiver : TurnHeld → Bool
lacks_receiver held.Neither = true
lacks_receiver held.Sender = true
lacks_receiver held.SenderAndBuffer = true
lacks_receiver held.Receiver = false
lacks_receiver held.ReceiverAndBuffer = false

-- whether it is a turn
abbrev pub is_turn : TurnHeld → Bool
is_turn held.Neither = false
is_turn held.Sender = true
is_turn held.SenderAndBuffer = true
is_turn held.Receiver = true
is_turn held.ReceiverAndBuffer = true

abbrev pub IsEndFault : {D : Type 0} → Coded D → DeskMeaning D → CallerId → TurnHeld → Bool → ReclaimRefusal → Type 0
IsEndFault coded meaning who turn is_holding (refusal.StillOpen era) = (era.is_live ≡ true) × ((is_turn turn ≡ true) ⊎ (is_holding ≡ true))
IsEndFault coded meaning who turn is_holding (refusal.Busy holder) = IsAnothers coded meaning who holder × (is_holding ≡ true) × (lacks_receiver turn ≡ true)

-- how many slots are out with it
abbrev pub turn_slots : TurnHeld → ℕ
turn_slots held.Neither = 0
turn_slots held.Sender = 1
turn_slots held.SenderAndBuffer = 2
turn_slots held.Receiver = 1
turn_slots held.ReceiverAndBuffer = 2

-- what the manager does to the link of a caller whose call it ends: it takes the receiver's turn where it needs it for what the caller holds, ends the call where there
-- is one, and leaves the turn that it took
abbrev pub end_deeds : CallerId → TurnHeld → Bool → List Deed
end_deeds who held.Neither false = []
end_deeds who held.Neither true = ManagerTakes lane_turn.Receiver who.end ∷ LeavesTurn who.end who.number ∷ []
end_deeds who held.Sender false = EndsCall who.end who.number ∷ []
end_deeds who held.Sender true = ManagerTakes lane_turn.Receiver who.end ∷ EndsCall who.end who.number ∷ LeavesTurn who.end who.number ∷ []
end_deeds who held.SenderAndBuffer false = EndsCall who.end who.number ∷ []
end_deeds who held.SenderAndBuffer true = ManagerTakes lane_turn.Receiver who.end ∷ EndsCall who.end who.number ∷ LeavesTurn who.end who.number ∷ []
end_deeds who held.Receiver is_holding = EndsCall who.end who.number ∷ []
end_deeds who held.ReceiverAndBuffer is_holding = EndsCall who.end who.number ∷ []

-- who has the receiver's turn of this end
abbrev pub IsReceiver : {D : Type 0} → End → ℕ → LaneLink (RingState D) → Type 0
IsReceiver end found m = holder (lane_to m end).lane.receiver ≡ Some found

-- nobody has it, in the state that a manager knows
abbrev pub KnowsFree : {D : Type 0} → Coded D → End → SeatState → Type 0
KnowsFree coded end me = (m : LaneLink (RingState _)) → KnowsState coded me.0 m → (lane_to m end).lane.receiver ≡ turn.Free

-- a manager that knew the state, whose era was closed, knows it still where a call was not ended: another has the receiver's turn
abbrev pub IsRefusedIn : {D : Type 0} → End → ReclaimRefusal → LaneLink (RingState D) → Type 0
IsRefusedIn end (refusal.StillOpen era) m = ⊥
IsRefusedIn end (refusal.Busy found) m = IsReceiver end found m

abbrev pub KnowsRefusal : {D : Type 0} → Coded D → CallerId → ReclaimRefusal → SeatState → SeatState → Type 0
KnowsRefusal coded who fault me me' = (m : LaneLink (RingState _)) → KnowsState coded me.0 m → m.era.is_live ≡ false → IsRefusedIn who.end fault m × KnowsState coded me'.0 m

-- the manager has read this era, and nothing else of what it knows has changed
abbrev pub HasRead : Era → SeatState → SeatState → Type 0
HasRead era me me' = me' ≡ (with_era me.0 era, me.1)

-- the caller of this pass has ended, in a closed era: its number is free, and nothing was added to what it had done
pub record HasRetired (who : CallerId) (p : Pass) (me me' : SeatState) : Type 0 where
  pub era : Era
  pub closed : era.is_live ≡ false
  pub after : me' ≡ (after_end_with (with_era me.0 era) (record spent_view { passes = ended_of who p ∷ [] }), me.1)
