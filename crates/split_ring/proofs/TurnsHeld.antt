-- The turn that a caller's call has, by its phase, and the slots that are out with it.
use Rattle.std.proofs.Common.{◌≡◌, ℕ, true, false, List, [], ◌∷◌, refl, ap, ◌∙◌}
use Rattle.rp_base.specs.declared.kinds.End.{End}
use Rattle.split_ring.specs.declared.binds.DeskAsk.TheVariants as asks
use Rattle.lane_model.specs.declared.stages.GiveStage.TheVariants as give_stage
use Rattle.lane_model.specs.declared.stages.Receiving.{Receiving}
use Rattle.lane_model.specs.declared.stages.SendStage.TheVariants as stage
use Rattle.lane_model.specs.declared.stages.Sending.{Sending}
use Rattle.lane_model.specs.declared.stages.TakeStage.TheVariants as take_stage
use Rattle.lane_model.specs.declared.stages.Turn.{Turn}
use Rattle.ring_core.specs.Owners.{sender_is_out, receiver_is_out}
use Rattle.link_words.specs.declared.rule.Call.TheVariants.{Sends, Receives}
use Rattle.link_words.specs.declared.rule.LinkSizes.{LinkSizes}
use Rattle.link_words.specs.declared.rule.ReceiverSide.{ReceiverSide}
use Rattle.link_words.specs.declared.rule.SenderSide.{SenderSide}
use Rattle.link_words.specs.declared.rule.Slot.{Slot}
use Rattle.link_words.specs.declared.rule.Slot.TheVariants.{Buffer, Receiver, Sender}
use Rattle.link_words.specs.Calls.{SeatState}
use Rattle.link_words.specs.Turns.{is_manager}
use Rattle.link_words.specs.Words.{other, receiver_slot, sender_slot, buffer_slot}
use Rattle.split_ring.specs.declared.callers.CallerId.{CallerId}
use Rattle.split_ring.specs.CallPhases.{Phase}
use Rattle.split_ring.specs.CallPhases as phase
use Rattle.split_ring.specs.Phases.{slots_in}
use Rattle.split_ring.specs.Reclaims.{HasReceive, HasSend, HasTurnHeld, StandsIn, turn_in, turn_slots}
use Rattle.split_ring.specs.Seats.{IsAt}

-- a call that has the sender's turn of this lane, with its side state alone, or with its buffer too
module _ (z : LinkSizes) (who : CallerId) (me : SeatState) (e : End) (t : Turn Sending) (x : SenderSide) (b : ℕ) (lane : e ≡ other who.end) where
  send_held : IsAt me (Sends e t x b) ((sender_slot e, Sender x) ∷ []) → is_manager t ≡ false → sender_is_out t ≡ false → HasSend z who false me
  send_held at bare is_out = record {
    turn = t;
    side = x;
    buffer = b;
    bare = bare;
    is_out = is_out;
    at = record { one = at.one; in_call = at.in_call ∙ ap (λ (l : End). Sends l t x b) lane; out = refl };
    slots = at.out ∙ ap (λ (l : End). (sender_slot l, Sender x) ∷ []) lane;
  }

  send_filled : (y : Slot) → IsAt me (Sends e t x b) ((buffer_slot z.to_host.capacity e b, y) ∷ (sender_slot e, Sender x) ∷ []) → is_manager t ≡ false → sender_is_out t ≡ true → HasSend z who true me
  send_filled y at bare is_out = record {
    turn = t;
    side = x;
    buffer = b;
    bare = bare;
    is_out = is_out;
    at = record { one = at.one; in_call = at.in_call ∙ ap (λ (l : End). Sends l t x b) lane; out = refl };
    slots = (y, at.out ∙ ap (λ (l : End). (buffer_slot z.to_host.capacity l b, y) ∷ (sender_slot l, Sender x) ∷ []) lane);
  }

-- or the receiver's
module _ (z : LinkSizes) (who : CallerId) (me : SeatState) (e : End) (t : Turn Receiving) (x : ReceiverSide) (b : ℕ) (message : List ℕ) (lane : e ≡ who.end) where
  receive_held : IsAt me (Receives e t x b message) ((receiver_slot e, Receiver x) ∷ []) → is_manager t ≡ false → receiver_is_out t ≡ false → HasReceive z who false me
  receive_held at bare is_out = record {
    turn = t;
    side = x;
    buffer = b;
    message = message;
    bare = bare;
    is_out = is_out;
    at = record { one = at.one; in_call = at.in_call ∙ ap (λ (l : End). Receives l t x b message) lane; out = refl };
    slots = at.out ∙ ap (λ (l : End). (receiver_slot l, Receiver x) ∷ []) lane;
  }

  receive_filled : IsAt me (Receives e t x b message) ((buffer_slot z.to_host.capacity e b, Buffer message) ∷ (receiver_slot e, Receiver x) ∷ []) → is_manager t ≡ false → receiver_is_out t ≡ true → HasReceive z who true me
  receive_filled at bare is_out = record {
    turn = t;
    side = x;
    buffer = b;
    message = message;
    bare = bare;
    is_out = is_out;
    at = record { one = at.one; in_call = at.in_call ∙ ap (λ (l : End). Receives l t x b message) lane; out = refl };
    slots = at.out ∙ ap (λ (l : End). (buffer_slot z.to_host.capacity l b, Buffer message) ∷ (receiver_slot l, Receiver x) ∷ []) lane;
  }

sends_to : (a b : CallerId) → a ≡ b → other a.end ≡ other b.end
sends_to a b same = ap (λ (w : CallerId). other w.end) same

takes_to : (a b : CallerId) → a ≡ b → a.end ≡ b.end
takes_to a b same = ap (λ (w : CallerId). w.end) same

-- a caller has the turn of its call in this phase, whatever its calls follow
pub turn_stands : (z : LinkSizes) (who : CallerId) (follows : ℕ) (p : Phase) (me : SeatState) → StandsIn z (record who { follows = follows }) p me → HasTurnHeld z who (turn_in p) me
turn_stands z who follows (phase.Asked asked) me at = at.0
turn_stands z who follows (phase.Sends stage.Turn c message) me at = send_held z who me (other c.who.end) _ _ _ (sends_to c.who (record who { follows = follows }) at.1) at.0.0 refl refl
turn_stands z who follows (phase.Sends stage.Era c message) me at = send_held z who me (other c.who.end) _ _ _ (sends_to c.who (record who { follows = follows }) at.1) at.0.0 refl refl
turn_stands z who follows (phase.Sends stage.Look c message) me at = send_held z who me (other c.who.end) _ _ _ (sends_to c.who (record who { follows = follows }) at.1) at.0.0 refl refl
turn_stands z who follows (phase.Sends stage.Buffer c message) me at = send_filled z who me (other c.who.end) _ _ _ (sends_to c.who (record who { follows = follows }) at.1) at.0.0 at.0.1.0 refl refl
turn_stands z who follows (phase.Sends stage.Entry c message) me at = send_filled z who me (other c.who.end) _ _ _ (sends_to c.who (record who { follows = follows }) at.1) _ at.0.0 refl refl
turn_stands z who follows (phase.Takes take_stage.Turn c buffer) me at = receive_held z who me c.who.end _ _ _ _ (takes_to c.who (record who { follows = follows }) at.1) at.0.at refl refl
turn_stands z who follows (phase.Takes take_stage.Era c buffer) me at = receive_held z who me c.who.end _ _ _ _ (takes_to c.who (record who { follows = follows }) at.1) at.0.at refl refl
turn_stands z who follows (phase.Takes take_stage.Look c buffer) me at = receive_held z who me c.who.end _ _ _ _ (takes_to c.who (record who { follows = follows }) at.1) at.0.at refl refl
turn_stands z who follows (phase.Takes take_stage.Buffer c buffer) me at = receive_filled z who me c.who.end _ _ _ _ (takes_to c.who (record who { follows = follows }) at.1) at.0.1.at refl refl
turn_stands z who follows (phase.Gives give_stage.Turn held returned) me at = receive_held z who me who.end _ _ _ _ refl at.0.3 refl refl
turn_stands z who follows (phase.Gives give_stage.Entry held returned) me at = receive_held z who me who.end _ _ _ _ refl at.0.at refl refl
turn_stands z who follows (phase.Asks (asks.Bind address)) me at = receive_held z who me who.end _ _ _ _ refl at.3 refl refl
turn_stands z who follows (phase.Asks (asks.Unbind address)) me at = receive_held z who me who.end _ _ _ _ refl at.3 refl refl
turn_stands z who follows (phase.LeavesSender answer) me at = send_held z who me (other who.end) _ _ _ refl at.3 refl refl
turn_stands z who follows (phase.LeavesReceiver answer) me at = receive_held z who me who.end _ _ _ _ refl at.4 refl refl
turn_stands z who follows phase.Ended me at = at

pub turn_count : (p : Phase) → turn_slots (turn_in p) ≡ slots_in p
turn_count (phase.Asked asked) = refl
turn_count (phase.Sends stage.Turn c message) = refl
turn_count (phase.Sends stage.Era c message) = refl
turn_count (phase.Sends stage.Look c message) = refl
turn_count (phase.Sends stage.Buffer c message) = refl
turn_count (phase.Sends stage.Entry c message) = refl
turn_count (phase.Takes take_stage.Turn c buffer) = refl
turn_count (phase.Takes take_stage.Era c buffer) = refl
turn_count (phase.Takes take_stage.Look c buffer) = refl
turn_count (phase.Takes take_stage.Buffer c buffer) = refl
turn_count (phase.Gives s held returned) = refl
turn_count (phase.Asks asked) = refl
turn_count (phase.LeavesSender answer) = refl
turn_count (phase.LeavesReceiver answer) = refl
turn_count phase.Ended = refl
