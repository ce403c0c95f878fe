-- A send by its steps, by the state that its seat knows.
use Rattle.std.proofs.Common.{◌≡◌, ◌+◌, ℕ, suc, List, refl, sym, subst}
use Rattle.std.specs.Prelude.{None, Ok, Err, Result}
use base.Stored.{Coded}
use Rattle.rp_base.specs.declared.kinds.Era.{Era}
use Rattle.lane_model.specs.declared.calls.Answer.TheVariants as answer
use Rattle.lane_model.specs.declared.calls.CallEnd.{CallEnd}
use Rattle.lane_model.specs.declared.calls.CallEnd.TheVariants as end
use Rattle.lane_model.specs.declared.calls.Progress.TheVariants as progress
use Rattle.lane_model.specs.declared.lane_links.LaneLink.{LaneLink}
use Rattle.lane_model.specs.declared.recoveries.LaneTurn.TheVariants as lane_turn
use Rattle.lane_model.specs.declared.stages.SendStage.{SendStage}
use Rattle.lane_model.specs.declared.stages.SendStage.TheVariants as stage
use Rattle.lane_model.specs.Desks.{DeskMeaning}
use Rattle.ring_core.specs.declared.states.RingState.{RingState}
use Rattle.link_words.specs.declared.rule.LinkSizes.{LinkSizes}
use Rattle.link_words.specs.declared.rule.Slot.{Slot}
use Rattle.link_words.specs.declared.rule.Slot.TheVariants.{Buffer}
use Rattle.link_words.specs.declared.rule.View.{View}
use Rattle.link_words.specs.Calls.{SeatState}
use Rattle.link_words.specs.Deeds.{Steps}
use Rattle.link_words.specs.PlacedLinks.{KnowsState}
use Rattle.link_words.specs.Words.{other, sender_slot}
use Rattle.split_ring.specs.declared.callers.CallerId.{CallerId}
use Rattle.split_ring.specs.CallPhases.{Phase}
use Rattle.split_ring.specs.CallPhases as phase
use Rattle.split_ring.specs.declared.sends.SendCall.{SendCall}
use Rattle.split_ring.specs.declared.sends.SendFault.{SendFault}
use Rattle.split_ring.specs.declared.sends.SendFault.TheVariants as fault
use Rattle.split_ring.specs.Calls.{IsInPhase, send_answer}
use Rattle.split_ring.specs.Focus.{StaysAlone, StepsAlone, seat_of}
use Rattle.split_ring.specs.Phases.{IsUnderWay, KeepsBuffer, send_steps, side_of}
use Rattle.split_ring.specs.Runs.{HasRun, send_behind}
use Rattle.split_ring.specs.Sends.{HasNoRoom, IsFilledAt, IsSendAt}
use Rattle.split_ring.specs.Turns.{IsLeaving}
use Rattle.split_ring.proofs.Outcomes.{send_on}
use Rattle.split_ring.proofs.Runs.{run_begins, run_on}
use Rattle.split_ring.proofs.StepLanes.{send_lanes}

-- a send has come by these steps, which it and the leave make a whole one, to its answer
abbrev pub HasSent : {D : Type 0} → Coded D → DeskMeaning D → LinkSizes → CallerId → Result ℕ SendFault → LaneLink (RingState D) → SeatState → Type 0
HasSent coded meaning z who r m me = (steps : ℕ) × (send_behind r ≡ suc steps) × HasRun coded meaning who z steps (phase.LeavesSender (send_answer r)) m me

module _ {D : Type 0} (coded : Coded D) (meaning : DeskMeaning D) (z : LinkSizes) (call : SendCall) (m : LaneLink (RingState D)) (me a : SeatState) (at : IsSendAt call stage.Turn (seat_of call.who.number a)) (stays : StaysAlone call.who.number me a) (known : KnowsState coded me.0 m) where
  abbrev who : CallerId
  who = call.who

  abbrev In : SendStage → Phase
  In s = phase.Sends s call call.message.value

  abbrev GoesOn : SeatState → SeatState → Type 0
  GoesOn b c = StepsAlone coded meaning call.who.number (Steps call.who.number 0 None) b c

  -- one step more of the send
  sends_on : (k : ℕ) (s : SendStage) (c : SendCall) (p' : Phase) (b d : SeatState) → HasRun coded meaning call.who z k (phase.Sends s c call.message.value) m b → GoesOn b d → IsInPhase z call.who p' (seat_of call.who.number d)
      → side_of call.who.end p' ≡ sender_slot (other call.who.end) → IsUnderWay p' → KeepsBuffer (phase.Sends s c call.message.value) p' → HasRun coded meaning call.who z (suc k) p' m d
  sends_on k s c p' b d run step at same way keeps = let p = phase.Sends s c call.message.value in run_on coded meaning z who k p p' m b d (send_on s).0 run step at
      (λ left knows. send_lanes coded meaning z who b d left step knows s c call.message.value (progress.At (send_steps s + 1)) p' run.stands (refl, same, way, tt, keeps) at)

  begun : HasRun coded meaning call.who z 0 (In stage.Turn) m a
  begun = run_begins coded meaning z who (In stage.Turn) m a (send_on stage.Turn).0 (at, refl, refl) (subst (λ (v : View). KnowsState coded v m) (sym stays.view) known)

  -- the era is not the one that it follows, live
  pub run_dead : (era : Era) (b : SeatState) → GoesOn a b → IsLeaving lane_turn.Sender (other call.who.end) (end.Dead era) (seat_of call.who.number b) → HasSent coded meaning z call.who (Err (fault.Dead era)) m b
  run_dead era b one leaving = (1, refl, sends_on 0 stage.Turn call (phase.LeavesSender (answer.Dead era)) a b begun one leaving refl tt refl)

  module _ (b : SeatState) (one : GoesOn a b) (live : IsSendAt call stage.Era (seat_of call.who.number b)) where
    era : HasRun coded meaning call.who z 1 (In stage.Era) m b
    era = sends_on 0 stage.Turn call (In stage.Era) a b begun one (live, refl, refl) refl tt refl

    -- it found no room
    pub run_unmet : (found : SendFault) (returned : ℕ) (ended : CallEnd) (c : SeatState) → GoesOn b c → HasNoRoom z call returned found ended → IsLeaving lane_turn.Sender (other call.who.end) ended (seat_of call.who.number c) → HasSent coded meaning z call.who (Err found) m c
    run_unmet (fault.Busy holder) returned ended c two none leaving = absurd none
    run_unmet (fault.Dead found) returned ended c two none leaving = absurd none
    run_unmet (fault.NoBuffer accepted back) returned ended c two none leaving =
        (2, refl, sends_on 1 stage.Era call (phase.LeavesSender (answer.NoBuffer accepted back)) b c era two (subst (λ (e : CallEnd). IsLeaving lane_turn.Sender (other who.end) e (seat_of who.number c)) none.2 leaving) refl tt refl)
    run_unmet (fault.BookFull accepted) returned ended c two none leaving =
        (2, refl, sends_on 1 stage.Era call (phase.LeavesSender (answer.BookFull accepted)) b c era two (subst (λ (e : CallEnd). IsLeaving lane_turn.Sender (other who.end) e (seat_of who.number c)) none.1 leaving) refl tt refl)

    -- or it goes to its end
    module _ (buffer : ℕ) (message : List ℕ) (same : call.message.value ≡ message) (y : Slot) (c d e f : SeatState) where
      abbrev With : SendCall
      With = record call { buffer = buffer }

      pub run_sent : GoesOn b c → IsSendAt call stage.Look (seat_of call.who.number c) → GoesOn c d → IsFilledAt z (record call { buffer = buffer }) stage.Buffer y (seat_of call.who.number d) → GoesOn d e
          → IsFilledAt z (record call { buffer = buffer }) stage.Entry (Buffer message) (seat_of call.who.number e) → GoesOn e f → IsLeaving lane_turn.Sender (other call.who.end) (end.Sent call.accepted) (seat_of call.who.number f) → HasSent coded meaning z call.who (Ok call.accepted) m f
      run_sent two look three out four stored five leaving =
          let looked = sends_on 1 stage.Era call (In stage.Look) b c era two (look, refl, refl) refl tt refl in
          let taken = sends_on 2 stage.Look call (phase.Sends stage.Buffer With call.message.value) c d looked three ((y, out), refl, refl) refl tt refl in
          let filled = subst (λ (x : List ℕ). IsFilledAt z With stage.Entry (Buffer x) (seat_of who.number e)) (sym same) stored in
          let entry = sends_on 3 stage.Buffer With (phase.Sends stage.Entry With call.message.value) d e taken four (filled, refl, refl) refl tt refl in
          (5, refl, sends_on 4 stage.Entry With (phase.LeavesSender (answer.Sent call.accepted)) e f entry five leaving refl tt refl)
