-- A step of a call keeps the numbers and bytes of its lane within their types, and so does what it tells.
use Rattle.std.proofs.Common.{ℕ, zero, suc, ◌+◌, ◌<◌, ◌^◌, ◌==◌, eqb, cond, List, [], ◌∷◌, ◌++◌, length, Result, Ok, Err, arith}
use Rattle.std.proofs.lemmas.Bool.{cond_both}
use Rattle.rp_base.specs.declared.kinds.BindFault.{BindFault}
use Rattle.rp_base.specs.declared.kinds.Endpoint.{Endpoint}
use Rattle.rp_base.specs.declared.kinds.Era.{Era}
use Rattle.lane_model.specs.declared.states.BookEntry.{BookEntry}
use Rattle.lane_model.specs.declared.states.Lane.{Lane}
use Rattle.lane_model.specs.declared.states.LaneState.{LaneState}
use Rattle.lane_model.specs.declared.stages.Sending.{Sending}
use Rattle.lane_model.specs.declared.stages.SendStage.{SendStage}
use Rattle.lane_model.specs.declared.stages.SendStage.TheVariants as stage
use Rattle.lane_model.specs.declared.stages.Receiving.{Receiving}
use Rattle.lane_model.specs.declared.stages.Work.{Work}
use Rattle.lane_model.specs.declared.stages.Work.TheVariants as work
use Rattle.lane_model.specs.declared.stages.TakeStage.{TakeStage}
use Rattle.lane_model.specs.declared.stages.TakeStage.TheVariants as take_stage
use Rattle.lane_model.specs.declared.stages.GiveStage.{GiveStage}
use Rattle.lane_model.specs.declared.stages.GiveStage.TheVariants as give_stage
use Rattle.lane_model.specs.declared.stages.Turn.{Turn}
use Rattle.lane_model.specs.declared.stages.Turn.TheVariants as turn
use Rattle.lane_model.specs.declared.calls.CallEnd.{CallEnd}
use Rattle.lane_model.specs.declared.calls.CallEnd.TheVariants as end
use Rattle.lane_model.specs.declared.calls.Outcome.TheVariants as outcome
use Rattle.lane_model.specs.Lanes.{Stepped, is_live_in, message_at, taken_by, turn_step}
use Rattle.lane_model.specs.Sends.{send_step, sender_step}
use Rattle.lane_model.specs.Receives.{after_handing, desk_end, desk_step, give_step, receive_step, receiver_step, take_step}
use Rattle.lane_model.specs.Soundness.{IsSoundLane}
use Rattle.channel_bus.specs.Sides.{EndState, after_side_bind, after_side_unbind, side_bind_answer, side_meaning, side_unbind_answer}
use Rattle.field_laws.specs.Fields.{AreBytes, IsFieldEnd, IsFieldEndpoint, IsFieldLane, IsFieldOutcome, IsFieldReceiving, IsFieldSending, IsFieldSide, IsFieldTurn, IsFieldWork}
use Rattle.field_laws.proofs.Sides.{IsFieldAnswer, message_fields, side_bind_fields, side_bound_fields, side_unbind_fields, side_unbound_fields, verdict_fields}

-- what a step leaves of a lane and tells
pub record IsFieldStep (stepped : Stepped (LaneState EndState)) : Type 0 where
  pub state : IsFieldLane stepped.state
  pub outcome : IsFieldOutcome stepped.outcome

-- the counts of a lane are no larger than its book
pub record HasFieldCounts (lane : Lane) : Type 0 where
  pub accepted : length lane.accepted < 2 ^ 64
  pub takers : length lane.takers < 2 ^ 64
  pub returned : lane.returned < 2 ^ 64

pub counts_small : (state : LaneState EndState) → IsSoundLane state → IsFieldLane state → HasFieldCounts state.lane
counts_small state sound is =
    let book = is.book in
    let within = sound.within in
    let handed = sound.handed in
    let counts = sound.counts in
    record { accepted = omega (arith, book, within); takers = omega (arith, book, within, handed); returned = omega (arith, book, within, handed, counts) }

-- another call at an end of the lane
sent : (state : LaneState EndState) (next : Turn Sending) → IsFieldLane state → IsFieldTurn IsFieldSending next → IsFieldLane (record state { sender = next })
sent state next is now = record { accepted = is.accepted; book = is.book; sender = now; receiver = is.receiver; desk = is.desk }

received : (state : LaneState EndState) (next : Turn Receiving) (desk : EndState) → IsFieldLane state → IsFieldTurn IsFieldReceiving next → IsFieldSide desk
    → IsFieldLane (record state { receiver = next; desk = desk })
received state next desk is now side = record { accepted = is.accepted; book = is.book; sender = is.sender; receiver = now; desk = side }

-- one message more in a book
one_more : (book : List BookEntry) (entry : BookEntry) → ((number : ℕ) → AreBytes (message_at book number)) → AreBytes entry.message
    → (number : ℕ) → AreBytes (message_at (book ++ entry ∷ []) number)
one_more [] entry all one zero = one
one_more [] entry all one (suc number) = all 0
one_more (first ∷ book) entry all one zero = all 0
one_more (first ∷ book) entry all one (suc number) = one_more book entry (λ n. all (suc n)) one number

-- ---- sends

module _ (era : Era) (inc : era.inc < 2 ^ 32) (state : LaneState EndState) (sound : IsSoundLane state) (is : IsFieldLane state) where
  sent_at : (next : Turn Sending) (step : ℕ) → IsFieldTurn IsFieldSending next → step < 2 ^ 64 → IsFieldStep (record { state = record state { sender = next }; outcome = outcome.At step })
  sent_at next step now small = record { state = sent state next is now; outcome = small }

  send_fields : (caller : ℕ) (s : Sending) (now : SendStage) → AreBytes s.message → IsFieldStep (send_step era state caller s now)
  send_fields caller s stage.Turn are =
      sent_at _ 2 (cond_both (is_live_in era s.follows) (turn.Taken caller (record s { stage = stage.Era })) (turn.Leaving caller (end.Dead era)) (IsFieldTurn IsFieldSending) (λ _. are) (λ _. inc)) (omega arith)
  send_fields caller s stage.Era are =
      let counts = counts_small state sound is in
      let full : Turn Sending = turn.Leaving caller (end.BookFull (length state.lane.accepted)) in
      let room : Turn Sending = turn.Taken caller (record s { stage = stage.Look }) in
      sent_at _ 3
      (cond_both (eqb (length state.lane.accepted) (state.lane.returned + state.lane.capacity)) (turn.Leaving caller (end.NoBuffer (length state.lane.accepted) state.lane.returned))
      (cond (eqb (length state.lane.accepted) state.lane.book) full room) (IsFieldTurn IsFieldSending) (λ _. (counts.accepted, counts.returned))
      (λ _. cond_both (eqb (length state.lane.accepted) state.lane.book) full room (IsFieldTurn IsFieldSending) (λ _. counts.accepted) (λ _. are)))
      (omega arith)
  send_fields caller s stage.Look are = sent_at (turn.Taken caller (record s { stage = stage.Buffer })) 4 are (omega arith)
  send_fields caller s stage.Buffer are = sent_at (turn.Taken caller (record s { stage = stage.Entry })) 5 are (omega arith)
  send_fields caller s stage.Entry are = record {
    state = record {
      accepted = one_more state.lane.accepted (record { caller = caller; message = s.message }) is.accepted are;
      book = is.book;
      sender = (counts_small state sound is).accepted;
      receiver = is.receiver;
      desk = is.desk;
    };
    outcome = omega arith;
  }

  sender_at : (now : Turn Sending) → IsFieldTurn IsFieldSending now
      → IsFieldStep (turn_step state (record state { sender = turn.Free }) (λ caller s. send_step era state caller s s.stage) now)
  sender_at turn.Free of = record { state = is; outcome = omega arith }
  sender_at (turn.Taken caller s) of = send_fields caller s s.stage of
  sender_at (turn.Leaving caller ended) of = record { state = sent state turn.Free is tt; outcome = of }
  sender_at turn.Manager of = record { state = is; outcome = omega arith }

  pub sender_fields : IsFieldStep (sender_step era state)
  sender_fields = sender_at state.sender is.sender

  -- ---- the other calls

  received_at : (next : Turn Receiving) (desk : EndState) (step : ℕ) → IsFieldTurn IsFieldReceiving next → IsFieldSide desk → step < 2 ^ 64
      → IsFieldStep (record { state = record state { receiver = next; desk = desk }; outcome = outcome.At step })
  received_at next desk step now side small = record { state = received state next desk is now side; outcome = small }

  handing_fields : (caller : ℕ) → IsFieldLane (after_handing side_meaning state caller)
  handing_fields caller =
      let number = length state.lane.takers in
      let message = message_at state.lane.accepted number in
      record {
        accepted = is.accepted;
        book = is.book;
        sender = is.sender;
        receiver = ((counts_small state sound is).takers, verdict_fields state.desk is.desk number message (is.accepted number));
        desk = message_fields state.desk is.desk number message (is.accepted number);
      }

  take_fields : (caller : ℕ) (r : Receiving) (now : TakeStage) → IsFieldStep (take_step side_meaning era state caller r now)
  take_fields caller r take_stage.Turn =
      received_at _ state.desk 2
      (cond_both (is_live_in era r.follows) (turn.Taken caller (record r { work = work.Take take_stage.Era })) (turn.Leaving caller (end.Dead era)) (IsFieldTurn IsFieldReceiving) (λ _. tt) (λ _. inc))
      is.desk (omega arith)
  take_fields caller r take_stage.Era =
      received_at _ state.desk 3
      (cond_both (length state.lane.takers == length state.lane.accepted) (turn.Leaving caller (end.Empty (length state.lane.accepted))) (turn.Taken caller (record r { work = work.Take take_stage.Look }))
      (IsFieldTurn IsFieldReceiving) (λ _. (counts_small state sound is).accepted) (λ _. tt))
      is.desk (omega arith)
  take_fields caller r take_stage.Look = received_at (turn.Taken caller (record r { work = work.Take take_stage.Buffer })) state.desk 4 tt is.desk (omega arith)
  take_fields caller r take_stage.Buffer = record {
    state = cond_both (is_live_in era r.follows) (after_handing side_meaning state caller) (record state { receiver = turn.Leaving caller (end.Dead era) }) IsFieldLane
        (λ _. handing_fields caller) (λ _. received state (turn.Leaving caller (end.Dead era)) state.desk is inc is.desk);
    outcome = omega arith;
  }

  give_fields : (caller : ℕ) (r : Receiving) (number : ℕ) (now : GiveStage) → number < 2 ^ 64 → IsFieldStep (give_step state caller r number now)
  give_fields caller r number give_stage.Turn small = received_at (turn.Taken caller (record r { work = work.Give number give_stage.Entry })) state.desk 2 small is.desk (omega arith)
  give_fields caller r number give_stage.Entry small = record {
    state = record { accepted = is.accepted; book = is.book; sender = is.sender; receiver = small; desk = is.desk };
    outcome = omega arith;
  }

  desk_end_fields : (done : Endpoint → CallEnd) (answer : Result Endpoint BindFault) → ((endpoint : Endpoint) → IsFieldEndpoint endpoint → IsFieldEnd (done endpoint)) → IsFieldAnswer answer
      → IsFieldEnd (desk_end done answer)
  desk_end_fields done (Ok endpoint) each found = each endpoint found
  desk_end_fields done (Err why) each found = found

  desk_fields : (caller : ℕ) (r : Receiving) (desk : EndState) (ended : CallEnd) → IsFieldSide desk → IsFieldEnd ended → IsFieldStep (desk_step era state caller r desk ended)
  desk_fields caller r desk ended side now = record {
    state = cond_both (is_live_in era r.follows) (record state { receiver = turn.Leaving caller ended; desk = desk }) (record state { receiver = turn.Leaving caller (end.Dead era) }) IsFieldLane
        (λ _. received state (turn.Leaving caller ended) desk is now side) (λ _. received state (turn.Leaving caller (end.Dead era)) state.desk is inc is.desk);
    outcome = omega arith;
  }

  receive_fields : (caller : ℕ) (r : Receiving) (now : Work) → IsFieldWork now → IsFieldStep (receive_step side_meaning era state caller r now)
  receive_fields caller r (work.Take now) of = take_fields caller r now
  receive_fields caller r (work.Give number now) of = give_fields caller r number now of
  receive_fields caller r (work.Bind address) of =
      let since = length state.lane.takers in
      desk_fields caller r (after_side_bind state.desk address since) (desk_end end.Bound (side_bind_answer state.desk address)) (side_bound_fields state.desk is.desk address since of)
      (desk_end_fields end.Bound (side_bind_answer state.desk address) (λ endpoint found. found) (side_bind_fields state.desk is.desk address of))
  receive_fields caller r (work.Unbind address) of =
      desk_fields caller r (after_side_unbind state.desk address) (desk_end end.Unbound (side_unbind_answer state.desk address)) (side_unbound_fields state.desk is.desk address)
      (desk_end_fields end.Unbound (side_unbind_answer state.desk address) (λ endpoint found. found) (side_unbind_fields state.desk is.desk address of))

  receiver_at : (now : Turn Receiving) → IsFieldTurn IsFieldReceiving now
      → IsFieldStep (turn_step state (record state { receiver = turn.Free }) (λ caller r. receive_step side_meaning era state caller r r.work) now)
  receiver_at turn.Free of = record { state = is; outcome = omega arith }
  receiver_at (turn.Taken caller r) of = receive_fields caller r r.work of
  receiver_at (turn.Leaving caller ended) of = record { state = received state turn.Free state.desk is tt is.desk; outcome = of }
  receiver_at turn.Manager of = record { state = is; outcome = omega arith }

  pub receiver_fields : IsFieldStep (receiver_step side_meaning era state)
  receiver_fields = receiver_at state.receiver is.receiver

-- ---- the first step

pub taken_fields : {C : Type 0} (P : C → Type 0) (now : Turn C) (caller : ℕ) (call : C) → IsFieldTurn P now → P call → IsFieldTurn P (taken_by now caller call)
taken_fields P turn.Free caller call of one = one
taken_fields P (turn.Taken other other_call) caller call of one = of
taken_fields P (turn.Leaving other ended) caller call of one = of
taken_fields P turn.Manager caller call of one = of
