-- What a step of a call does to the lanes of its caller, by the state of the ring form that its manager knows. `first_lanes` and `begun_lanes` are of a first step;
-- `send_lanes`, `take_lanes`, `give_lanes`, `desk_lanes`, `sender_left` and `receiver_left` of a later one, by the phase before it and the one behind it;
-- `leaves_then`, `settles_from`, `settles_then` and `settles_still` put the steps of a whole call together.
use Rattle.std.proofs.Common.{◌≡◌, ◌+◌, ℕ, Bool, true, false, cond, eqb, eq-eqb, List, [], length, refl, sym, ap, ◌∙◌, subst, arith}
use Rattle.std.specs.Prelude.{Option, Result, Ok, Err, Some, None}
use base.Stored.{Coded}
use Rattle.rp_base.specs.declared.kinds.BindFault.{BindFault}
use Rattle.rp_base.specs.declared.kinds.End.{End}
use Rattle.rp_base.specs.declared.kinds.End.TheVariants as side
use Rattle.rp_base.specs.declared.kinds.Endpoint.{Endpoint}
use Rattle.rp_base.specs.declared.kinds.Era.{Era}
use Rattle.lane_model.specs.declared.calls.Answer.{Answer}
use Rattle.lane_model.specs.declared.calls.Answer.TheVariants as answer
use Rattle.lane_model.specs.declared.calls.CallEnd.{CallEnd}
use Rattle.lane_model.specs.declared.calls.CallEnd.TheVariants as end
use Rattle.lane_model.specs.declared.calls.Progress.{Progress}
use Rattle.lane_model.specs.declared.calls.Progress.TheVariants as progress
use Rattle.lane_model.specs.declared.calls.Wish.{Wish}
use Rattle.lane_model.specs.declared.calls.Wish.TheVariants as wish
use Rattle.lane_model.specs.declared.lane_links.LaneLink.{LaneLink}
use Rattle.lane_model.specs.declared.stages.GiveStage.{GiveStage}
use Rattle.lane_model.specs.declared.stages.GiveStage.TheVariants as give_stage
use Rattle.lane_model.specs.declared.stages.Receiving.{Receiving}
use Rattle.lane_model.specs.declared.stages.SendStage.{SendStage}
use Rattle.lane_model.specs.declared.stages.SendStage.TheVariants as stage
use Rattle.lane_model.specs.declared.stages.Sending.{Sending}
use Rattle.lane_model.specs.declared.stages.TakeStage.{TakeStage}
use Rattle.lane_model.specs.declared.stages.TakeStage.TheVariants as take_stage
use Rattle.lane_model.specs.declared.stages.Turn.{Turn}
use Rattle.lane_model.specs.declared.stages.Turn.TheVariants as turn
use Rattle.lane_model.specs.declared.stages.Work.{Work}
use Rattle.lane_model.specs.declared.stages.Work.TheVariants as work
use Rattle.lane_model.specs.declared.states.Lane.{Lane}
use Rattle.lane_model.specs.declared.states.LaneState.{LaneState}
use Rattle.lane_model.specs.Desks.{DeskMeaning}
use Rattle.lane_model.specs.HeldBuffers.{HeldBuffer}
use Rattle.lane_model.specs.Lanes.{has_call, holder, is_live_in, message_at, turn_step}
use Rattle.lane_model.specs.Links.{Lanes, end_of, first_step, incoming_number, lanes_of, lanes_step, on_lanes, receive_later, send_later}
use Rattle.lane_model.specs.Receives.{after_handing, desk_end, desk_step, receive_step, take_step, with_handed, with_returned}
use Rattle.lane_model.specs.Sends.{send_step, with_accepted}
use Rattle.ring_core.specs.declared.states.RingState.{RingState}
use Rattle.ring_core.specs.RingSteps.{ring_form}
use Rattle.link_words.specs.declared.codes.DeskTables.{DeskTables}
use Rattle.link_words.specs.declared.rule.Call.{Call}
use Rattle.link_words.specs.declared.rule.Call.TheVariants.{Receives, Sends}
use Rattle.link_words.specs.declared.rule.LinkSizes.{LinkSizes}
use Rattle.link_words.specs.declared.rule.ReceiverSide.{ReceiverSide}
use Rattle.link_words.specs.declared.rule.SenderSide.{SenderSide}
use Rattle.link_words.specs.declared.rule.Slot.{Slot}
use Rattle.link_words.specs.Calls.{SeatState}
use Rattle.link_words.specs.Deeds.{Steps, after_deed}
use Rattle.link_words.specs.PlacedLinks.{KnowsState, placed_link}
use Rattle.link_words.specs.Rule.{IsCallOf}
use Rattle.link_words.specs.Turns.{turns_in}
use Rattle.link_words.specs.Words.{lane_to, other, receiver_slot, sender_slot}
use Rattle.split_ring.specs.declared.binds.DeskAsk.{DeskAsk}
use Rattle.split_ring.specs.declared.binds.DeskAsk.TheVariants as asks
use Rattle.split_ring.specs.declared.callers.CallerId.{CallerId}
use Rattle.split_ring.specs.CallPhases.{Phase}
use Rattle.split_ring.specs.CallPhases as phase
use Rattle.split_ring.specs.declared.sends.SendCall.{SendCall}
use Rattle.split_ring.specs.declared.takes.TakeCall.{TakeCall}
use Rattle.split_ring.specs.Binds.{desk_work}
use Rattle.split_ring.specs.Calls.{IsInPhase, StandsAt, call_end}
use Rattle.split_ring.specs.Focus.{ShowsCall, StepsAlone, seat_of}
use Rattle.split_ring.specs.Handed.{HandsBufferOf, IsHandedIn, LeavesLanes, Settles, StepsLanes, incoming_by, outgoing_by}
use Rattle.split_ring.specs.Phases.{IsNext, IsUnsettled, side_of}
use Rattle.split_ring.specs.Receives.{lane_number}
use Rattle.split_ring.specs.Seats.{IsAt}
use Rattle.split_ring.specs.Sends.{send_call}
use Rattle.split_ring.specs.Turns.{receive_call}
use Rattle.split_ring.proofs.Focusing.{false-true}
use Rattle.split_ring.proofs.Outcomes.{call_of_at, lanes_by, leaving_has, no_receive_in, no_send_in, no_sender, other_twice, receiver_in, rests_in, sender_in, taken_has}

-- one of two values has what both have
either_has : {A : Type 0} (P : A → Type 0) (b : Bool) (x y : A) → P x → P y → P (cond b x y)
either_has P true x y one two = one
either_has P false x y one two = two

sides_apart : (e : End) → receiver_slot e ≡ sender_slot (other e) → ⊥
sides_apart side.Host is = omega (arith, is)
sides_apart side.Remote is = omega (arith, is)

number_same : (e : End) → lane_number e ≡ incoming_number e
number_same side.Host = refl
number_same side.Remote = refl

-- of the lane from which a caller takes, and the one on which it sends, before a step of its call and behind it
module _ (Takes : Type 0) (n : ℕ) (i i' o o' : Lane) where
  -- what the end that the step settled tells of them: a message is handed over only to a call that takes
  abbrev EndSettles : CallEnd → Type 0
  EndSettles (end.Sent number) = (message : List ℕ) × (i' ≡ i) × (o' ≡ with_accepted o n message)
  EndSettles (end.Took number verdict) = Takes × (number ≡ length i.takers) × (i' ≡ with_handed i n) × (o' ≡ o)
  EndSettles (end.Gave number) = (i' ≡ with_returned i number n) × (o' ≡ o)
  EndSettles ended = (i' ≡ i) × (o' ≡ o)

  -- what the turn behind it tells of them
  abbrev TurnSettles : {C : Type 0} → Turn C → Type 0
  TurnSettles (turn.Leaving k ended) = EndSettles ended
  TurnSettles t = (i' ≡ i) × (o' ≡ o)

  -- and it is still the caller's
  abbrev IsTurnBehind : {C : Type 0} → Turn C → Type 0
  IsTurnBehind t = TurnSettles t × (has_call t n ≡ true)

-- an end with which nothing is accepted, handed over or back
abbrev pub ChangesNothing : CallEnd → Type 0
ChangesNothing (end.Sent number) = ⊥
ChangesNothing (end.Took number verdict) = ⊥
ChangesNothing (end.Gave number) = ⊥
ChangesNothing ended = Unit {0}

still_settles : (n : ℕ) (ended : CallEnd) (i i' o o' : Lane) → ChangesNothing ended → i' ≡ i → o' ≡ o → EndSettles ⊥ n i i' o o' ended
still_settles n (end.Sent number) i i' o o' none incoming outgoing = absurd none
still_settles n (end.Took number verdict) i i' o o' none incoming outgoing = absurd none
still_settles n (end.Gave number) i i' o o' none incoming outgoing = absurd none
still_settles n ended i i' o o' none incoming outgoing = (incoming, outgoing)

-- the turn behind each step of a send, and of a call that has the receiver's turn
module _ {D : Type 0} (era : Era) (s : LaneState D) (n : ℕ) (i i' : Lane) (same : i' ≡ i) where
  send_moves : (c : Sending) (st : SendStage) → let l = (send_step era s n c st).state in IsTurnBehind ⊥ n i i' s.lane l.lane l.sender
  send_moves c stage.Turn = either_has (IsTurnBehind ⊥ n i i' s.lane s.lane) (is_live_in era c.follows) (turn.Taken n (record c { stage = stage.Era })) (turn.Leaving n (end.Dead era)) ((same, refl), eq-eqb n n refl) ((same, refl), eq-eqb n n refl)
  send_moves c stage.Era = let t : Turn Sending = turn.Taken n (record c { stage = stage.Look }) in let full : Turn Sending = turn.Leaving n (end.BookFull (length s.lane.accepted)) in let has = eq-eqb n n refl in
      either_has (IsTurnBehind ⊥ n i i' s.lane s.lane) (eqb (length s.lane.accepted) (s.lane.returned + s.lane.capacity)) (turn.Leaving n (end.NoBuffer (length s.lane.accepted) s.lane.returned)) (cond (eqb (length s.lane.accepted) s.lane.book) full t) ((same, refl), has)
      (either_has (IsTurnBehind ⊥ n i i' s.lane s.lane) (eqb (length s.lane.accepted) s.lane.book) full t ((same, refl), has) ((same, refl), has))
  send_moves c stage.Look = ((same, refl), eq-eqb n n refl)
  send_moves c stage.Buffer = ((same, refl), eq-eqb n n refl)
  send_moves c stage.Entry = ((c.message, same, refl), eq-eqb n n refl)

module _ {D : Type 0} (meaning : DeskMeaning D) (era : Era) (s : LaneState D) (n : ℕ) (r : Receiving) (o o' : Lane) (same : o' ≡ o) where
  take_moves : (st : TakeStage) → let l = (take_step meaning era s n r st).state in IsTurnBehind (Unit {0}) n s.lane l.lane o o' l.receiver
  take_moves take_stage.Turn = either_has (IsTurnBehind (Unit {0}) n s.lane s.lane o o') (is_live_in era r.follows) (turn.Taken n (record r { work = work.Take take_stage.Era })) (turn.Leaving n (end.Dead era)) ((refl, same), eq-eqb n n refl) ((refl, same), eq-eqb n n refl)
  take_moves take_stage.Era = either_has (IsTurnBehind (Unit {0}) n s.lane s.lane o o') (eqb (length s.lane.takers) (length s.lane.accepted)) (turn.Leaving n (end.Empty (length s.lane.accepted))) (turn.Taken n (record r { work = work.Take take_stage.Look }))
      ((refl, same), eq-eqb n n refl) ((refl, same), eq-eqb n n refl)
  take_moves take_stage.Look = ((refl, same), eq-eqb n n refl)
  take_moves take_stage.Buffer = either_has (λ (l : LaneState D). IsTurnBehind (Unit {0}) n s.lane l.lane o o' l.receiver) (is_live_in era r.follows) (after_handing meaning s n) (record s { receiver = turn.Leaving n (end.Dead era) })
      ((tt, refl, refl, same), eq-eqb n n refl) ((refl, same), eq-eqb n n refl)

  -- a desk hands nothing over, whatever it says
  abbrev DeskSettles : CallEnd → Type 0
  DeskSettles ended = EndSettles ⊥ n s.lane s.lane o o' ended

  desk_settles : (done : Endpoint → CallEnd) → ((endpoint : Endpoint) → DeskSettles (done endpoint)) → (said : Result Endpoint BindFault) → DeskSettles (desk_end done said)
  desk_settles done each (Ok endpoint) = each endpoint
  desk_settles done each (Err fault) = (refl, same)

  desk_moves : (desk : D) (ended : CallEnd) → DeskSettles ended → let l = (desk_step era s n r desk ended).state in IsTurnBehind ⊥ n s.lane l.lane o o' l.receiver
  desk_moves desk ended settles = either_has (λ (l : LaneState D). IsTurnBehind ⊥ n s.lane l.lane o o' l.receiver) (is_live_in era r.follows) (record s { receiver = turn.Leaving n ended; desk = desk }) (record s { receiver = turn.Leaving n (end.Dead era) })
      (settles, eq-eqb n n refl) ((refl, same), eq-eqb n n refl)

  give_moves : (number : ℕ) (st : GiveStage) → let l = (receive_step meaning era s n r (work.Give number st)).state in IsTurnBehind ⊥ n s.lane l.lane o o' l.receiver
  give_moves number give_stage.Turn = ((refl, same), eq-eqb n n refl)
  give_moves number give_stage.Entry = ((refl, same), eq-eqb n n refl)

  ask_moves : (asked : DeskAsk) → let l = (receive_step meaning era s n r (desk_work asked)).state in IsTurnBehind ⊥ n s.lane l.lane o o' l.receiver
  ask_moves (asks.Bind address) = let said = meaning.bind_answer s.desk address (length s.lane.takers) in
      desk_moves (meaning.bound s.desk address (length s.lane.takers)) (desk_end end.Bound said) (desk_settles end.Bound (λ endpoint. (refl, same)) said)
  ask_moves (asks.Unbind address) = let said = meaning.unbind_answer s.desk address in desk_moves (meaning.unbound s.desk address) (desk_end end.Unbound said) (desk_settles end.Unbound (λ endpoint. (refl, same)) said)

-- the lane to an end
abbrev lane_in : {D : Type 0} → LaneLink (RingState D) → End → Lane
lane_in m e = (lane_to m e).lane.lane

module _ {D : Type 0} (m m' : LaneLink (RingState D)) where
  both_left : (e : End) → lane_in m' e ≡ lane_in m e → lane_in m' (other e) ≡ lane_in m (other e) → LeavesLanes m m'
  both_left side.Host incoming outgoing = record { to_host = incoming; to_remote = outgoing }
  both_left side.Remote incoming outgoing = record { to_host = outgoing; to_remote = incoming }

  left_at : LeavesLanes m m' → (e : End) → lane_in m' e ≡ lane_in m e
  left_at left side.Host = left.to_host
  left_at left side.Remote = left.to_remote

  -- a buffer that an answer hands over is the next one of its lane, of this caller
  abbrev IsNextBuffer : CallerId → Answer → Type 0
  IsNextBuffer who (answer.Took held verdict) = (held.lane ≡ incoming_number who.end) × (held.caller ≡ who.number) × (held.message ≡ message_at (lane_in m who.end).accepted (length (lane_in m who.end).takers))
  IsNextBuffer who said = Unit {0}

  settles : (Takes : Type 0) (who : CallerId) (said : Answer) → (Takes → IsNextBuffer who said)
      → EndSettles Takes who.number (lane_in m who.end) (lane_in m' who.end) (lane_in m (other who.end)) (lane_in m' (other who.end)) (call_end said) → Settles who said m m'
  settles Takes who (answer.Sent number) next is = record { handed = tt; incoming = is.1; message = is.0; outgoing = is.2 }
  settles Takes who (answer.Took held verdict) next is = let own = next is.0 in record {
    handed = (record { lane = own.0; caller = own.1; message = own.2 ∙ ap (message_at (lane_in m who.end).accepted) (sym is.1) }, is.1);
    incoming = is.2;
    message = [];
    outgoing = is.3;
  }
  settles Takes who said next is = record { handed = tt; incoming = is.0; message = []; outgoing = is.1 }

  pub settles_still : (who : CallerId) (said : Answer) → ChangesNothing (call_end said) → LeavesLanes m m' → Settles who said m m'
  settles_still who said none left = settles ⊥ who said (λ never. absurd never) (still_settles who.number (call_end said) (lane_in m who.end) (lane_in m' who.end) (lane_in m (other who.end)) (lane_in m' (other who.end)) none (left_at left who.end) (left_at left (other who.end)))

  -- a first step settles no answer
  pub begun_lanes : (who : CallerId) (p : Phase) → IsUnsettled p → LeavesLanes m m' → StepsLanes who p m m'
  begun_lanes who (phase.LeavesSender said) unsettled left = absurd unsettled
  begun_lanes who (phase.LeavesReceiver said) unsettled left = absurd unsettled
  begun_lanes who p unsettled left = left

-- a step before the one that settles the answer, and one behind it
module _ {D : Type 0} (m m1 m2 : LaneLink (RingState D)) where
  pub leaves_then : LeavesLanes m m1 → LeavesLanes m1 m2 → LeavesLanes m m2
  leaves_then one two = record { to_host = two.to_host ∙ one.to_host; to_remote = two.to_remote ∙ one.to_remote }

  handed_from : (who : CallerId) (said : Answer) → lane_in m1 who.end ≡ lane_in m who.end → IsHandedIn who m1 said → IsHandedIn who m said
  handed_from who (answer.Took held verdict) same handed = let own = handed.0 in
      (record { lane = own.lane; caller = own.caller; message = own.message ∙ ap (λ (l : Lane). message_at l.accepted held.number) same }, handed.1 ∙ ap (λ (l : Lane). length l.takers) same)
  handed_from who said same handed = tt

  pub settles_from : (who : CallerId) (said : Answer) → LeavesLanes m m1 → Settles who said m1 m2 → Settles who said m m2
  settles_from who said left s = record {
    handed = handed_from who said (left_at m m1 left who.end) s.handed;
    incoming = s.incoming ∙ ap (incoming_by who.number said) (left_at m m1 left who.end);
    message = s.message;
    outgoing = s.outgoing ∙ ap (outgoing_by who.number s.message said) (left_at m m1 left (other who.end));
  }

  pub settles_then : (who : CallerId) (said : Answer) → Settles who said m m1 → LeavesLanes m1 m2 → Settles who said m m2
  settles_then who said s left = record { handed = s.handed; incoming = left_at m1 m2 left who.end ∙ s.incoming; message = s.message; outgoing = left_at m1 m2 left (other who.end) ∙ s.outgoing }

module _ {D : Type 0} (coded : Coded D) (meaning : DeskMeaning D) where
  abbrev Link : Type 0
  Link = LaneLink (RingState D)

  -- the first step takes a turn at most
  first_left : (lanes : Lanes (RingState D)) (n f : ℕ) (w : Wish) → let l = (first_step (ring_form meaning) lanes n f w).state in (l.outgoing.lane.lane ≡ lanes.outgoing.lane.lane) × (l.incoming.lane.lane ≡ lanes.incoming.lane.lane)
  first_left lanes n f (wish.Send message) = (refl, refl)
  first_left lanes n f wish.Take = (refl, refl)
  first_left lanes n f (wish.Give number) = (refl, refl)
  first_left lanes n f (wish.Bind address) = (refl, refl)
  first_left lanes n f (wish.Unbind address) = (refl, refl)

  pub first_lanes : (m : Link) (n f : ℕ) (w : Wish) → LeavesLanes m (after_deed meaning m (Steps n f (Some w)))
  first_lanes m n f w = by (end_of m.callers n)
    where
      by : (o : Option End) → LeavesLanes m (on_lanes m o (λ lanes. lanes_step (ring_form meaning) meaning m.era lanes n f (Some w))).state
      by None = record { to_host = refl; to_remote = refl }
      by (Some side.Host) = let left = first_left (lanes_of m side.Host) n f w in record { to_host = left.1; to_remote = left.0 }
      by (Some side.Remote) = let left = first_left (lanes_of m side.Remote) n f w in record { to_host = left.0; to_remote = left.1 }

  -- the lanes behind a later step of a caller of this end
  abbrev later : Link → ℕ → ℕ → Link
  later m n f = after_deed meaning m (Steps n f None)

  abbrev step_of : Link → End → ℕ → ℕ → Lanes (RingState D)
  step_of m e n f = (lanes_step (ring_form meaning) meaning m.era (lanes_by coded meaning m e) n f None).state

  stepped : (m : Link) (e : End) (n f : ℕ) → end_of m.callers n ≡ Some e → (lane_to (later m n f) (other e) ≡ (step_of m e n f).outgoing) × (lane_to (later m n f) e ≡ (step_of m e n f).incoming)
  stepped m side.Host n f user = let by : Option End → Link = λ o. (on_lanes m o (λ lanes. lanes_step (ring_form meaning) meaning m.era lanes n f None)).state in (ap (λ (o : Option End). (by o).to_remote) user, ap (λ (o : Option End). (by o).to_host) user)
  stepped m side.Remote n f user = let by : Option End → Link = λ o. (on_lanes m o (λ lanes. lanes_step (ring_form meaning) meaning m.era lanes n f None)).state in (ap (λ (o : Option End). (by o).to_host) user, ap (λ (o : Option End). (by o).to_remote) user)

  abbrev lane_after_send : Link → End → Turn Sending → LaneState D
  lane_after_send m e t = let s = (lane_to m (other e)).lane in (turn_step s (record s { sender = turn.Free }) (λ caller c. send_step m.era s caller c c.stage) t).state

  abbrev lane_after_work : Link → End → Turn Receiving → LaneState D
  lane_after_work m e t = let s = (lane_to m e).lane in (turn_step s (record s { receiver = turn.Free }) (λ caller r. receive_step meaning m.era s caller r r.work) t).state

  sent_to : (m : Link) (e : End) (n f : ℕ) (t : Turn Sending) → end_of m.callers n ≡ Some e → (lane_to m (other e)).lane.sender ≡ t → has_call t n ≡ true
      → ((lane_to (later m n f) (other e)).lane ≡ lane_after_send m e t) × (lane_in (later m n f) e ≡ lane_in m e)
  sent_to m e n f t user is has = let at = stepped m e n f user in let lanes = lanes_by coded meaning m e in
      let goes : step_of m e n f ≡ (send_later (ring_form meaning) m.era lanes).state = ap (λ (b : Bool). (cond b (send_later (ring_form meaning) m.era lanes) (receive_later (ring_form meaning) meaning m.era lanes)).state) (ap (λ (u : Turn Sending). has_call u n) is ∙ has) in
      (ap (λ (s : RingState D). s.lane) at.0 ∙ (ap (λ (l : Lanes (RingState D)). l.outgoing.lane) goes ∙ ap (lane_after_send m e) is), ap (λ (s : RingState D). s.lane.lane) at.1 ∙ ap (λ (l : Lanes (RingState D)). l.incoming.lane.lane) goes)

  received_to : (m : Link) (e : End) (n f : ℕ) (t : Turn Receiving) → end_of m.callers n ≡ Some e → (lane_to m e).lane.receiver ≡ t → has_call (lane_to m (other e)).lane.sender n ≡ false
      → ((lane_to (later m n f) e).lane ≡ lane_after_work m e t) × (lane_in (later m n f) (other e) ≡ lane_in m (other e))
  received_to m e n f t user is none = let at = stepped m e n f user in let lanes = lanes_by coded meaning m e in
      let goes : step_of m e n f ≡ (receive_later (ring_form meaning) meaning m.era lanes).state = ap (λ (b : Bool). (cond b (send_later (ring_form meaning) m.era lanes) (receive_later (ring_form meaning) meaning m.era lanes)).state) none in
      (ap (λ (s : RingState D). s.lane) at.1 ∙ (ap (λ (l : Lanes (RingState D)). l.incoming.lane) goes ∙ ap (lane_after_work m e) is), ap (λ (s : RingState D). s.lane.lane) at.0 ∙ ap (λ (l : Lanes (RingState D)). l.outgoing.lane.lane) goes)

  next_in : (tables : DeskTables) (m : Link) (e : End) → ((turns_in (placed_link coded tables m)).lanes e).next ≡ message_at (lane_in m e).accepted (length (lane_in m e).takers)
  next_in tables m side.Host = refl
  next_in tables m side.Remote = refl

  -- the turn that a call in a phase has in the state that the manager knows
  module _ (z : LinkSizes) (who : CallerId) (a : SeatState) (m : Link) (shows : ShowsCall coded who.number a m) where
    abbrev me : SeatState
    me = seat_of who.number a

    abbrev IsCall : Call → Type 0
    IsCall call = IsCallOf (placed_link coded a.0.sizes.desks m) 0 who.number call

    abbrev HasSend : Turn Sending → Type 0
    HasSend t = (end_of m.callers who.number ≡ Some who.end) × ((lane_to m (other who.end)).lane.sender ≡ t) × (has_call t who.number ≡ true)

    abbrev HasWork : Turn Receiving → Type 0
    HasWork t = (end_of m.callers who.number ≡ Some who.end) × ((lane_to m who.end).lane.receiver ≡ t) × (has_call t who.number ≡ true)

    -- by a call that is written for its caller
    called : (w : CallerId) (C : CallerId → Call) (slots : List (ℕ × Slot)) → w ≡ who → IsAt me (C w) slots → IsCall (C who)
    called w C slots same at = subst (λ (v : CallerId). IsCall (C v)) same (subst IsCall (call_of_at who.number a (C w) slots at) shows)

    sends_by : (t : Turn Sending) (x : SenderSide) (b : ℕ) → (holder t ≡ Some who.number → has_call t who.number ≡ true) → IsCall (Sends (other who.end) t x b) → HasSend t
    sends_by t x b has at = (at.0 ∙ ap Some (other_twice who.end), sender_in coded meaning a.0.sizes.desks m (other who.end) t at.1.0, has at.1.1)

    works_by : (t : Turn Receiving) (x : ReceiverSide) (b : ℕ) (message : List ℕ) → (holder t ≡ Some who.number → has_call t who.number ≡ true) → IsCall (Receives who.end t x b message) → HasWork t
    works_by t x b message has at = (at.0, receiver_in coded meaning a.0.sizes.desks m who.end t at.1.0, has at.1.1)

    abbrev sending : List ℕ → SendStage → Turn Sending
    sending message st = turn.Taken who.number (record { follows = who.follows; message = message; stage = st })

    abbrev working : Work → Turn Receiving
    working w = turn.Taken who.number (record { follows = who.follows; work = w })

    send_at : (c : SendCall) (st : SendStage) (slots : List (ℕ × Slot)) → c.who ≡ who → IsAt me (send_call c st) slots → HasSend (sending c.message.value st)
    send_at c st slots same at = let now : Sending = record { follows = who.follows; message = c.message.value; stage = st } in sends_by (sending c.message.value st) c.side.value c.buffer (taken_has who.number who.number now)
        (called c.who (λ w. Sends (other w.end) (turn.Taken w.number (record { follows = w.follows; message = c.message.value; stage = st })) c.side.value c.buffer) slots same at)

    work_at : (v : CallerId) (w : Work) (x : ReceiverSide) (b : ℕ) (message : List ℕ) (slots : List (ℕ × Slot)) → v ≡ who → IsAt me (receive_call v w x b message) slots → HasWork (working w)
    work_at v w x b message slots same at = let now : Receiving = record { follows = who.follows; work = w } in works_by (working w) x b message (taken_has who.number who.number now) (called v (λ u. receive_call u w x b message) slots same at)

    sends_in : (st : SendStage) (c : SendCall) (message : List ℕ) → IsInPhase z who (phase.Sends st c message) me → HasSend (sending c.message.value st)
    sends_in stage.Turn c message at = send_at c stage.Turn _ at.1 at.0.0
    sends_in stage.Era c message at = send_at c stage.Era _ at.1 at.0.0
    sends_in stage.Look c message at = send_at c stage.Look _ at.1 at.0.0
    sends_in stage.Buffer c message at = send_at c stage.Buffer _ at.1 at.0.1.0
    sends_in stage.Entry c message at = send_at c stage.Entry _ at.1 at.0.0

    takes_in : (st : TakeStage) (c : TakeCall) (b : ℕ) → IsInPhase z who (phase.Takes st c b) me → HasWork (working (work.Take st))
    takes_in take_stage.Turn c b at = work_at c.who (work.Take take_stage.Turn) _ _ _ _ at.1 at.0.at
    takes_in take_stage.Era c b at = work_at c.who (work.Take take_stage.Era) _ _ _ _ at.1 at.0.at
    takes_in take_stage.Look c b at = work_at c.who (work.Take take_stage.Look) _ _ _ _ at.1 at.0.at
    takes_in take_stage.Buffer c b at = work_at c.who (work.Take take_stage.Buffer) _ _ _ _ at.1 at.0.1.at

    gives_in : (st : GiveStage) (held : HeldBuffer) (returned : ℕ) → IsInPhase z who (phase.Gives st held returned) me → HasWork (working (work.Give held.number st))
    gives_in give_stage.Turn held returned at = work_at who (work.Give held.number give_stage.Turn) _ _ _ _ refl at.0.3
    gives_in give_stage.Entry held returned at = work_at who (work.Give held.number give_stage.Entry) _ _ _ _ refl at.0.at

    asks_in : (asked : DeskAsk) → IsInPhase z who (phase.Asks asked) me → HasWork (working (desk_work asked))
    asks_in asked at = work_at who (desk_work asked) _ _ _ _ refl at.3

    sender_leaves : (said : Answer) → (at : IsInPhase z who (phase.LeavesSender said) me) → HasSend (turn.Leaving at.0 (call_end said))
    sender_leaves said at = sends_by (turn.Leaving at.0 (call_end said)) at.1 at.2 (leaving_has Sending at.0 who.number (call_end said)) (called who (λ w. Sends (other who.end) (turn.Leaving at.0 (call_end said)) at.1 at.2) _ refl at.3)

    receiver_leaves : (said : Answer) → (at : IsInPhase z who (phase.LeavesReceiver said) me) → HasWork (turn.Leaving at.0 (call_end said))
    receiver_leaves said at = works_by (turn.Leaving at.0 (call_end said)) at.1 at.2 at.3 (leaving_has Receiving at.0 who.number (call_end said)) (called who (λ w. Receives who.end (turn.Leaving at.0 (call_end said)) at.1 at.2 at.3) _ refl at.4)

    -- the buffer that a take hands over has the next message
    hands_next : (c : TakeCall) (buffer : ℕ) (said : Answer) → c.who ≡ who → HandsBufferOf z c buffer (phase.LeavesReceiver said) me → IsNextBuffer m m who said
    hands_next c buffer (answer.Took held verdict) same told = let out = told.out in let w = work.Take take_stage.Buffer in (
      told.lane ∙ (number_same c.who.end ∙ ap (λ (v : CallerId). incoming_number v.end) same),
      told.caller ∙ ap (λ (v : CallerId). v.number) same,
      ((called c.who (λ v. receive_call v w out.side buffer held.message) _ same out.at).1.3 refl).1 ∙ next_in a.0.sizes.desks m who.end,
    )
    hands_next c buffer said same told = tt

  -- a later step of a call
  module _ (z : LinkSizes) (who : CallerId) (a b : SeatState) (m : Link) (alone : StepsAlone coded meaning who.number (Steps who.number 0 None) a b) (knows : KnowsState coded a.0 m) where
    abbrev after : Link
    after = later m who.number 0

    abbrev IsBehind : {C : Type 0} → Type 0 → Turn C → Type 0
    IsBehind Takes t = IsTurnBehind Takes who.number (lane_in m who.end) (lane_in after who.end) (lane_in m (other who.end)) (lane_in after (other who.end)) t

    before : ShowsCall coded who.number a m
    before = (alone.calls m knows).0

    behind : ShowsCall coded who.number b after
    behind = (alone.calls m knows).1

    both_still : (lane_in after who.end ≡ lane_in m who.end) × (lane_in after (other who.end) ≡ lane_in m (other who.end)) → LeavesLanes m after
    both_still same = both_left m after who.end same.0 same.1

    -- by the turn behind it, which the phase behind it tells
    sender_behind : (p : Phase) → IsInPhase z who p (seat_of who.number b) → side_of who.end p ≡ sender_slot (other who.end) → IsBehind ⊥ (lane_to after (other who.end)).lane.sender → StepsLanes who p m after
    sender_behind (phase.Asked asked) at side is = absurd (false-true (sym (no_send_in coded meaning b.0.sizes.desks after (other who.end) who.number (rests_in coded meaning who.number who.end b after at.0 behind).1) ∙ is.1))
    sender_behind (phase.Sends st c message) at side is = both_still (subst (λ (t : Turn Sending). IsBehind ⊥ t) (sends_in z who b after behind st c message at).1 is).0
    sender_behind (phase.LeavesSender said) at side is = settles m after ⊥ who said (λ never. absurd never) (subst (λ (t : Turn Sending). IsBehind ⊥ t) (sender_leaves z who b after behind said at).1 is).0
    sender_behind phase.Ended at side is = absurd at
    sender_behind p at side is = absurd (sides_apart who.end side)

    receiver_behind : (Takes : Type 0) (p : Phase) → ((said : Answer) → p ≡ phase.LeavesReceiver said → Takes → IsNextBuffer m m who said) → IsInPhase z who p (seat_of who.number b) → side_of who.end p ≡ receiver_slot who.end
        → IsBehind Takes (lane_to after who.end).lane.receiver → StepsLanes who p m after
    receiver_behind Takes (phase.Asked asked) next at side is = absurd (false-true (sym (no_receive_in coded meaning b.0.sizes.desks after who.end who.number (rests_in coded meaning who.number who.end b after at.0 behind).2) ∙ is.1))
    receiver_behind Takes (phase.Takes st c buffer) next at side is = both_still (subst (λ (t : Turn Receiving). IsBehind Takes t) (takes_in z who b after behind st c buffer at).1 is).0
    receiver_behind Takes (phase.Gives st held returned) next at side is = both_still (subst (λ (t : Turn Receiving). IsBehind Takes t) (gives_in z who b after behind st held returned at).1 is).0
    receiver_behind Takes (phase.Asks asked) next at side is = both_still (subst (λ (t : Turn Receiving). IsBehind Takes t) (asks_in z who b after behind asked at).1 is).0
    receiver_behind Takes (phase.LeavesReceiver said) next at side is = settles m after Takes who said (next said refl) (subst (λ (t : Turn Receiving). IsBehind Takes t) (receiver_leaves z who b after behind said at).1 is).0
    receiver_behind Takes phase.Ended next at side is = absurd at
    receiver_behind Takes p next at side is = absurd (sides_apart who.end (sym side))

    -- by the phase before it
    pub send_lanes : (st : SendStage) (c : SendCall) (message : List ℕ) (said : Progress) (p : Phase) → IsInPhase z who (phase.Sends st c message) (seat_of who.number a) → IsNext who.end (phase.Sends st c message) said p → StandsAt z who said p (seat_of who.number b)
        → StepsLanes who p m after
    send_lanes st c message (progress.At number) p at next stands =
        let has = sends_in z who a m before st c message at in let t = sending z who a m before c.message.value st in let to = sent_to m who.end who.number 0 t has.0 has.1 has.2 in let s = (lane_to m (other who.end)).lane in
        sender_behind p stands next.1 (subst (λ (l : LaneState D). IsTurnBehind ⊥ who.number (lane_in m who.end) (lane_in after who.end) s.lane l.lane l.sender) (sym to.0)
        (send_moves m.era s who.number (lane_in m who.end) (lane_in after who.end) to.1 (record { follows = who.follows; message = c.message.value; stage = st }) st))
    send_lanes st c message (progress.Done said) p at next stands = absurd next.1

    -- where a call has the receiver's turn for some work
    work_lanes : (Takes : Type 0) (w : Work) (p : Phase) → ((said : Answer) → p ≡ phase.LeavesReceiver said → Takes → IsNextBuffer m m who said) → HasWork z who a m before (working z who a m before w) → IsInPhase z who p (seat_of who.number b) → side_of who.end p ≡ receiver_slot who.end
        → ((o' : Lane) → o' ≡ lane_in m (other who.end) → let l = (receive_step meaning m.era (lane_to m who.end).lane who.number (record { follows = who.follows; work = w }) w).state in IsTurnBehind Takes who.number (lane_in m who.end) l.lane (lane_in m (other who.end)) o' l.receiver) → StepsLanes who p m after
    work_lanes Takes w p next has at side moves =
        let t = working z who a m before w in let none = no_sender coded meaning a.0.sizes.desks m who.end who.number t (alone.sound m knows) has.1 has.2 in let to = received_to m who.end who.number 0 t has.0 has.1 none in
        receiver_behind Takes p next at side (subst (λ (l : LaneState D). IsTurnBehind Takes who.number (lane_in m who.end) l.lane (lane_in m (other who.end)) (lane_in after (other who.end)) l.receiver) (sym to.0) (moves (lane_in after (other who.end)) to.1))

    pub take_lanes : (st : TakeStage) (c : TakeCall) (buffer : ℕ) (said : Progress) (p : Phase) → HandsBufferOf z c buffer p (seat_of who.number a) → IsInPhase z who (phase.Takes st c buffer) (seat_of who.number a) → IsNext who.end (phase.Takes st c buffer) said p
        → StandsAt z who said p (seat_of who.number b) → StepsLanes who p m after
    take_lanes st c buffer (progress.At number) p told at next stands = work_lanes (Unit {0}) (work.Take st) p
        (λ said is takes. hands_next z who a m before c buffer said at.1 (subst (λ (x : Phase). HandsBufferOf z c buffer x (seat_of who.number a)) is told)) (takes_in z who a m before st c buffer at) stands next.1
        (λ o' same. take_moves meaning m.era (lane_to m who.end).lane who.number (record { follows = who.follows; work = work.Take st }) (lane_in m (other who.end)) o' same st)
    take_lanes st c buffer (progress.Done said) p told at next stands = absurd next.1

    pub give_lanes : (st : GiveStage) (held : HeldBuffer) (returned : ℕ) (said : Progress) (p : Phase) → IsInPhase z who (phase.Gives st held returned) (seat_of who.number a) → IsNext who.end (phase.Gives st held returned) said p → StandsAt z who said p (seat_of who.number b)
        → StepsLanes who p m after
    give_lanes st held returned (progress.At number) p at next stands = work_lanes ⊥ (work.Give held.number st) p (λ said is never. absurd never) (gives_in z who a m before st held returned at) stands next.1
        (λ o' same. give_moves meaning m.era (lane_to m who.end).lane who.number (record { follows = who.follows; work = work.Give held.number st }) (lane_in m (other who.end)) o' same held.number st)
    give_lanes st held returned (progress.Done said) p at next stands = absurd next.1

    pub desk_lanes : (asked : DeskAsk) (said : Progress) (p : Phase) → IsInPhase z who (phase.Asks asked) (seat_of who.number a) → IsNext who.end (phase.Asks asked) said p → StandsAt z who said p (seat_of who.number b) → StepsLanes who p m after
    desk_lanes asked (progress.At number) p at next stands = work_lanes ⊥ (desk_work asked) p (λ said is never. absurd never) (asks_in z who a m before asked at) stands next.1
        (λ o' same. ask_moves meaning m.era (lane_to m who.end).lane who.number (record { follows = who.follows; work = desk_work asked }) (lane_in m (other who.end)) o' same asked)
    desk_lanes asked (progress.Done said) p at next stands = absurd next.1

    -- the leave
    pub sender_left : (said : Answer) → IsInPhase z who (phase.LeavesSender said) (seat_of who.number a) → LeavesLanes m after
    sender_left said at = let has = sender_leaves z who a m before said at in let to = sent_to m who.end who.number 0 (turn.Leaving at.0 (call_end said)) has.0 has.1 has.2 in
        both_left m after who.end to.1 (ap (λ (l : LaneState D). l.lane) to.0)

    pub receiver_left : (said : Answer) → IsInPhase z who (phase.LeavesReceiver said) (seat_of who.number a) → LeavesLanes m after
    receiver_left said at = let has = receiver_leaves z who a m before said at in let t : Turn Receiving = turn.Leaving at.0 (call_end said) in
        let to = received_to m who.end who.number 0 t has.0 has.1 (no_sender coded meaning a.0.sizes.desks m who.end who.number t (alone.sound m knows) has.1 has.2) in both_left m after who.end (ap (λ (l : LaneState D). l.lane) to.0) to.1
