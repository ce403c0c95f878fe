-- What a step of a call says, by the state of the ring form that its manager knows.
use Rattle.std.proofs.Common.{◌≡◌, ◌≢◌, ◌+◌, ℕ, Bool, true, false, cond, eq-eqb, List, [], refl, sym, ap, ◌∙◌, subst, arith}
use Rattle.std.specs.Prelude.{Option, Some, None, slice_index}
use base.Stored.{Coded}
use Rattle.rp_base.specs.declared.kinds.End.{End}
use Rattle.rp_base.specs.declared.kinds.End.TheVariants as side
use Rattle.rp_base.specs.declared.kinds.Era.{Era}
use Rattle.lane_model.specs.declared.calls.Answer.{Answer}
use Rattle.lane_model.specs.declared.calls.Ask.{Ask}
use Rattle.lane_model.specs.declared.calls.Ask.TheVariants as ask
use Rattle.lane_model.specs.declared.calls.CallEnd.{CallEnd}
use Rattle.lane_model.specs.declared.calls.CallEnd.TheVariants as end
use Rattle.lane_model.specs.declared.calls.Outcome.{Outcome}
use Rattle.lane_model.specs.declared.calls.Outcome.TheVariants as outcome
use Rattle.lane_model.specs.declared.calls.Progress.{Progress}
use Rattle.lane_model.specs.declared.calls.Progress.TheVariants as progress
use Rattle.lane_model.specs.declared.calls.Wish.{Wish}
use Rattle.lane_model.specs.declared.calls.Wish.TheVariants as wish
use Rattle.lane_model.specs.declared.lane_links.LaneLink.{LaneLink}
use Rattle.lane_model.specs.declared.stages.GiveStage.{GiveStage}
use Rattle.lane_model.specs.declared.stages.GiveStage.TheVariants as give_stage
use Rattle.lane_model.specs.declared.stages.Receiving.{Receiving}
use Rattle.lane_model.specs.declared.stages.SendStage.{SendStage}
use Rattle.lane_model.specs.declared.stages.SendStage.TheVariants as stage
use Rattle.lane_model.specs.declared.stages.Sending.{Sending}
use Rattle.lane_model.specs.declared.stages.TakeStage.{TakeStage}
use Rattle.lane_model.specs.declared.stages.TakeStage.TheVariants as take_stage
use Rattle.lane_model.specs.declared.stages.Turn.{Turn}
use Rattle.lane_model.specs.declared.stages.Turn.TheVariants as turn
use Rattle.lane_model.specs.declared.states.LaneState.{LaneState}
use Rattle.lane_model.specs.Answers.{busy_answer, wish_of}
use Rattle.lane_model.specs.Desks.{DeskMeaning}
use Rattle.lane_model.specs.Lanes.{has_call, holder, taken_by, turn_step}
use Rattle.lane_model.specs.Links.{Lanes, begun_outcome, end_of, form_step, lanes_step, on_lanes, receive_later, send_later}
use Rattle.lane_model.specs.Receives.{receive_step}
use Rattle.lane_model.specs.Sends.{send_step}
use Rattle.ring_core.specs.declared.states.RingState.{RingState}
use Rattle.ring_core.specs.RingSteps.{ring_form}
use Rattle.link_words.specs.declared.codes.DeskTables.{DeskTables}
use lib.ListN.{get_elem?}
use Rattle.link_words.specs.declared.rule.Call.{Call}
use Rattle.link_words.specs.declared.rule.Call.TheVariants.{Receives, Rests, Sends}
use Rattle.link_words.specs.declared.rule.LinkSizes.{LinkSizes}
use Rattle.link_words.specs.declared.rule.Pass.{Pass}
use Rattle.link_words.specs.declared.rule.ReceiverSide.{ReceiverSide}
use Rattle.link_words.specs.declared.rule.SenderSide.{SenderSide}
use Rattle.link_words.specs.declared.rule.Slot.{Slot}
use Rattle.link_words.specs.Calls.{SeatState, call_at}
use Rattle.link_words.specs.Deeds.{IsSoundState, Steps, after_deed}
use Rattle.link_words.specs.Passes.{place_of_number}
use Rattle.link_words.specs.Layouts.{layout, place_in}
use Rattle.link_words.specs.PlacedDesks.{PlacedDesk, placed_meaning}
use Rattle.link_words.specs.PlacedLinks.{KnowsState, placed_link}
use Rattle.link_words.specs.Rule.{IsCallOf}
use Rattle.link_words.specs.Steps.{Begins, HasWord, first_work, turn_word_for}
use Rattle.link_words.specs.Turns.{turns_in}
use Rattle.link_words.specs.Words.{lane_to, other, receiver_word, sender_word, words_of}
use Rattle.split_ring.specs.declared.binds.DeskAsk.TheVariants as asks
use Rattle.split_ring.specs.declared.callers.CallerId.{CallerId}
use Rattle.split_ring.specs.CallPhases.{Phase}
use Rattle.split_ring.specs.CallPhases as phase
use Rattle.split_ring.specs.Calls.{IsInPhase, call_end}
use Rattle.split_ring.specs.Focus.{ShowsCall, seat_of}
use Rattle.split_ring.specs.Phases.{IsEndOf, IsNext, give_steps, holder_for, outcome_said, send_steps, steps_in, take_steps}
use Rattle.split_ring.specs.Seats.{IsAt, pass_in}
use Rattle.split_ring.specs.Turns.{HasBegun}
use Rattle.split_ring.proofs.Focusing.{call_there, false-true, known_is, only_there}
use Rattle.split_ring.proofs.ManagerSteps.{found_turn, held_by, turn_there}
use Rattle.split_ring.proofs.StateSteps.{found_sender, sender_there}

pub other_twice : (e : End) → other (other e) ≡ e
other_twice side.Host = refl
other_twice side.Remote = refl

abbrev number_or : Option ℕ → ℕ
number_or None = 0
number_or (Some n) = n

pub taken_has : {C : Type 0} (k n : ℕ) (c : C) → holder (turn.Taken k c) ≡ Some n → has_call (turn.Taken k c) n ≡ true
taken_has k n c is = eq-eqb k n (ap number_or is)

pub leaving_has : (C : Type 0) (k n : ℕ) (ended : CallEnd) → holder {C = C} (turn.Leaving k ended) ≡ Some n → has_call {C = C} (turn.Leaving k ended) n ≡ true
leaving_has C k n ended is = eq-eqb k n (ap number_or is)

-- a turn that became a call's was free, where the call's caller had none before
was_free : {C : Type 0} (now : Turn C) (n : ℕ) (c d : C) → taken_by now n d ≡ turn.Taken n c → has_call now n ≡ false → holder now ≡ None
was_free turn.Free n c d is none = refl
was_free {C} (turn.Taken k x) n c d is none = absurd (false-true (sym none ∙ (ap (λ (t : Turn C). has_call t n) is ∙ eq-eqb n n refl)))
was_free {C} (turn.Leaving k x) n c d is none = absurd (false-true (sym none ∙ (ap (λ (t : Turn C). has_call t n) is ∙ eq-eqb n n refl)))
was_free {C} turn.Manager n c d is none = absurd (false-true (sym none ∙ (ap (λ (t : Turn C). has_call t n) is ∙ eq-eqb n n refl)))

-- the call of a pass of a seat
pub call_of_at : (n : ℕ) (a : SeatState) (call : Call) (slots : List (ℕ × Slot)) → IsAt (seat_of n a) call slots → call_at (place_of_number n a.0.passes) a.0.passes ≡ call
call_of_at n a call slots at = let k = place_of_number n a.0.passes in
    call_there k a.0.passes (pass_in (seat_of n a)) (only_there k a.0.passes 0 (pass_in (seat_of n a)) (ap (λ (ps : List Pass). get_elem? ps 0) at.one)).1 ∙ at.in_call

-- what a later step says, by its phase: the number of the step, or the end that was settled
said_at : (e : End) (p : Phase) (said : Progress) (p' : Phase) → IsNext e p said p' → ((s : Answer) → IsEndOf p s → ⊥) → outcome_said said ≡ outcome.At (steps_in p + 1)
said_at e p (progress.At number) p' next none = ap outcome.At next.0
said_at e p (progress.Done s) p' next none = absurd (none s next.1)

-- a call goes on whose end is not settled
pub send_on : (s : SendStage) → (send_steps s ≢ 0) × ((said : Answer) → ⊥ → ⊥)
send_on stage.Turn = (λ is. absurd (omega (arith, is)), λ said none. none)
send_on stage.Era = (λ is. absurd (omega (arith, is)), λ said none. none)
send_on stage.Look = (λ is. absurd (omega (arith, is)), λ said none. none)
send_on stage.Buffer = (λ is. absurd (omega (arith, is)), λ said none. none)
send_on stage.Entry = (λ is. absurd (omega (arith, is)), λ said none. none)

pub take_on : (s : TakeStage) → (take_steps s ≢ 0) × ((said : Answer) → ⊥ → ⊥)
take_on take_stage.Turn = (λ is. absurd (omega (arith, is)), λ said none. none)
take_on take_stage.Era = (λ is. absurd (omega (arith, is)), λ said none. none)
take_on take_stage.Look = (λ is. absurd (omega (arith, is)), λ said none. none)
take_on take_stage.Buffer = (λ is. absurd (omega (arith, is)), λ said none. none)

pub give_on : (s : GiveStage) → (give_steps s ≢ 0) × ((said : Answer) → ⊥ → ⊥)
give_on give_stage.Turn = (λ is. absurd (omega (arith, is)), λ said none. none)
give_on give_stage.Entry = (λ is. absurd (omega (arith, is)), λ said none. none)

pub desk_on : (n : ℕ) → n ≡ 1 → (n ≢ 0) × ((said : Answer) → ⊥ → ⊥)
desk_on n one = (λ is. absurd (omega (arith, is, one)), λ said none. none)

busy_end : (h : ℕ) (asked : Ask) → call_end (busy_answer h (Some asked)) ≡ end.Busy h
busy_end h (ask.Send message) = refl
busy_end h ask.Take = refl
busy_end h (ask.Give held) = refl
busy_end h (ask.Bind address) = refl
busy_end h (ask.Unbind address) = refl

module _ {D : Type 0} (coded : Coded D) (meaning : DeskMeaning D) where
  abbrev Link : Type 0
  Link = LaneLink (RingState D)

  abbrev pub lanes_by : Link → End → Lanes (RingState D)
  lanes_by m e = record { outgoing = lane_to m (other e); incoming = lane_to m e }

  sent_said : (era : Era) (s r : RingState D) (n f : ℕ) (t : Turn Sending) (k : Outcome) → s.lane.sender ≡ t → has_call t n ≡ true → ((state : LaneState D) → (turn_step state (record state { sender = turn.Free }) (λ caller c. send_step era state caller c c.stage) t).outcome ≡ k)
      → (lanes_step (ring_form meaning) meaning era (record { outgoing = s; incoming = r }) n f None).outcome ≡ k
  sent_said era s r n f t k is has goes = let lanes : Lanes (RingState D) = record { outgoing = s; incoming = r } in
      ap (λ (b : Bool). (cond b (send_later (ring_form meaning) era lanes) (receive_later (ring_form meaning) meaning era lanes)).outcome) (ap (λ (u : Turn Sending). has_call u n) is ∙ has)
      ∙ (ap (λ (u : Turn Sending). (turn_step s.lane (record s.lane { sender = turn.Free }) (λ caller c. send_step era s.lane caller c c.stage) u).outcome) is ∙ goes s.lane)

  received_said : (era : Era) (s r : RingState D) (n f : ℕ) (t : Turn Receiving) (k : Outcome) → has_call s.lane.sender n ≡ false → r.lane.receiver ≡ t
      → ((state : LaneState D) → (turn_step state (record state { receiver = turn.Free }) (λ caller c. receive_step meaning era state caller c c.work) t).outcome ≡ k)
      → (lanes_step (ring_form meaning) meaning era (record { outgoing = s; incoming = r }) n f None).outcome ≡ k
  received_said era s r n f t k none is goes = let lanes : Lanes (RingState D) = record { outgoing = s; incoming = r } in
      ap (λ (b : Bool). (cond b (send_later (ring_form meaning) era lanes) (receive_later (ring_form meaning) meaning era lanes)).outcome) none
      ∙ (ap (λ (u : Turn Receiving). (turn_step r.lane (record r.lane { receiver = turn.Free }) (λ caller c. receive_step meaning era r.lane caller c c.work) u).outcome) is ∙ goes r.lane)

  -- a step of a caller of this end
  by_end : (m : Link) (e : End) (n f : ℕ) (w : Option Wish) → end_of m.callers n ≡ Some e → (form_step (ring_form meaning) meaning m n f w).outcome ≡ (lanes_step (ring_form meaning) meaning m.era (lanes_by m e) n f w).outcome
  by_end m side.Host n f w user = ap (λ (o : Option End). (on_lanes m o (λ lanes. lanes_step (ring_form meaning) meaning m.era lanes n f w)).outcome) user
  by_end m side.Remote n f w user = ap (λ (o : Option End). (on_lanes m o (λ lanes. lanes_step (ring_form meaning) meaning m.era lanes n f w)).outcome) user

  pub sender_in : (tables : DeskTables) (m : Link) (e : End) (t : Turn Sending) → ((turns_in (placed_link coded tables m)).lanes e).sender ≡ t → (lane_to m e).lane.sender ≡ t
  sender_in tables m side.Host t is = is
  sender_in tables m side.Remote t is = is

  pub receiver_in : (tables : DeskTables) (m : Link) (e : End) (t : Turn Receiving) → ((turns_in (placed_link coded tables m)).lanes e).receiver ≡ t → (lane_to m e).lane.receiver ≡ t
  receiver_in tables m side.Host t is = is
  receiver_in tables m side.Remote t is = is

  -- who has a receiver's turn has no sender's
  pub no_sender : (tables : DeskTables) (m : Link) (e : End) (n : ℕ) (t : Turn Receiving) → IsSoundState (placed_meaning coded tables meaning) (placed_link coded tables m) → (lane_to m e).lane.receiver ≡ t → has_call t n ≡ true → has_call (lane_to m (other e)).lane.sender n ≡ false
  no_sender tables m side.Host n t sound is has = by (has_call m.to_remote.lane.sender n) refl
    where
      by : (b : Bool) → has_call m.to_remote.lane.sender n ≡ b → has_call m.to_remote.lane.sender n ≡ false
      by false sends = sends
      by true sends = absurd (false-true (sym (sound.sound.hosts n sends) ∙ (ap (λ (u : Turn Receiving). has_call u n) is ∙ has)))
  no_sender tables m side.Remote n t sound is has = by (has_call m.to_host.lane.sender n) refl
    where
      by : (b : Bool) → has_call m.to_host.lane.sender n ≡ b → has_call m.to_host.lane.sender n ≡ false
      by false sends = sends
      by true sends = absurd (false-true (sym (sound.sound.remotes n sends) ∙ (ap (λ (u : Turn Receiving). has_call u n) is ∙ has)))

  -- a later step of a send, and of a call that has the receiver's turn, by its turn
  send_outcome : (tables : DeskTables) (m : Link) (e : End) (n f : ℕ) (t : Turn Sending) (x : SenderSide) (b : ℕ) (k : Outcome) → IsCallOf (placed_link coded tables m) 0 n (Sends (other e) t x b) → (holder t ≡ Some n → has_call t n ≡ true)
      → ((state : LaneState D) → (turn_step state (record state { sender = turn.Free }) (λ caller c. send_step m.era state caller c c.stage) t).outcome ≡ k) → (form_step (ring_form meaning) meaning m n f None).outcome ≡ k
  send_outcome tables m e n f t x b k at has goes =
      by_end m e n f None (at.0 ∙ ap Some (other_twice e)) ∙ sent_said m.era (lane_to m (other e)) (lane_to m e) n f t k (sender_in tables m (other e) t at.1.0) (has at.1.1) goes

  receive_outcome : (tables : DeskTables) (m : Link) (e : End) (n f : ℕ) (t : Turn Receiving) (x : ReceiverSide) (b : ℕ) (message : List ℕ) (k : Outcome) → IsSoundState (placed_meaning coded tables meaning) (placed_link coded tables m)
      → IsCallOf (placed_link coded tables m) 0 n (Receives e t x b message) → (holder t ≡ Some n → has_call t n ≡ true)
      → ((state : LaneState D) → (turn_step state (record state { receiver = turn.Free }) (λ caller c. receive_step meaning m.era state caller c c.work) t).outcome ≡ k) → (form_step (ring_form meaning) meaning m n f None).outcome ≡ k
  receive_outcome tables m e n f t x b message k sound at has goes = let is = receiver_in tables m e t at.1.0 in
      by_end m e n f None at.0 ∙ received_said m.era (lane_to m (other e)) (lane_to m e) n f t k (no_sender tables m e n t sound is (has at.1.1)) is goes

  module _ (n f : ℕ) (a : SeatState) (m : Link) (shows : ShowsCall coded n a m) (sound : IsSoundState (placed_meaning coded a.0.sizes.desks meaning) (placed_link coded a.0.sizes.desks m)) where
    shown : (call : Call) (slots : List (ℕ × Slot)) → IsAt (seat_of n a) call slots → IsCallOf (placed_link coded a.0.sizes.desks m) 0 n call
    shown call slots at = subst (IsCallOf (placed_link coded a.0.sizes.desks m) 0 n) (call_of_at n a call slots at) shows

    sends_on : (e : End) (k : ℕ) (c : Sending) (x : SenderSide) (b : ℕ) (slots : List (ℕ × Slot)) (said : Outcome) → IsAt (seat_of n a) (Sends (other e) (turn.Taken k c) x b) slots
        → ((state : LaneState D) → (send_step m.era state k c c.stage).outcome ≡ said) → (form_step (ring_form meaning) meaning m n f None).outcome ≡ said
    sends_on e k c x b slots said at goes = send_outcome a.0.sizes.desks m e n f (turn.Taken k c) x b said (shown _ slots at) (taken_has k n c) goes

    receives_on : (e : End) (k : ℕ) (c : Receiving) (x : ReceiverSide) (b : ℕ) (message : List ℕ) (slots : List (ℕ × Slot)) (said : Outcome) → IsAt (seat_of n a) (Receives e (turn.Taken k c) x b message) slots
        → ((state : LaneState D) → (receive_step meaning m.era state k c c.work).outcome ≡ said) → (form_step (ring_form meaning) meaning m n f None).outcome ≡ said
    receives_on e k c x b message slots said at goes = receive_outcome a.0.sizes.desks m e n f (turn.Taken k c) x b message said sound (shown _ slots at) (taken_has k n c) goes

    -- a later step of a call, by its phase
    later_is : (z : LinkSizes) (who : CallerId) (p : Phase) (said : Progress) (p' : Phase) → IsInPhase z who p (seat_of n a) → IsNext who.end p said p' → steps_in p ≢ 0 → (form_step (ring_form meaning) meaning m n f None).outcome ≡ outcome.At (steps_in p + 1)
    later_is z who (phase.Asked asked) said p' at next on = absurd (on refl)
    later_is z who (phase.Sends stage.Turn c message) said p' at next on = sends_on c.who.end _ _ _ _ _ (outcome.At 2) at.0.0 (λ state. refl)
    later_is z who (phase.Sends stage.Era c message) said p' at next on = sends_on c.who.end _ _ _ _ _ (outcome.At 3) at.0.0 (λ state. refl)
    later_is z who (phase.Sends stage.Look c message) said p' at next on = sends_on c.who.end _ _ _ _ _ (outcome.At 4) at.0.0 (λ state. refl)
    later_is z who (phase.Sends stage.Buffer c message) said p' at next on = sends_on c.who.end _ _ _ _ _ (outcome.At 5) at.0.1.0 (λ state. refl)
    later_is z who (phase.Sends stage.Entry c message) said p' at next on = sends_on c.who.end _ _ _ _ _ (outcome.At 6) at.0.0 (λ state. refl)
    later_is z who (phase.Takes take_stage.Turn c buffer) said p' at next on = receives_on c.who.end _ _ _ _ _ _ (outcome.At 2) at.0.at (λ state. refl)
    later_is z who (phase.Takes take_stage.Era c buffer) said p' at next on = receives_on c.who.end _ _ _ _ _ _ (outcome.At 3) at.0.at (λ state. refl)
    later_is z who (phase.Takes take_stage.Look c buffer) said p' at next on = receives_on c.who.end _ _ _ _ _ _ (outcome.At 4) at.0.at (λ state. refl)
    later_is z who (phase.Takes take_stage.Buffer c buffer) said p' at next on = receives_on c.who.end _ _ _ _ _ _ (outcome.At 5) at.0.1.at (λ state. refl)
    later_is z who (phase.Gives give_stage.Turn held returned) said p' at next on = receives_on who.end _ _ _ _ _ _ (outcome.At 2) at.0.3 (λ state. refl)
    later_is z who (phase.Gives give_stage.Entry held returned) said p' at next on = receives_on who.end _ _ _ _ _ _ (outcome.At 3) at.0.at (λ state. refl)
    later_is z who (phase.Asks (asks.Bind address)) said p' at next on = receives_on who.end _ _ _ _ _ _ (outcome.At 2) at.3 (λ state. refl)
    later_is z who (phase.Asks (asks.Unbind address)) said p' at next on = receives_on who.end _ _ _ _ _ _ (outcome.At 2) at.3 (λ state. refl)
    later_is z who (phase.LeavesSender answer) said p' at next on = absurd (on refl)
    later_is z who (phase.LeavesReceiver answer) said p' at next on = absurd (on refl)
    later_is z who phase.Ended said p' at next on = absurd at

    pub later_said : (z : LinkSizes) (who : CallerId) (p : Phase) (said : Progress) (p' : Phase) → IsInPhase z who p (seat_of n a) → IsNext who.end p said p' → (steps_in p ≢ 0) × ((s : Answer) → IsEndOf p s → ⊥) → outcome_said said ≡ (form_step (ring_form meaning) meaning m n f None).outcome
    later_said z who p said p' at next on = said_at who.end p said p' next on.1 ∙ sym (later_is z who p said p' at next on.0)

    pub send_left : (z : LinkSizes) (who : CallerId) (answer : Answer) → IsInPhase z who (phase.LeavesSender answer) (seat_of n a) → outcome.Ended (call_end answer) ≡ (form_step (ring_form meaning) meaning m n f None).outcome
    send_left z who answer at = sym (send_outcome a.0.sizes.desks m who.end n f _ _ _ (outcome.Ended (call_end answer)) (shown _ _ at.3) (leaving_has Sending _ n (call_end answer)) (λ state. refl))

    pub receive_left : (z : LinkSizes) (who : CallerId) (answer : Answer) → IsInPhase z who (phase.LeavesReceiver answer) (seat_of n a) → outcome.Ended (call_end answer) ≡ (form_step (ring_form meaning) meaning m n f None).outcome
    receive_left z who answer at = sym (receive_outcome a.0.sizes.desks m who.end n f _ _ _ _ (outcome.Ended (call_end answer)) sound (shown _ _ at.4) (leaving_has Receiving _ n (call_end answer)) (λ state. refl))

  abbrev Placed : SeatState → Type 0
  Placed me = LaneLink (RingState (PlacedDesk coded me.0.sizes.desks))

  sender_met : (e : End) (me : SeatState) (h : ℕ) (m : Link) (state : Placed me) → state ≡ placed_link coded me.0.sizes.desks m → h + 1 ≡ slice_index (layout (words_of 0 [] state)) (place_in (sender_word (other e))) → holder (lane_to m (other e)).lane.sender ≡ Some h
  sender_met e me h m state is read = ap holder (sym (sender_there coded meaning me.0.sizes.desks m (other e)) ∙ sym (ap (λ (l : Placed me). (lane_to l (other e)).lane.sender) is)) ∙ held_by (lane_to state (other e)).lane.sender h (found_sender coded meaning state (other e) (h + 1) read)

  receiver_met : (e : End) (me : SeatState) (h : ℕ) (m : Link) (state : Placed me) → state ≡ placed_link coded me.0.sizes.desks m → h + 1 ≡ slice_index (layout (words_of 0 [] state)) (place_in (receiver_word e)) → holder (lane_to m e).lane.receiver ≡ Some h
  receiver_met e me h m state is read = ap holder (sym (turn_there coded meaning me.0.sizes.desks m e) ∙ sym (ap (λ (l : Placed me). (lane_to l e).lane.receiver) is)) ∙ held_by (lane_to state e).lane.receiver h (found_turn coded meaning state e (h + 1) read)

  -- the first step says who had the turn
  first_outcome : (m : Link) (e : End) (n f : ℕ) (w : Wish) → end_of m.callers n ≡ Some e → (form_step (ring_form meaning) meaning m n f (Some w)).outcome ≡ begun_outcome (holder_for e w m)
  first_outcome m e n f (wish.Send message) user = by_end m e n f (Some (wish.Send message)) user
  first_outcome m e n f wish.Take user = by_end m e n f (Some wish.Take) user
  first_outcome m e n f (wish.Give number) user = by_end m e n f (Some (wish.Give number)) user
  first_outcome m e n f (wish.Bind address) user = by_end m e n f (Some (wish.Bind address)) user
  first_outcome m e n f (wish.Unbind address) user = by_end m e n f (Some (wish.Unbind address)) user

  pub first_refused : (m : Link) (e : End) (n f : ℕ) (asked : Ask) (h : ℕ) → end_of m.callers n ≡ Some e → holder_for e (wish_of asked) m ≡ Some h
      → outcome.Ended (call_end (busy_answer h (Some asked))) ≡ (form_step (ring_form meaning) meaning m n f (Some (wish_of asked))).outcome
  first_refused m e n f asked h user held = ap outcome.Ended (busy_end h asked) ∙ (sym (ap begun_outcome held) ∙ sym (first_outcome m e n f (wish_of asked) user))

  -- and a turn that the caller has then was free
  sender_after : (m : Link) (e : End) (n f : ℕ) (message : List ℕ) → end_of m.callers n ≡ Some e
      → (lane_to (after_deed meaning m (Steps n f (Some (wish.Send message)))) (other e)).lane.sender ≡ taken_by (lane_to m (other e)).lane.sender n (record { follows = f; message = message; stage = stage.Turn })
  sender_after m side.Host n f message user = ap (λ (o : Option End). (on_lanes m o (λ lanes. lanes_step (ring_form meaning) meaning m.era lanes n f (Some (wish.Send message)))).state.to_remote.lane.sender) user
  sender_after m side.Remote n f message user = ap (λ (o : Option End). (on_lanes m o (λ lanes. lanes_step (ring_form meaning) meaning m.era lanes n f (Some (wish.Send message)))).state.to_host.lane.sender) user

  abbrev begun : Link → ℕ → ℕ → Wish → Option End → Link
  begun m n f w o = (on_lanes m o (λ lanes. lanes_step (ring_form meaning) meaning m.era lanes n f (Some w))).state

  receiver_after : (m : Link) (e : End) (n f : ℕ) (w : Wish) → end_of m.callers n ≡ Some e → ((message : List ℕ) → w ≡ wish.Send message → ⊥)
      → (lane_to (after_deed meaning m (Steps n f (Some w))) e).lane.receiver ≡ taken_by (lane_to m e).lane.receiver n (record { follows = f; work = first_work w })
  receiver_after m e n f (wish.Send message) user not = absurd (not message refl)
  receiver_after m side.Host n f wish.Take user not = ap (λ (o : Option End). (begun m n f wish.Take o).to_host.lane.receiver) user
  receiver_after m side.Remote n f wish.Take user not = ap (λ (o : Option End). (begun m n f wish.Take o).to_remote.lane.receiver) user
  receiver_after m side.Host n f (wish.Give number) user not = ap (λ (o : Option End). (begun m n f (wish.Give number) o).to_host.lane.receiver) user
  receiver_after m side.Remote n f (wish.Give number) user not = ap (λ (o : Option End). (begun m n f (wish.Give number) o).to_remote.lane.receiver) user
  receiver_after m side.Host n f (wish.Bind address) user not = ap (λ (o : Option End). (begun m n f (wish.Bind address) o).to_host.lane.receiver) user
  receiver_after m side.Remote n f (wish.Bind address) user not = ap (λ (o : Option End). (begun m n f (wish.Bind address) o).to_remote.lane.receiver) user
  receiver_after m side.Host n f (wish.Unbind address) user not = ap (λ (o : Option End). (begun m n f (wish.Unbind address) o).to_host.lane.receiver) user
  receiver_after m side.Remote n f (wish.Unbind address) user not = ap (λ (o : Option End). (begun m n f (wish.Unbind address) o).to_remote.lane.receiver) user

  pub no_send_in : (tables : DeskTables) (m : Link) (e : End) (n : ℕ) → has_call ((turns_in (placed_link coded tables m)).lanes e).sender n ≡ false → has_call (lane_to m e).lane.sender n ≡ false
  no_send_in tables m side.Host n is = is
  no_send_in tables m side.Remote n is = is

  pub no_receive_in : (tables : DeskTables) (m : Link) (e : End) (n : ℕ) → has_call ((turns_in (placed_link coded tables m)).lanes e).receiver n ≡ false → has_call (lane_to m e).lane.receiver n ≡ false
  no_receive_in tables m side.Host n is = is
  no_receive_in tables m side.Remote n is = is

  -- a caller in no call
  pub rests_in : (n : ℕ) (e : End) (a : SeatState) (m : Link) → IsAt (seat_of n a) (Rests e) [] → ShowsCall coded n a m → IsCallOf (placed_link coded a.0.sizes.desks m) 0 n (Rests e)
  rests_in n e a m at shows = subst (IsCallOf (placed_link coded a.0.sizes.desks m) 0 n) (call_of_at n a (Rests e) [] at) shows

  pub rests_user : (n : ℕ) (e : End) (a : SeatState) (m : Link) → IsAt (seat_of n a) (Rests e) [] → ShowsCall coded n a m → end_of m.callers n ≡ Some e
  rests_user n e a m at shows = (rests_in n e a m at shows).0

  module _ (who : CallerId) (a b : SeatState) (m : Link) (rests : IsAt (seat_of who.number a) (Rests who.end) []) (before : ShowsCall coded who.number a m) where
    abbrev After : Wish → Link
    After w = after_deed meaning m (Steps who.number who.follows (Some w))

    receive_free : (w : Wish) (x : ReceiverSide) (slots : List (ℕ × Slot)) → ((message : List ℕ) → w ≡ wish.Send message → ⊥)
        → IsAt (seat_of who.number b) (Receives who.end (turn.Taken who.number (record { follows = who.follows; work = first_work w })) x 0 []) slots → ShowsCall coded who.number b (After w) → holder (lane_to m who.end).lane.receiver ≡ None
    receive_free w x slots not at after = let q = rests_in who.number who.end a m rests before in let r : Receiving = record { follows = who.follows; work = first_work w } in
        was_free (lane_to m who.end).lane.receiver who.number r r
        (sym (receiver_after m who.end who.number who.follows w q.0 not) ∙ receiver_in b.0.sizes.desks (After w) who.end (turn.Taken who.number r) (subst (IsCallOf (placed_link coded b.0.sizes.desks (After w)) 0 who.number) (call_of_at who.number b _ slots at) after).1.0)
        (no_receive_in a.0.sizes.desks m who.end who.number q.2)

    free_for : (w : Wish) → HasBegun who w (seat_of who.number b) → ShowsCall coded who.number b (After w) → holder_for who.end w m ≡ None
    free_for (wish.Send message) at after = let q = rests_in who.number who.end a m rests before in let c : Sending = record { follows = who.follows; message = message; stage = stage.Turn } in
        was_free (lane_to m (other who.end)).lane.sender who.number c c
        (sym (sender_after m who.end who.number who.follows message q.0) ∙ sender_in b.0.sizes.desks (After (wish.Send message)) (other who.end) (turn.Taken who.number c)
        (subst (IsCallOf (placed_link coded b.0.sizes.desks (After (wish.Send message))) 0 who.number) (call_of_at who.number b _ _ at.2) after).1.0)
        (no_send_in a.0.sizes.desks m (other who.end) who.number q.1)
    free_for wish.Take at after = receive_free wish.Take _ _ (λ message is. absurd (cc)) at.3 after
    free_for (wish.Give number) at after = receive_free (wish.Give number) _ _ (λ message is. absurd (cc)) at.3 after
    free_for (wish.Bind address) at after = receive_free (wish.Bind address) _ _ (λ message is. absurd (cc)) at.3 after
    free_for (wish.Unbind address) at after = receive_free (wish.Unbind address) _ _ (λ message is. absurd (cc)) at.3 after

    pub first_begun : (w : Wish) → HasBegun who w (seat_of who.number b) → ShowsCall coded who.number b (After w) → outcome.At 1 ≡ (form_step (ring_form meaning) meaning m who.number who.follows (Some w)).outcome
    first_begun w at after = sym (ap begun_outcome (free_for w at after)) ∙ sym (first_outcome m who.end who.number who.follows w (rests_in who.number who.end a m rests before).0)

  -- the turn that an attempt found another's is that one's in the state that the manager knows
  pub turn_met : (n f : ℕ) (e : End) (w : Wish) (me me' : SeatState) (h : ℕ) (m : Link) → Begins coded meaning me (HasWord (place_in (turn_word_for e w)) (h + 1)) n f w me' → KnowsState coded me.0 m → holder_for e w m ≡ Some h
  turn_met n f e (wish.Send message) me me' h m s knows = sender_met e me h m s.state (known_is coded meaning me s.state m knows (λ c was. (s.copy c knows.manages knows.carries was).0)) s.read
  turn_met n f e wish.Take me me' h m s knows = receiver_met e me h m s.state (known_is coded meaning me s.state m knows (λ c was. (s.copy c knows.manages knows.carries was).0)) s.read
  turn_met n f e (wish.Give number) me me' h m s knows = receiver_met e me h m s.state (known_is coded meaning me s.state m knows (λ c was. (s.copy c knows.manages knows.carries was).0)) s.read
  turn_met n f e (wish.Bind address) me me' h m s knows = receiver_met e me h m s.state (known_is coded meaning me s.state m knows (λ c was. (s.copy c knows.manages knows.carries was).0)) s.read
  turn_met n f e (wish.Unbind address) me me' h m s knows = receiver_met e me h m s.state (known_is coded meaning me s.state m knows (λ c was. (s.copy c knows.manages knows.carries was).0)) s.read
