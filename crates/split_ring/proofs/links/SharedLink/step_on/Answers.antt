use Rattle.std.proofs.Common.{◌≡◌, ◌+◌, ◌∷◌, [], ℕ, List, refl, sym, ap, ◌∙◌, subst}
use Rattle.std.specs.Prelude.{Err}
use Rattle.rp_base.specs.declared.kinds.End.{End}
use Rattle.lane_model.specs.declared.calls.Answer.TheVariants as answer
use Rattle.lane_model.specs.declared.calls.Outcome.TheVariants as outcome
use Rattle.lane_model.specs.declared.calls.Progress.TheVariants as progress
use Rattle.lane_model.specs.declared.stages.TakeStage.{TakeStage}
use Rattle.lane_model.specs.declared.stages.TakeStage.TheVariants as take_stage
use Rattle.lane_model.specs.Links.{form_step}
use Rattle.ring_core.specs.RingSteps.{ring_form}
use Rattle.link_words.specs.declared.rule.Call.TheVariants.{Rests}
use Rattle.link_words.specs.declared.rule.Event.TheVariants.{Step}
use Rattle.link_words.specs.declared.rule.Made.TheVariants as made
use Rattle.link_words.specs.Deeds.{after_deed}
use Rattle.link_words.specs.Words.{other}
use Rattle.lane_model.specs.HeldBuffers.{HeldBuffer}
use Rattle.split_ring.specs.declared.stages.Stage.{Stage}
use Rattle.split_ring.specs.CallPhases.{Phase}
use Rattle.split_ring.specs.CallPhases as phase
use Rattle.split_ring.specs.Calls.{IsInPhase, Advances, StandsAt, deed_of, send_answer, take_answer}
use Rattle.split_ring.specs.Focus.{StepsAlone, seat_of}
use Rattle.split_ring.specs.Handed.{StepsLanes}
use Rattle.split_ring.specs.Phases.{IsNext, answer_in, ending_progress, give_steps, outcome_said, send_steps, steps_in, take_steps, wished_in}
use Rattle.split_ring.specs.Seats.{IsAt}
use Rattle.split_ring.specs.Walks.{same_hands, HasDone}
use Rattle.split_ring.proofs.CallEnds.{left_sender, left_receiver}
use Rattle.split_ring.proofs.Outcomes.{desk_on, give_on, later_said, receive_left, send_left, send_on, take_on}
use Rattle.split_ring.proofs.StepLanes.{desk_lanes, give_lanes, receiver_left, send_lanes, sender_left, take_lanes}
use Rattle.split_ring.specs.Stages.{answer_with, phase_at}
use Rattle.split_ring.proofs.links.SharedLink.step_on.Goals as goal

-- what a call stands for at a stage that is known
at_stage : {s t : Stage} (held : HeldBuffer) → s ≡ t → phase_at s held ≡ phase_at t held
at_stage held is = ap (λ (x : Stage). phase_at x held) is

pub returns-in-LeavesSender-clause-step : goal.returns-in-LeavesSender-clause-step
returns-in-LeavesSender-clause-step g c =
    let coded = g.row.D.coded in let meaning = g.D.Desk.meaning in let z = c.args.self.now.sizes in let who = c.args.who in let a = c.args.seat.now.me in
    let is = at_stage c.phase.inside.place c.in-LeavesSender.is in let here = sym c.phase.view_is ∙ is in let said = answer_with c.in-LeavesSender.field-0 c.phase.inside.place in let me = seat_of who.number a in let me' = seat_of who.number c.leave.new.seat.me in
    subst (λ (t : Phase × Phase). Advances coded meaning z who t.0 (ending_progress (answer_in t.1)) phase.Ended me me') (λ i. (sym here i, sym is i))
    (left_sender coded meaning z who said me me' (subst (λ (e : End). IsAt me' (Rests (other e)) [] × HasDone coded meaning (Step made.Left ∷ []) same_hands me me') c.other.ensures c.leave.ensures.left))

pub returns-in-LeavesReceiver-clause-step : goal.returns-in-LeavesReceiver-clause-step
returns-in-LeavesReceiver-clause-step g c =
    let coded = g.row.D.coded in let meaning = g.D.Desk.meaning in let z = c.args.self.now.sizes in let who = c.args.who in let a = c.args.seat.now.me in
    let is = at_stage c.phase.inside.place c.in-LeavesReceiver.is in let here = sym c.phase.view_is ∙ is in let said = answer_with c.in-LeavesReceiver.field-0 c.phase.inside.place in let s = c.leave-in-LeavesReceiver in let me = seat_of who.number a in let me' = seat_of who.number s.new.seat.me in
    subst (λ (t : Phase × Phase). Advances coded meaning z who t.0 (ending_progress (answer_in t.1)) phase.Ended me me') (λ i. (sym here i, sym is i)) (left_receiver coded meaning z who said me me' s.ensures.left)

pub returns-in-LeavesReceiver-clause-said : goal.returns-in-LeavesReceiver-clause-said
returns-in-LeavesReceiver-clause-said g c = λ m knows.
    let coded = g.row.D.coded in let meaning = g.D.Desk.meaning in let z = c.args.self.now.sizes in let who = c.args.who in let a = c.args.seat.now.me in
    let is = at_stage c.phase.inside.place c.in-LeavesReceiver.is in let here = sym c.phase.view_is ∙ is in let said = answer_with c.in-LeavesReceiver.field-0 c.phase.inside.place in let s = c.leave-in-LeavesReceiver in let me = seat_of who.number a in let me' = seat_of who.number s.new.seat.me in
    subst (λ (t : Phase × Phase). outcome_said (ending_progress (answer_in t.1)) ≡ (form_step (ring_form meaning) meaning m who.number who.follows (wished_in t.0)).outcome) (λ i. (sym here i, sym is i))
    (receive_left coded meaning who.number who.follows a m (s.ensures.alone.calls m knows).0 (s.ensures.alone.sound m knows) z who said (subst (λ (x : Phase). IsInPhase z who x me) here c.requires.stands))

pub returns-in-LeavesReceiver-clause-lanes : goal.returns-in-LeavesReceiver-clause-lanes
returns-in-LeavesReceiver-clause-lanes g c = λ m knows.
    let coded = g.row.D.coded in let meaning = g.D.Desk.meaning in let z = c.args.self.now.sizes in let who = c.args.who in let a = c.args.seat.now.me in
    let is = at_stage c.phase.inside.place c.in-LeavesReceiver.is in let here = sym c.phase.view_is ∙ is in let said = answer_with c.in-LeavesReceiver.field-0 c.phase.inside.place in let s = c.leave-in-LeavesReceiver in let me = seat_of who.number a in let me' = seat_of who.number s.new.seat.me in
    subst (λ (x : Phase). StepsLanes who phase.Ended m (after_deed meaning m (deed_of who x))) (sym here)
    (receiver_left coded meaning z who a s.new.seat.me m s.ensures.alone knows said (subst (λ (x : Phase). IsInPhase z who x me) here c.requires.stands))

pub returns-in-HandsBack-clause-step : goal.returns-in-HandsBack-clause-step
returns-in-HandsBack-clause-step g c =
    let coded = g.row.D.coded in let meaning = g.D.Desk.meaning in let z = c.args.self.now.sizes in let who = c.args.who in let a = c.args.seat.now.me in
    let is = at_stage c.phase.inside.place c.in-HandsBack.is in let here = sym c.phase.view_is ∙ is in let said = answer.GiveBusy c.in-HandsBack.field-0 c.phase.inside.place in let s = c.leave-in-HandsBack in let me = seat_of who.number a in let me' = seat_of who.number s.new.seat.me in
    subst (λ (t : Phase × Phase). Advances coded meaning z who t.0 (ending_progress (answer_in t.1)) phase.Ended me me') (λ i. (sym here i, sym is i)) (left_receiver coded meaning z who said me me' s.ensures.left)

pub returns-in-HandsBack-clause-said : goal.returns-in-HandsBack-clause-said
returns-in-HandsBack-clause-said g c = λ m knows.
    let coded = g.row.D.coded in let meaning = g.D.Desk.meaning in let z = c.args.self.now.sizes in let who = c.args.who in let a = c.args.seat.now.me in
    let is = at_stage c.phase.inside.place c.in-HandsBack.is in let here = sym c.phase.view_is ∙ is in let said = answer.GiveBusy c.in-HandsBack.field-0 c.phase.inside.place in let s = c.leave-in-HandsBack in let me = seat_of who.number a in let me' = seat_of who.number s.new.seat.me in
    subst (λ (t : Phase × Phase). outcome_said (ending_progress (answer_in t.1)) ≡ (form_step (ring_form meaning) meaning m who.number who.follows (wished_in t.0)).outcome) (λ i. (sym here i, sym is i))
    (receive_left coded meaning who.number who.follows a m (s.ensures.alone.calls m knows).0 (s.ensures.alone.sound m knows) z who said (subst (λ (x : Phase). IsInPhase z who x me) here c.requires.stands))

pub returns-in-HandsBack-clause-lanes : goal.returns-in-HandsBack-clause-lanes
returns-in-HandsBack-clause-lanes g c = λ m knows.
    let coded = g.row.D.coded in let meaning = g.D.Desk.meaning in let z = c.args.self.now.sizes in let who = c.args.who in let a = c.args.seat.now.me in
    let is = at_stage c.phase.inside.place c.in-HandsBack.is in let here = sym c.phase.view_is ∙ is in let said = answer.GiveBusy c.in-HandsBack.field-0 c.phase.inside.place in let s = c.leave-in-HandsBack in let me = seat_of who.number a in let me' = seat_of who.number s.new.seat.me in
    subst (λ (x : Phase). StepsLanes who phase.Ended m (after_deed meaning m (deed_of who x))) (sym here)
    (receiver_left coded meaning z who a s.new.seat.me m s.ensures.alone knows said (subst (λ (x : Phase). IsInPhase z who x me) here c.requires.stands))

pub returns-in-LeavesSender-clause-said : goal.returns-in-LeavesSender-clause-said
returns-in-LeavesSender-clause-said g c = λ m knows.
    let coded = g.row.D.coded in let meaning = g.D.Desk.meaning in let z = c.args.self.now.sizes in let who = c.args.who in let a = c.args.seat.now.me in
    let is = at_stage c.phase.inside.place c.in-LeavesSender.is in let here = sym c.phase.view_is ∙ is in let said = answer_with c.in-LeavesSender.field-0 c.phase.inside.place in let s = c.leave in
    subst (λ (t : Phase × Phase). outcome_said (ending_progress (answer_in t.1)) ≡ (form_step (ring_form meaning) meaning m who.number who.follows (wished_in t.0)).outcome) (λ i. (sym here i, sym is i))
    (send_left coded meaning who.number who.follows a m (s.ensures.alone.calls m knows).0 (s.ensures.alone.sound m knows) z who said (subst (λ (x : Phase). IsInPhase z who x (seat_of who.number a)) here c.requires.stands))

pub returns-in-LeavesSender-clause-lanes : goal.returns-in-LeavesSender-clause-lanes
returns-in-LeavesSender-clause-lanes g c = λ m knows.
    let coded = g.row.D.coded in let meaning = g.D.Desk.meaning in let z = c.args.self.now.sizes in let who = c.args.who in let a = c.args.seat.now.me in
    let here = sym c.phase.view_is ∙ at_stage c.phase.inside.place c.in-LeavesSender.is in let said = answer_with c.in-LeavesSender.field-0 c.phase.inside.place in let s = c.leave in
    subst (λ (x : Phase). StepsLanes who phase.Ended m (after_deed meaning m (deed_of who x))) (sym here)
    (sender_left coded meaning z who a s.new.seat.me m s.ensures.alone knows said (subst (λ (x : Phase). IsInPhase z who x (seat_of who.number a)) here c.requires.stands))

pub returns-in-Some-clause-said : goal.returns-in-Some-clause-said
returns-in-Some-clause-said g c = λ m knows.
    let coded = g.row.D.coded in let meaning = g.D.Desk.meaning in let z = c.args.self.now.sizes in let who = c.args.who in let a = c.args.seat.now.me in
    let h = c.in-Sends in let place = c.phase.inside.place in let here = sym c.phase.view_is ∙ at_stage place h.is in let s = c.send_step in let p = phase.Sends h.stage h.call place.message in let behind = phase.LeavesSender (send_answer c.in-Some.sent) in
    subst (λ (x : Phase). outcome.At (c.steps-number.result + 1) ≡ (form_step (ring_form meaning) meaning m who.number who.follows (wished_in x)).outcome) (sym here)
    (ap (λ (k : ℕ). outcome.At (k + 1)) (c.steps-number.ensures ∙ ap steps_in here)
    ∙ later_said coded meaning who.number who.follows a m (s.ensures.alone.calls m knows).0 (s.ensures.alone.sound m knows) z who p (progress.At (send_steps h.stage + 1)) behind (subst (λ (x : Phase). IsInPhase z who x (seat_of who.number a)) here c.requires.stands) c.in-Some.ensures.next (send_on h.stage))

pub returns-in-Some-clause-lanes : goal.returns-in-Some-clause-lanes
returns-in-Some-clause-lanes g c = λ m knows.
    let coded = g.row.D.coded in let meaning = g.D.Desk.meaning in let z = c.args.self.now.sizes in let who = c.args.who in let a = c.args.seat.now.me in
    let h = c.in-Sends in let place = c.phase.inside.place in let here = sym c.phase.view_is ∙ at_stage place h.is in let s = c.send_step in let behind = phase.LeavesSender (send_answer c.in-Some.sent) in
    subst (λ (t : Phase × Phase). StepsLanes who t.0 m (after_deed meaning m (deed_of who t.1))) (λ i. (sym c.settle_send.ensures i, sym here i))
    (send_lanes coded meaning z who a s.new.seat.me m s.ensures.alone knows h.stage h.call place.message (progress.At (send_steps h.stage + 1)) behind (subst (λ (x : Phase). IsInPhase z who x (seat_of who.number a)) here c.requires.stands) c.in-Some.ensures.next c.in-Some.ensures.step.stands)

pub returns-in_default-clause-said : goal.returns-in_default-clause-said
returns-in_default-clause-said g c = λ m knows.
    let coded = g.row.D.coded in let meaning = g.D.Desk.meaning in let z = c.args.self.now.sizes in let who = c.args.who in let a = c.args.seat.now.me in
    let h = c.in-Sends in let place = c.phase.inside.place in let here = sym c.phase.view_is ∙ at_stage place h.is in let s = c.send_step in let p = phase.Sends h.stage h.call place.message in let behind = phase.Sends s.new.stage s.new.call place.message in
    subst (λ (x : Phase). outcome.At (c.steps-number.result + 1) ≡ (form_step (ring_form meaning) meaning m who.number who.follows (wished_in x)).outcome) (sym here)
    (ap (λ (k : ℕ). outcome.At (k + 1)) (c.steps-number.ensures ∙ ap steps_in here)
    ∙ later_said coded meaning who.number who.follows a m (s.ensures.alone.calls m knows).0 (s.ensures.alone.sound m knows) z who p (progress.At (send_steps h.stage + 1)) behind (subst (λ (x : Phase). IsInPhase z who x (seat_of who.number a)) here c.requires.stands) c.in_default.ensures.next (send_on h.stage))

pub returns-in_default-clause-lanes : goal.returns-in_default-clause-lanes
returns-in_default-clause-lanes g c = λ m knows.
    let coded = g.row.D.coded in let meaning = g.D.Desk.meaning in let z = c.args.self.now.sizes in let who = c.args.who in let a = c.args.seat.now.me in
    let h = c.in-Sends in let place = c.phase.inside.place in let here = sym c.phase.view_is ∙ at_stage place h.is in let s = c.send_step in let behind = phase.Sends s.new.stage s.new.call place.message in
    subst (λ (x : Phase). StepsLanes who behind m (after_deed meaning m (deed_of who x))) (sym here)
    (send_lanes coded meaning z who a s.new.seat.me m s.ensures.alone knows h.stage h.call place.message (progress.At (send_steps h.stage + 1)) behind (subst (λ (x : Phase). IsInPhase z who x (seat_of who.number a)) here c.requires.stands) c.in_default.ensures.next (subst (λ (x : List ℕ). StandsAt z who (progress.At (send_steps h.stage + 1)) (phase.Sends s.new.stage s.new.call x) (seat_of who.number s.new.seat.me)) (ap (λ (b : HeldBuffer). b.message) c.place.view_is) c.in_default.ensures.step.stands))

pub returns-in-Takes-Buffer-default-default-clause-said : goal.returns-in-Takes-Buffer-default-default-clause-said
returns-in-Takes-Buffer-default-default-clause-said g c = λ m knows.
    let coded = g.row.D.coded in let meaning = g.D.Desk.meaning in let z = c.args.self.now.sizes in let who = c.args.who in let a = c.args.seat.now.me in
    let h = c.in-Takes-Buffer-default-default in let place = c.phase.inside.place in let last : phase.Takes h.field-0 h.field-1 h.field-2 ≡ phase.Takes take_stage.Buffer h.field-1 h.field-2 = ap (λ (x : TakeStage). phase.Takes x h.field-1 h.field-2) h.field-0-is in let here = sym c.phase.view_is ∙ (at_stage place h.is ∙ last) in
    let s = c.hand_step in let p = phase.Takes take_stage.Buffer h.field-1 h.field-2 in let next = subst (λ (x : Phase). IsNext who.end x (progress.At 5) s.new.phase) last s.ensures.next in
    subst (λ (x : Phase). outcome.At (c.steps-number.result + 1) ≡ (form_step (ring_form meaning) meaning m who.number who.follows (wished_in x)).outcome) (sym here)
    (ap (λ (k : ℕ). outcome.At (k + 1)) (c.steps-number.ensures ∙ ap steps_in here)
    ∙ later_said coded meaning who.number who.follows a m (s.ensures.alone.calls m knows).0 (s.ensures.alone.sound m knows) z who p (progress.At 5) s.new.phase (subst (λ (x : Phase). IsInPhase z who x (seat_of who.number a)) here c.requires.stands) next (take_on take_stage.Buffer))

pub returns-in-Takes-Buffer-default-default-clause-lanes : goal.returns-in-Takes-Buffer-default-default-clause-lanes
returns-in-Takes-Buffer-default-default-clause-lanes g c = λ m knows.
    let coded = g.row.D.coded in let meaning = g.D.Desk.meaning in let z = c.args.self.now.sizes in let who = c.args.who in let a = c.args.seat.now.me in
    let h = c.in-Takes-Buffer-default-default in let place = c.phase.inside.place in let last : phase.Takes h.field-0 h.field-1 h.field-2 ≡ phase.Takes take_stage.Buffer h.field-1 h.field-2 = ap (λ (x : TakeStage). phase.Takes x h.field-1 h.field-2) h.field-0-is in let here = sym c.phase.view_is ∙ (at_stage place h.is ∙ last) in
    let s = c.hand_step in let next = subst (λ (x : Phase). IsNext who.end x (progress.At 5) s.new.phase) last s.ensures.next in
    let alone = subst (λ (x : Phase). StepsAlone coded meaning who.number (deed_of who x) a s.new.seat.me) last s.ensures.alone in
    subst (λ (x : Phase). StepsLanes who s.new.phase m (after_deed meaning m (deed_of who x))) (sym here)
    (take_lanes coded meaning z who a s.new.seat.me m alone knows take_stage.Buffer h.field-1 h.field-2 (progress.At 5) s.new.phase (s.ensures.handed h.field-1 h.field-2 last) (subst (λ (x : Phase). IsInPhase z who x (seat_of who.number a)) here c.requires.stands) next s.ensures.step.stands)

pub returns-in-Some-take_step-clause-said : goal.returns-in-Some-take_step-clause-said
returns-in-Some-take_step-clause-said g c = λ m knows.
    let coded = g.row.D.coded in let meaning = g.D.Desk.meaning in let z = c.args.self.now.sizes in let who = c.args.who in let a = c.args.seat.now.me in
    let h = c.in-Takes in let place = c.phase.inside.place in let here = sym c.phase.view_is ∙ at_stage place h.is in let s = c.take_step in let p = phase.Takes h.stage h.call h.buffer in let behind = phase.LeavesReceiver (take_answer (Err c.in-Some-take_step.fault)) in
    subst (λ (x : Phase). outcome.At (c.steps-number.result + 1) ≡ (form_step (ring_form meaning) meaning m who.number who.follows (wished_in x)).outcome) (sym here)
    (ap (λ (k : ℕ). outcome.At (k + 1)) (c.steps-number.ensures ∙ ap steps_in here)
    ∙ later_said coded meaning who.number who.follows a m (s.ensures.alone.calls m knows).0 (s.ensures.alone.sound m knows) z who p (progress.At (take_steps h.stage + 1)) behind (subst (λ (x : Phase). IsInPhase z who x (seat_of who.number a)) here c.requires.stands) c.in-Some-take_step.ensures.next (take_on h.stage))

pub returns-in-Some-take_step-clause-lanes : goal.returns-in-Some-take_step-clause-lanes
returns-in-Some-take_step-clause-lanes g c = λ m knows.
    let coded = g.row.D.coded in let meaning = g.D.Desk.meaning in let z = c.args.self.now.sizes in let who = c.args.who in let a = c.args.seat.now.me in
    let h = c.in-Takes in let place = c.phase.inside.place in let here = sym c.phase.view_is ∙ at_stage place h.is in let s = c.take_step in let behind = phase.LeavesReceiver (take_answer (Err c.in-Some-take_step.fault)) in
    subst (λ (t : Phase × Phase). StepsLanes who t.0 m (after_deed meaning m (deed_of who t.1))) (λ i. (sym c.settle_take.ensures i, sym here i))
    (take_lanes coded meaning z who a s.new.seat.me m s.ensures.alone knows h.stage h.call h.buffer (progress.At (take_steps h.stage + 1)) behind c.in-Some-take_step.ensures.nothing (subst (λ (x : Phase). IsInPhase z who x (seat_of who.number a)) here c.requires.stands) c.in-Some-take_step.ensures.next c.in-Some-take_step.ensures.step.stands)

pub returns-in_default-take_step-clause-said : goal.returns-in_default-take_step-clause-said
returns-in_default-take_step-clause-said g c = λ m knows.
    let coded = g.row.D.coded in let meaning = g.D.Desk.meaning in let z = c.args.self.now.sizes in let who = c.args.who in let a = c.args.seat.now.me in
    let h = c.in-Takes in let place = c.phase.inside.place in let here = sym c.phase.view_is ∙ at_stage place h.is in let s = c.take_step in let p = phase.Takes h.stage h.call h.buffer in let behind = phase.Takes s.new.stage h.call s.new.buffer in
    subst (λ (x : Phase). outcome.At (c.steps-number.result + 1) ≡ (form_step (ring_form meaning) meaning m who.number who.follows (wished_in x)).outcome) (sym here)
    (ap (λ (k : ℕ). outcome.At (k + 1)) (c.steps-number.ensures ∙ ap steps_in here)
    ∙ later_said coded meaning who.number who.follows a m (s.ensures.alone.calls m knows).0 (s.ensures.alone.sound m knows) z who p (progress.At (take_steps h.stage + 1)) behind (subst (λ (x : Phase). IsInPhase z who x (seat_of who.number a)) here c.requires.stands) c.in_default-take_step.ensures.next (take_on h.stage))

pub returns-in_default-take_step-clause-lanes : goal.returns-in_default-take_step-clause-lanes
returns-in_default-take_step-clause-lanes g c = λ m knows.
    let coded = g.row.D.coded in let meaning = g.D.Desk.meaning in let z = c.args.self.now.sizes in let who = c.args.who in let a = c.args.seat.now.me in
    let h = c.in-Takes in let place = c.phase.inside.place in let here = sym c.phase.view_is ∙ at_stage place h.is in let s = c.take_step in let behind = phase.Takes s.new.stage h.call s.new.buffer in
    subst (λ (x : Phase). StepsLanes who behind m (after_deed meaning m (deed_of who x))) (sym here)
    (take_lanes coded meaning z who a s.new.seat.me m s.ensures.alone knows h.stage h.call h.buffer (progress.At (take_steps h.stage + 1)) behind c.in_default-take_step.ensures.nothing (subst (λ (x : Phase). IsInPhase z who x (seat_of who.number a)) here c.requires.stands) c.in_default-take_step.ensures.next c.in_default-take_step.ensures.step.stands)

pub returns-in-Some-give_step-clause-said : goal.returns-in-Some-give_step-clause-said
returns-in-Some-give_step-clause-said g c = λ m knows.
    let coded = g.row.D.coded in let meaning = g.D.Desk.meaning in let z = c.args.self.now.sizes in let who = c.args.who in let a = c.args.seat.now.me in
    let h = c.in-Gives in let place = c.phase.inside.place in let here = sym c.phase.view_is ∙ at_stage place h.is in let s = c.give_step in let p = phase.Gives h.stage place h.returned in let behind = phase.LeavesReceiver (answer.Gave c.in-Some-give_step.given) in
    subst (λ (x : Phase). outcome.At (c.steps-number.result + 1) ≡ (form_step (ring_form meaning) meaning m who.number who.follows (wished_in x)).outcome) (sym here)
    (ap (λ (k : ℕ). outcome.At (k + 1)) (c.steps-number.ensures ∙ ap steps_in here)
    ∙ later_said coded meaning who.number who.follows a m (s.ensures.alone.calls m knows).0 (s.ensures.alone.sound m knows) z who p (progress.At (give_steps h.stage + 1)) behind (subst (λ (x : Phase). IsInPhase z who x (seat_of who.number a)) here c.requires.stands) c.in-Some-give_step.ensures.next (give_on h.stage))

pub returns-in-Some-give_step-clause-lanes : goal.returns-in-Some-give_step-clause-lanes
returns-in-Some-give_step-clause-lanes g c = λ m knows.
    let coded = g.row.D.coded in let meaning = g.D.Desk.meaning in let z = c.args.self.now.sizes in let who = c.args.who in let a = c.args.seat.now.me in
    let h = c.in-Gives in let place = c.phase.inside.place in let here = sym c.phase.view_is ∙ at_stage place h.is in let s = c.give_step in let behind = phase.LeavesReceiver (answer.Gave c.in-Some-give_step.given) in
    subst (λ (t : Phase × Phase). StepsLanes who t.0 m (after_deed meaning m (deed_of who t.1))) (λ i. (sym c.settle_give.ensures i, sym here i))
    (give_lanes coded meaning z who a s.new.seat.me m s.ensures.alone knows h.stage place h.returned (progress.At (give_steps h.stage + 1)) behind (subst (λ (x : Phase). IsInPhase z who x (seat_of who.number a)) here c.requires.stands) c.in-Some-give_step.ensures.next c.in-Some-give_step.ensures.step.stands)

pub returns-in_default-give_step-clause-said : goal.returns-in_default-give_step-clause-said
returns-in_default-give_step-clause-said g c = λ m knows.
    let coded = g.row.D.coded in let meaning = g.D.Desk.meaning in let z = c.args.self.now.sizes in let who = c.args.who in let a = c.args.seat.now.me in
    let h = c.in-Gives in let place = c.phase.inside.place in let here = sym c.phase.view_is ∙ at_stage place h.is in let s = c.give_step in let p = phase.Gives h.stage place h.returned in let behind = phase.Gives s.new.stage place s.new.returned in
    subst (λ (x : Phase). outcome.At (c.steps-number.result + 1) ≡ (form_step (ring_form meaning) meaning m who.number who.follows (wished_in x)).outcome) (sym here)
    (ap (λ (k : ℕ). outcome.At (k + 1)) (c.steps-number.ensures ∙ ap steps_in here)
    ∙ later_said coded meaning who.number who.follows a m (s.ensures.alone.calls m knows).0 (s.ensures.alone.sound m knows) z who p (progress.At (give_steps h.stage + 1)) behind (subst (λ (x : Phase). IsInPhase z who x (seat_of who.number a)) here c.requires.stands) c.in_default-give_step.ensures.next (give_on h.stage))

pub returns-in_default-give_step-clause-lanes : goal.returns-in_default-give_step-clause-lanes
returns-in_default-give_step-clause-lanes g c = λ m knows.
    let coded = g.row.D.coded in let meaning = g.D.Desk.meaning in let z = c.args.self.now.sizes in let who = c.args.who in let a = c.args.seat.now.me in
    let h = c.in-Gives in let place = c.phase.inside.place in let here = sym c.phase.view_is ∙ at_stage place h.is in let s = c.give_step in let behind = phase.Gives s.new.stage place s.new.returned in
    subst (λ (x : Phase). StepsLanes who behind m (after_deed meaning m (deed_of who x))) (sym here)
    (give_lanes coded meaning z who a s.new.seat.me m s.ensures.alone knows h.stage place h.returned (progress.At (give_steps h.stage + 1)) behind (subst (λ (x : Phase). IsInPhase z who x (seat_of who.number a)) here c.requires.stands) c.in_default-give_step.ensures.next c.in_default-give_step.ensures.step.stands)

pub returns-in-Asks-clause-said : goal.returns-in-Asks-clause-said
returns-in-Asks-clause-said g c = λ m knows.
    let coded = g.row.D.coded in let meaning = g.D.Desk.meaning in let z = c.args.self.now.sizes in let who = c.args.who in let a = c.args.seat.now.me in
    let h = c.in-Asks in let place = c.phase.inside.place in let here = sym c.phase.view_is ∙ at_stage place h.is in let s = c.desk_step in let p = phase.Asks h.asked in
    subst (λ (x : Phase). outcome.At (c.steps-number.result + 1) ≡ (form_step (ring_form meaning) meaning m who.number who.follows (wished_in x)).outcome) (sym here)
    (ap (λ (k : ℕ). outcome.At (k + 1)) (c.steps-number.ensures ∙ ap steps_in here)
    ∙ later_said coded meaning who.number who.follows a m (s.ensures.alone.calls m knows).0 (s.ensures.alone.sound m knows) z who p (progress.At 2) s.new.phase (subst (λ (x : Phase). IsInPhase z who x (seat_of who.number a)) here c.requires.stands) s.ensures.next (desk_on 1 refl))

pub returns-in-Asks-clause-lanes : goal.returns-in-Asks-clause-lanes
returns-in-Asks-clause-lanes g c = λ m knows.
    let coded = g.row.D.coded in let meaning = g.D.Desk.meaning in let z = c.args.self.now.sizes in let who = c.args.who in let a = c.args.seat.now.me in
    let h = c.in-Asks in let place = c.phase.inside.place in let here = sym c.phase.view_is ∙ at_stage place h.is in let s = c.desk_step in
    subst (λ (x : Phase). StepsLanes who s.new.phase m (after_deed meaning m (deed_of who x))) (sym here)
    (desk_lanes coded meaning z who a s.new.seat.me m s.ensures.alone knows h.asked (progress.At 2) s.new.phase (subst (λ (x : Phase). IsInPhase z who x (seat_of who.number a)) here c.requires.stands) s.ensures.next s.ensures.step.stands)
