use Rattle.std.proofs.Common.{◌≡◌, Some, sym, ap, ◌∙◌, subst}
use Rattle.lane_model.specs.Answers.{wish_of}
use Rattle.lane_model.specs.declared.calls.Outcome.TheVariants as outcome
use Rattle.lane_model.specs.declared.calls.Progress.TheVariants as progress
use Rattle.lane_model.specs.declared.calls.Wish.{Wish}
use Rattle.lane_model.specs.Links.{form_step}
use Rattle.ring_core.specs.RingSteps.{ring_form}
use Rattle.link_words.specs.Deeds.{Steps, after_deed}
use Rattle.split_ring.specs.CallPhases.{Phase}
use Rattle.split_ring.specs.CallPhases as phase
use Rattle.split_ring.specs.Calls.{Advances, IsShort, deed_of}
use Rattle.split_ring.specs.Focus.{StepsAlone, seat_of}
use Rattle.split_ring.specs.Handed.{LeavesLanes, StepsLanes}
use Rattle.split_ring.specs.Phases.{answer_in, ending_progress, holder_for, outcome_said, wished_in}
use Rattle.split_ring.proofs.CallEnds.{call_begun, call_refused}
use Rattle.split_ring.proofs.Focusing.{steps_stay}
use Rattle.split_ring.proofs.Outcomes.{first_begun, first_refused, rests_user}
use Rattle.split_ring.proofs.StepLanes.{begun_lanes, first_lanes}
use Rattle.split_ring.specs.Seats.{pass_in}
use Rattle.split_ring.proofs.FitAsks.{fits}
use Rattle.link_words.specs.Steps.{IsFit}
use Rattle.split_ring.proofs.links.SharedLink.first_step.Goals as goal

pub enter-requires-clause-fit : goal.enter-requires-clause-fit
enter-requires-clause-fit g c =
    let who = c.args.who in let me = seat_of who.number c.args.seat.now.me in let asked = c.requires.stands.0 in let wished = c.intent-wish.ensures.wish asked c.requires.stands.1 in
    subst (λ (w : Wish). IsFit w (pass_in me).hands) (sym wished) (fits who asked me (subst (λ (w : Wish). IsShort w) wished c.intent-wish.ensures.short) c.requires.stands.2.1)

pub returns-in-Ok-clause-step : goal.returns-in-Ok-clause-step
returns-in-Ok-clause-step g c =
    let coded = g.row.D.coded in let meaning = g.D.Desk.meaning in let z = c.args.self.now.sizes in let who = c.args.who in let a = c.requires.stands.0 in let next = c.begin_turn.new.phase in
    let me = seat_of who.number c.args.seat.now.me in let me1 = seat_of who.number c.enter.new.seat.me in let me' = seat_of who.number c.begin_turn.new.seat.me in
    subst (λ (p : Phase). Advances coded meaning z who p (progress.At 1) next me me') (sym c.requires.stands.1)
    (call_begun coded meaning z who a next me me1 me' c.in-Ok.ensures.entered.1 c.begin_turn.ensures.still c.begin_turn.ensures.hands c.begin_turn.ensures.stands (λ start. c.begin_turn.ensures.path a start c.requires.stands.1))

pub returns-in-Ok-clause-said : goal.returns-in-Ok-clause-said
returns-in-Ok-clause-said g c = λ m knows.
    let coded = g.row.D.coded in let meaning = g.D.Desk.meaning in let who = c.args.who in let shows = c.enter.ensures.alone.calls m knows in
    subst (λ (p : Phase). outcome.At 1 ≡ (form_step (ring_form meaning) meaning m who.number who.follows (wished_in p)).outcome) (sym c.requires.stands.1)
    (subst (λ (w : Wish). outcome.At 1 ≡ (form_step (ring_form meaning) meaning m who.number who.follows (Some w)).outcome) (c.intent-wish.ensures.wish c.requires.stands.0 c.requires.stands.1)
    (first_begun coded meaning who c.args.seat.now.me c.enter.new.seat.me m c.requires.stands.2.0 shows.0 c.intent-wish.result c.in-Ok.ensures.entered.0 shows.1))

pub returns-in-Ok-clause-alone : goal.returns-in-Ok-clause-alone
returns-in-Ok-clause-alone g c =
    let coded = g.row.D.coded in let meaning = g.D.Desk.meaning in let who = c.args.who in let n = who.number in let a = c.args.seat.now.me in let e = c.enter.new.seat.me in let b = c.begin_turn.new.seat.me in
    subst (λ (p : Phase). StepsAlone coded meaning n (deed_of who p) a b) (sym c.requires.stands.1)
    (steps_stay coded meaning n (Steps n who.follows (Some (wish_of c.requires.stands.0))) a e b
    (subst (λ (w : Wish). StepsAlone coded meaning n (Steps n who.follows (Some w)) a e) (c.intent-wish.ensures.wish c.requires.stands.0 c.requires.stands.1) c.enter.ensures.alone) c.begin_turn.ensures.stays)

pub returns-in-Ok-clause-lanes : goal.returns-in-Ok-clause-lanes
returns-in-Ok-clause-lanes g c = λ m knows.
    let meaning = g.D.Desk.meaning in let who = c.args.who in let w = wish_of c.requires.stands.0 in let next = c.begin_turn.new.phase in
    subst (λ (p : Phase). StepsLanes who next m (after_deed meaning m (deed_of who p))) (sym c.requires.stands.1)
    (begun_lanes m (after_deed meaning m (Steps who.number who.follows (Some w))) who next c.begin_turn.ensures.unsettled (first_lanes g.row.D.coded meaning m who.number who.follows w))

pub returns-in-Err-clause-step : goal.returns-in-Err-clause-step
returns-in-Err-clause-step g c =
    let coded = g.row.D.coded in let meaning = g.D.Desk.meaning in let z = c.args.self.now.sizes in let who = c.args.who in let a = c.requires.stands.0 in
    let me = seat_of who.number c.args.seat.now.me in let me1 = seat_of who.number c.enter.new.seat.me in
    subst (λ (p : Phase). Advances coded meaning z who p (ending_progress (answer_in c.refuse.new.phase)) phase.Ended me me1) (sym c.requires.stands.1)
    (subst (λ (p : Phase). Advances coded meaning z who (phase.Asked a) (ending_progress (answer_in p)) phase.Ended me me1) (sym (c.refuse.ensures a c.requires.stands.1))
    (call_refused coded meaning z who a c.in-Err.holder me me1 c.in-Err.ensures.busy))

pub returns-in-Err-clause-said : goal.returns-in-Err-clause-said
returns-in-Err-clause-said g c = λ m knows.
    let coded = g.row.D.coded in let meaning = g.D.Desk.meaning in let who = c.args.who in let seat = c.args.seat.now.me in let a = c.requires.stands.0 in let h = c.in-Err.holder in let shows = c.enter.ensures.alone.calls m knows in
    ap (λ (p : Phase). outcome_said (ending_progress (answer_in p))) (c.refuse.ensures a c.requires.stands.1)
    ∙ first_refused coded meaning m who.end who.number who.follows a h (rests_user coded meaning who.number who.end seat m c.requires.stands.2.0 shows.0)
    (subst (λ (w : Wish). holder_for who.end w m ≡ Some h) (c.intent-wish.ensures.wish c.requires.stands.0 c.requires.stands.1) (c.in-Err.ensures.met m knows))
    ∙ sym (ap (λ (p : Phase). (form_step (ring_form meaning) meaning m who.number who.follows (wished_in p)).outcome) c.requires.stands.1)

pub returns-in-Err-clause-lanes : goal.returns-in-Err-clause-lanes
returns-in-Err-clause-lanes g c = λ m knows.
    let meaning = g.D.Desk.meaning in let who = c.args.who in
    subst (λ (p : Phase). LeavesLanes m (after_deed meaning m (deed_of who p))) (sym c.requires.stands.1) (first_lanes g.row.D.coded meaning m who.number who.follows (wish_of c.requires.stands.0))
