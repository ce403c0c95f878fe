use Rattle.split_ring.proofs.GiveSteps.{gives_whole, held_still}
use Rattle.split_ring.proofs.SeatEnds.{leaves_then}
use Rattle.lane_model.specs.declared.calls.CallEnd.TheVariants as end
use Rattle.lane_model.specs.declared.calls.Answer.TheVariants as answer
use Rattle.lane_model.specs.declared.calls.Ask.TheVariants as ask
use Rattle.lane_model.specs.declared.calls.Wish.{Wish}
use Rattle.lane_model.specs.declared.calls.Wish.TheVariants as wish
use Rattle.lane_model.specs.declared.stages.GiveStage.TheVariants as give_stage
use Rattle.lane_model.specs.declared.stages.Work.TheVariants as work
use Rattle.std.proofs.Common.{◌≡◌, ℕ, refl, ◌+◌, ◌∷◌, [], sym, ap, ◌∙◌, subst, arith}
use Rattle.std.specs.Prelude.{Some}
use Rattle.link_words.specs.Deeds.{Steps, after_deed}
use Rattle.split_ring.specs.CallPhases as phase
use Rattle.split_ring.specs.Focus.{StepsAlone, seat_of}
use Rattle.split_ring.specs.Phases.{holder_for}
use Rattle.split_ring.specs.Receives.{IsGiveAt}
use Rattle.split_ring.specs.Turns.{HasBegun}
use Rattle.split_ring.proofs.Outcomes.{give_on}
use Rattle.split_ring.proofs.ReceiveRuns.{give_goes, receive_whole}
use Rattle.split_ring.proofs.Runs.{run_begins, whole_refused}
use Rattle.split_ring.specs.Seats.{pass_in}
use Rattle.link_words.specs.declared.rule.Event.TheVariants.{Step}
use Rattle.link_words.specs.declared.rule.Made.TheVariants as made
use Rattle.link_words.specs.Passes.{HasNumber}
use Rattle.link_words.specs.Steps.{IsFit}
use Rattle.split_ring.proofs.links.SharedLink.give_in.Goals as goal

pub enter-requires-clause-fit : goal.enter-requires-clause-fit
enter-requires-clause-fit g c = let hands = (pass_in (seat_of c.args.who.number c.args.seat.now.me)).hands in let q = c.requires.held in
    subst (λ (w : Wish). IsFit w hands) (sym c.give.ensures) (subst (λ (k : ℕ). HasNumber hands k) q.1 q.2.numbered)

pub leave-requires-clause-call : goal.leave-requires-clause-call
leave-requires-clause-call g c = (end.Gave c.args.number, c.publish_given.ensures.given)

pub returns-in-Err-clause-walk : goal.returns-in-Err-clause-walk
returns-in-Err-clause-walk g c = λ held same. record { walk = Step (made.Turn (c.in-Err.holder + 1)) ∷ []; is = (refl, refl); done = c.in-Err.ensures.busy.1 }

pub returns-clause-walk : goal.returns-clause-walk
returns-clause-walk g c = λ held same.
    let n = c.args.who.number in let q = c.requires.held in let a = seat_of n c.args.seat.now.me in
    gives_whole g.row.D.coded g.D.Desk.meaning c.args.who.end held c.args.number c.store_given-returned.result a (seat_of n c.enter.new.seat.me) (seat_of n c.store_given-returned.new.seat.me) (seat_of n c.publish_given.new.seat.me) (seat_of n c.leave.new.seat.me)
    (subst (λ (k : ℕ). HasNumber (pass_in a).hands k) (q.1 ∙ sym same) q.2.numbered) (sym same) c.in_default.ensures.entered.1 c.store_given-returned.ensures.done c.publish_given.ensures.done c.leave.ensures.left.1

pub returns-in-Err-clause-leaves : goal.returns-in-Err-clause-leaves
returns-in-Err-clause-leaves g c = c.enter.ensures.alone.leaves

pub returns-clause-leaves : goal.returns-clause-leaves
returns-clause-leaves g c =
    let n = c.args.who.number in let a = c.args.seat.now.me in let b = c.enter.new.seat.me in let d = c.store_given-returned.new.seat.me in let e = c.publish_given.new.seat.me in let f = c.leave.new.seat.me in
    leaves_then n a e f (leaves_then n a d e (leaves_then n a b d c.enter.ensures.alone.leaves c.store_given-returned.ensures.alone.leaves) c.publish_given.ensures.alone.leaves) c.leave.ensures.alone.leaves

pub returns-in-Err-clause-run : goal.returns-in-Err-clause-run
returns-in-Err-clause-run g c = λ held named m known.
    let who = c.args.who in let a = c.args.seat.now.me in let b = c.enter.new.seat.me in let same : c.give.result ≡ wish.Give held.number = c.give.ensures ∙ ap wish.Give (sym named) in (
      0,
      omega arith,
      whole_refused g.row.D.coded g.D.Desk.meaning c.args.self.now.sizes who m (ask.Give held) c.in-Err.holder a b (subst (λ (w : Wish). StepsAlone g.row.D.coded g.D.Desk.meaning who.number (Steps who.number who.follows (Some w)) a b) same c.enter.ensures.alone) known c.requires.caller.rests
          (subst (λ (w : Wish). holder_for who.end w m ≡ Some c.in-Err.holder) same (c.in-Err.ensures.met m known)),
    )

pub returns-clause-run : goal.returns-clause-run
returns-clause-run g c = λ other named m known.
    let coded = g.row.D.coded in let meaning = g.D.Desk.meaning in let z = c.args.self.now.sizes in let who = c.args.who in let number = c.args.number in let n = who.number in let q = c.requires.held in let held = q.0 in
    let a = c.args.seat.now.me in let b = c.enter.new.seat.me in let d = c.store_given-returned.new.seat.me in let e = c.publish_given.new.seat.me in let f = c.leave.new.seat.me in let begun = after_deed meaning m (Steps n who.follows (Some c.give.result)) in
    let same : number ≡ held.number = sym q.1 in let holds = held_still who held (seat_of n a) (seat_of n b) c.in_default.ensures.entered.1.in_hand q.2 in
    let turn = subst (λ (w : Wish). HasBegun who w (seat_of n b)) (c.give.ensures ∙ ap wish.Give same) c.in_default.ensures.entered.0 in
    let r0 = run_begins coded meaning z who (phase.Gives give_stage.Turn held 0) begun b (give_on give_stage.Turn).0 (turn, holds) (c.enter.ensures.alone.knows m known) in
    let r1 = give_goes coded meaning z begun 0 give_stage.Turn who held 0 (phase.Gives give_stage.Entry held c.store_given-returned.result) b d r0 c.store_given-returned.ensures.alone (refl, refl, tt, tt, refl)
    (subst (λ (k : ℕ). IsGiveAt who c.store_given-returned.result (work.Give k give_stage.Entry) (seat_of n d)) same c.store_given-returned.ensures.stored, held_still who held (seat_of n b) (seat_of n d) c.store_given-returned.ensures.done.in_hand holds) in
    let r2 = give_goes coded meaning z begun 1 give_stage.Entry who held c.store_given-returned.result (phase.LeavesReceiver (answer.Gave number)) d e r1 c.publish_given.ensures.alone (refl, refl, tt, tt, ap (λ (k : ℕ). Some k) (sym same)) c.publish_given.ensures.given in
    (3, omega arith, receive_whole coded meaning z m who c.give.result (wish.Give other.number) 2 (answer.Gave number) a b e f (c.give.ensures ∙ ap wish.Give (sym named)) c.enter.ensures.alone c.requires.caller.rests c.in_default.ensures.entered.0 r2 c.leave.ensures.alone known)
