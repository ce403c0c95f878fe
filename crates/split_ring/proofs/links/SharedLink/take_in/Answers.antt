use Rattle.split_ring.proofs.TakeWalks.{takes_whole}
use Rattle.split_ring.proofs.SeatEnds.{leaves_then}
use Rattle.std.proofs.Common.{◌≡◌, suc, refl, subst, arith, ◌+◌, ◌∷◌, []}
use Rattle.std.specs.Prelude.{Some}
use Rattle.lane_model.specs.declared.calls.Ask.TheVariants as ask
use Rattle.lane_model.specs.declared.calls.Wish.{Wish}
use Rattle.lane_model.specs.declared.calls.Wish.TheVariants as wish
use Rattle.link_words.specs.Deeds.{Steps, after_deed}
use Rattle.split_ring.specs.Calls.{take_answer}
use Rattle.split_ring.specs.Focus.{StepsAlone, seat_of}
use Rattle.split_ring.specs.Phases.{holder_for}
use Rattle.split_ring.specs.Receives.{took}
use Rattle.split_ring.proofs.ReceiveRuns.{receive_whole}
use Rattle.split_ring.proofs.Runs.{whole_refused}
use Rattle.link_words.specs.declared.rule.Event.TheVariants.{Step}
use Rattle.link_words.specs.declared.rule.Made.TheVariants as made
use Rattle.split_ring.proofs.links.SharedLink.take_in.Goals as goal

pub returns-in-Err-clause-walk : goal.returns-in-Err-clause-walk
returns-in-Err-clause-walk g c = record { walk = Step (made.Turn (c.in-Err.holder + 1)) ∷ []; is = refl; done = c.in-Err.ensures.busy.1 }

pub returns-clause-walk : goal.returns-clause-walk
returns-clause-walk g c =
    let n = c.args.who.number in takes_whole g.row.D.coded g.D.Desk.meaning c.args.who (took c.args.who c.take_on-answer.new.message c.take_on-answer.result) (seat_of n c.args.seat.now.me) (seat_of n c.enter.new.seat.me) (seat_of n c.take_on-answer.new.seat.me) (seat_of n c.leave.new.seat.me)
    c.in_default.ensures.entered.1 c.take_on-answer.ensures.settled c.leave.ensures.left.1

pub returns-in-Err-clause-leaves : goal.returns-in-Err-clause-leaves
returns-in-Err-clause-leaves g c = c.enter.ensures.alone.leaves

pub returns-clause-leaves : goal.returns-clause-leaves
returns-clause-leaves g c =
    let n = c.args.who.number in let a = c.args.seat.now.me in let b = c.enter.new.seat.me in let d = c.take_on-answer.new.seat.me in let e = c.leave.new.seat.me in
    leaves_then n a d e (leaves_then n a b d c.enter.ensures.alone.leaves c.take_on-answer.ensures.leaves) c.leave.ensures.alone.leaves

pub returns-in-Err-clause-run : goal.returns-in-Err-clause-run
returns-in-Err-clause-run g c = λ m known.
    let who = c.args.who in let a = c.args.seat.now.me in let b = c.enter.new.seat.me in (
      0,
      omega arith,
      whole_refused g.row.D.coded g.D.Desk.meaning c.args.self.now.sizes who m ask.Take c.in-Err.holder a b (subst (λ (w : Wish). StepsAlone g.row.D.coded g.D.Desk.meaning who.number (Steps who.number who.follows (Some w)) a b) c.take.ensures c.enter.ensures.alone) known c.requires.caller.rests
          (subst (λ (w : Wish). holder_for who.end w m ≡ Some c.in-Err.holder) c.take.ensures (c.in-Err.ensures.met m known)),
    )

pub returns-clause-run : goal.returns-clause-run
returns-clause-run g c = λ m known.
    let coded = g.row.D.coded in let meaning = g.D.Desk.meaning in let z = c.args.self.now.sizes in let who = c.args.who in let a = c.args.seat.now.me in let b = c.enter.new.seat.me in let d = c.take_on-answer.new.seat.me in let e = c.leave.new.seat.me in
    let run = c.take_on-answer.ensures.run (after_deed meaning m (Steps who.number who.follows (Some c.take.result))) (c.enter.ensures.alone.knows m known) in let count = run.1 in
    (suc run.0, omega (arith, count), receive_whole coded meaning z m who c.take.result wish.Take run.0 (take_answer (took who c.take_on-answer.new.message c.take_on-answer.result)) a b d e c.take.ensures c.enter.ensures.alone c.requires.caller.rests c.in_default.ensures.entered.0 run.2 c.leave.ensures.alone known)
