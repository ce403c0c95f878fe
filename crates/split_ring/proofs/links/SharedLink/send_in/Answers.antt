use Rattle.split_ring.proofs.SendWalks.{sends_whole}
use Rattle.std.proofs.Common.{◌≡◌, ℕ, sym, subst}
use Rattle.std.specs.Prelude.{Some}
use Rattle.lane_model.specs.declared.calls.Ask.TheVariants as ask
use Rattle.lane_model.specs.declared.calls.Wish.{Wish}
use Rattle.lane_model.specs.declared.calls.Wish.TheVariants as wish
use Rattle.link_words.specs.Deeds.{Steps}
use Rattle.split_ring.specs.Calls.{send_answer}
use Rattle.split_ring.specs.Focus.{StepsAlone, seat_of}
use Rattle.split_ring.specs.Phases.{holder_for}
use Rattle.split_ring.specs.Runs.{RunsCall}
use Rattle.split_ring.specs.Turns.{HasBegun}
use Rattle.split_ring.proofs.Runs.{Begun, whole_refused, whole_sender}
use Rattle.split_ring.proofs.SeatEnds.{leaves_then}
use Rattle.split_ring.proofs.links.SharedLink.send_in.Goals as goal

pub returns-clause-walk : goal.returns-clause-walk
returns-clause-walk g c =
    let n = c.args.who.number in let coded = g.row.D.coded in let meaning = g.D.Desk.meaning in
    sends_whole coded meaning c.args.self.now.sizes c.args.who c.args.message.now c.send_on-answer.result (seat_of n c.args.seat.now.me) (seat_of n c.enter.new.seat.me) (seat_of n c.send_on-answer.new.seat.me) (seat_of n c.leave.new.seat.me)
    c.in_default.ensures.entered.1 c.send_on-answer.ensures.settled c.leave.ensures.left.1

pub returns-clause-leaves : goal.returns-clause-leaves
returns-clause-leaves g c =
    let n = c.args.who.number in let a = c.args.seat.now.me in let b = c.enter.new.seat.me in let d = c.send_on-answer.new.seat.me in
    leaves_then n a d c.leave.new.seat.me (leaves_then n a b d c.enter.ensures.alone.leaves c.send_on-answer.ensures.leaves) c.leave.ensures.alone.leaves

pub returns-in-Err-clause-run : goal.returns-in-Err-clause-run
returns-in-Err-clause-run g c = λ m known.
    let coded = g.row.D.coded in let meaning = g.D.Desk.meaning in let who = c.args.who in let a = c.args.seat.now.me in let b = c.enter.new.seat.me in let holder = c.in-Err.holder in
    let first = subst (λ (w : Wish). StepsAlone coded meaning who.number (Steps who.number who.follows (Some w)) a b) c.send.ensures.wish c.enter.ensures.alone in
    let met = subst (λ (w : Wish). holder_for who.end w m ≡ Some holder) c.send.ensures.wish (c.in-Err.ensures.met m known) in
    whole_refused coded meaning c.args.self.now.sizes who m (ask.Send c.args.message.now) holder a b first known c.requires.caller.rests met

pub returns-clause-run : goal.returns-clause-run
returns-clause-run g c = λ m known.
    let coded = g.row.D.coded in let meaning = g.D.Desk.meaning in let z = c.args.self.now.sizes in let who = c.args.who in let w = wish.Send c.args.message.now in
    let a = c.args.seat.now.me in let b = c.enter.new.seat.me in let d = c.send_on-answer.new.seat.me in let e = c.leave.new.seat.me in let said = send_answer c.send_on-answer.result in
    let first = subst (λ (w : Wish). StepsAlone coded meaning who.number (Steps who.number who.follows (Some w)) a b) c.send.ensures.wish c.enter.ensures.alone in
    let has = subst (λ (w : Wish). HasBegun who w (seat_of who.number b)) c.send.ensures.wish c.in_default.ensures.entered.0 in
    let run = c.send_on-answer.ensures.run (Begun coded meaning z who m w a b first known c.requires.caller.rests) (first.knows m known) in
    subst (λ (k : ℕ). RunsCall coded meaning who m w k said e) (sym run.1) (whole_sender coded meaning z who m w a b first known c.requires.caller.rests run.0 said d e has run.2 c.leave.ensures.alone)
