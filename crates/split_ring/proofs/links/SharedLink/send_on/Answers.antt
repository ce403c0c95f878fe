use Rattle.split_ring.proofs.SendWalks.{settled_as, settled_dead, settled_unmet, settled_sent}
use Rattle.std.proofs.Common.{subst}
use Rattle.split_ring.specs.declared.callers.CallerId.{CallerId}
use Rattle.split_ring.specs.Focus.{LeavesOthers, seat_of}
use Rattle.split_ring.proofs.SeatEnds.{leaves_then, stays_leaves}
use Rattle.split_ring.proofs.SendRuns.{HasSent, run_dead, run_sent, run_unmet}
use Rattle.split_ring.specs.Sends.{HasSettled}
use Rattle.std.specs.Prelude.{Ok, Err}
use Rattle.split_ring.specs.declared.sends.SendFault.TheVariants as fault
use Rattle.split_ring.proofs.links.SharedLink.send_on.Goals as goal

pub returns-in-Err-clause-settled : goal.returns-in-Err-clause-settled
returns-in-Err-clause-settled g c =
    let coded = g.row.D.coded in let meaning = g.D.Desk.meaning in let z = c.args.self.now.sizes in let call = c.send_begun-call.result in
    subst (λ (w : CallerId). HasSettled coded meaning z c.args.who c.args.message.now (Err (fault.Dead c.in-Err.era)) (seat_of w.number c.args.seat.now.me) (seat_of w.number c.find_send_era.new.seat.me)) c.send_begun-call.ensures.call.1 (
    settled_as coded meaning z call c.args.who c.args.message.now (Err (fault.Dead c.in-Err.era)) (seat_of call.who.number c.args.seat.now.me) (seat_of call.who.number c.find_send_era.new.seat.me) c.send_begun-call.ensures.call.1 c.send_begun-call.ensures.call.2
    (settled_dead coded meaning z call c.in-Err.era (seat_of call.who.number c.args.seat.now.me) (seat_of call.who.number c.send_begun-call.new.seat.me) (seat_of call.who.number c.find_send_era.new.seat.me) c.send_begun-call.ensures.still c.in-Err.ensures.dead))

pub returns-clause-settled : goal.returns-clause-settled
returns-clause-settled g c =
    let coded = g.row.D.coded in let meaning = g.D.Desk.meaning in let z = c.args.self.now.sizes in let call = c.send_begun-call.result in
    subst (λ (w : CallerId). HasSettled coded meaning z c.args.who c.args.message.now (Ok call.accepted) (seat_of w.number c.args.seat.now.me) (seat_of w.number c.publish_message.new.seat.me)) c.send_begun-call.ensures.call.1 (
    settled_as coded meaning z call c.args.who c.args.message.now (Ok call.accepted) (seat_of call.who.number c.args.seat.now.me) (seat_of call.who.number c.publish_message.new.seat.me) c.send_begun-call.ensures.call.1 c.send_begun-call.ensures.call.2
    (settled_sent coded meaning z call c.take_free.result (seat_of call.who.number c.args.seat.now.me) (seat_of call.who.number c.send_begun-call.new.seat.me) (seat_of call.who.number c.find_send_era.new.seat.me) (seat_of call.who.number c.look_for_room.new.seat.me) (seat_of call.who.number c.take_free.new.seat.me) (seat_of call.who.number c.store_message.new.seat.me) (seat_of call.who.number c.publish_message.new.seat.me)
    c.send_begun-call.ensures.still c.in_default.ensures.live.1 c.in_default-look_for_room.ensures.room.1 c.take_free.ensures.done c.store_message.ensures.done c.publish_message.ensures.published c.publish_message.ensures.done))

pub returns-in-Err-look_for_room-clause-settled : goal.returns-in-Err-look_for_room-clause-settled
returns-in-Err-look_for_room-clause-settled g c =
    let coded = g.row.D.coded in let meaning = g.D.Desk.meaning in let z = c.args.self.now.sizes in let call = c.send_begun-call.result in
    subst (λ (w : CallerId). HasSettled coded meaning z c.args.who c.args.message.now (Err c.in-Err-look_for_room.fault) (seat_of w.number c.args.seat.now.me) (seat_of w.number c.look_for_room.new.seat.me)) c.send_begun-call.ensures.call.1 (
    settled_as coded meaning z call c.args.who c.args.message.now (Err c.in-Err-look_for_room.fault) (seat_of call.who.number c.args.seat.now.me) (seat_of call.who.number c.look_for_room.new.seat.me) c.send_begun-call.ensures.call.1 c.send_begun-call.ensures.call.2
    (settled_unmet coded meaning z call c.in-Err-look_for_room.fault (seat_of call.who.number c.args.seat.now.me) (seat_of call.who.number c.send_begun-call.new.seat.me) (seat_of call.who.number c.find_send_era.new.seat.me) (seat_of call.who.number c.look_for_room.new.seat.me)
    c.send_begun-call.ensures.still c.in_default.ensures.live.1 c.in-Err-look_for_room.ensures.none))

pub returns-in-Err-clause-leaves : goal.returns-in-Err-clause-leaves
returns-in-Err-clause-leaves g c =
    let call = c.send_begun-call.result in let n = call.who.number in
    subst (λ (w : CallerId). LeavesOthers w.number c.args.seat.now.me c.find_send_era.new.seat.me) c.send_begun-call.ensures.call.1
    (leaves_then n c.args.seat.now.me c.send_begun-call.new.seat.me c.find_send_era.new.seat.me (stays_leaves n c.args.seat.now.me c.send_begun-call.new.seat.me c.send_begun-call.ensures.stays) c.find_send_era.ensures.alone.leaves)

pub returns-in-Err-look_for_room-clause-leaves : goal.returns-in-Err-look_for_room-clause-leaves
returns-in-Err-look_for_room-clause-leaves g c =
    let call = c.send_begun-call.result in let n = call.who.number in let me = c.args.seat.now.me in let a = c.send_begun-call.new.seat.me in let b = c.find_send_era.new.seat.me in let d = c.look_for_room.new.seat.me in
    subst (λ (w : CallerId). LeavesOthers w.number me d) c.send_begun-call.ensures.call.1
    (leaves_then n me b d (leaves_then n me a b (stays_leaves n me a c.send_begun-call.ensures.stays) c.find_send_era.ensures.alone.leaves) c.look_for_room.ensures.alone.leaves)

pub returns-clause-leaves : goal.returns-clause-leaves
returns-clause-leaves g c =
    let call = c.send_begun-call.result in let n = call.who.number in let me = c.args.seat.now.me in let a = c.send_begun-call.new.seat.me in let b = c.find_send_era.new.seat.me in let d = c.look_for_room.new.seat.me in
    let e = c.take_free.new.seat.me in let f = c.store_message.new.seat.me in let h = c.publish_message.new.seat.me in
    subst (λ (w : CallerId). LeavesOthers w.number me h) c.send_begun-call.ensures.call.1
    (leaves_then n me f h (leaves_then n me e f (leaves_then n me d e (leaves_then n me b d (leaves_then n me a b (stays_leaves n me a c.send_begun-call.ensures.stays) c.find_send_era.ensures.alone.leaves) c.look_for_room.ensures.alone.leaves)
    c.take_free.ensures.alone.leaves) c.store_message.ensures.alone.leaves) c.publish_message.ensures.alone.leaves)

pub returns-in-Err-clause-run : goal.returns-in-Err-clause-run
returns-in-Err-clause-run g c = λ m known.
    let coded = g.row.D.coded in let meaning = g.D.Desk.meaning in let z = c.args.self.now.sizes in let begun = c.send_begun-call in
    subst (λ (w : CallerId). HasSent coded meaning z w (Err (fault.Dead c.in-Err.era)) m c.find_send_era.new.seat.me) begun.ensures.call.1
    (run_dead coded meaning z begun.result m c.args.seat.now.me begun.new.seat.me begun.ensures.call.0 begun.ensures.stays known c.in-Err.era c.find_send_era.new.seat.me c.find_send_era.ensures.alone c.in-Err.ensures.dead.1)

pub returns-in-Err-look_for_room-clause-run : goal.returns-in-Err-look_for_room-clause-run
returns-in-Err-look_for_room-clause-run g c = λ m known.
    let coded = g.row.D.coded in let meaning = g.D.Desk.meaning in let z = c.args.self.now.sizes in let begun = c.send_begun-call in let found = c.in-Err-look_for_room.ensures.none in
    subst (λ (w : CallerId). HasSent coded meaning z w (Err c.in-Err-look_for_room.fault) m c.look_for_room.new.seat.me) begun.ensures.call.1
    (run_unmet coded meaning z begun.result m c.args.seat.now.me begun.new.seat.me begun.ensures.call.0 begun.ensures.stays known c.find_send_era.new.seat.me c.find_send_era.ensures.alone c.in_default.ensures.live.0
    c.in-Err-look_for_room.fault found.0 found.1 c.look_for_room.new.seat.me c.look_for_room.ensures.alone found.2 found.3)

pub returns-clause-run : goal.returns-clause-run
returns-clause-run g c = λ m known.
    let coded = g.row.D.coded in let meaning = g.D.Desk.meaning in let z = c.args.self.now.sizes in let begun = c.send_begun-call in
    subst (λ (w : CallerId). HasSent coded meaning z w (Ok begun.result.accepted) m c.publish_message.new.seat.me) begun.ensures.call.1
    (run_sent coded meaning z begun.result m c.args.seat.now.me begun.new.seat.me begun.ensures.call.0 begun.ensures.stays known c.find_send_era.new.seat.me c.find_send_era.ensures.alone c.in_default.ensures.live.0
    c.take_free.result c.args.message.now begun.ensures.call.2 c.take_free.ensures.out.0 c.look_for_room.new.seat.me c.take_free.new.seat.me c.store_message.new.seat.me c.publish_message.new.seat.me
    c.look_for_room.ensures.alone c.in_default-look_for_room.ensures.room.0 c.take_free.ensures.alone c.take_free.ensures.out.1 c.store_message.ensures.alone c.store_message.ensures.stored c.publish_message.ensures.alone c.publish_message.ensures.published)
