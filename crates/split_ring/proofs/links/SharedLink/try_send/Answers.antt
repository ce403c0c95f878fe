use Rattle.split_ring.proofs.SendWalks.{send_seen}
use Rattle.std.proofs.Common.{refl}
use Rattle.split_ring.proofs.Focusing.{alone_leaves, caller_alone, caller_seat, caller_there, caller_again, both_alone}
use Rattle.split_ring.specs.Sends.{IsSend}
use Rattle.split_ring.proofs.links.SharedLink.try_send.Goals as goal

pub send_in-requires-clause-seat : goal.send_in-requires-clause-seat
send_in-requires-clause-seat g c = let q = c.requires in caller_seat c.args.self.now.table.shared.table_id c.args.self.now.sizes c.args.caller.now.id c.args.caller.now.seat.table_id c.args.caller.now.seat.me q

pub send_in-requires-clause-caller : goal.send_in-requires-clause-caller
send_in-requires-clause-caller g c = let q = c.requires in caller_there c.args.self.now.table.shared.table_id c.args.self.now.sizes c.args.caller.now.id c.args.caller.now.seat.table_id c.args.caller.now.seat.me q

pub returns-clause-caller : goal.returns-clause-caller
returns-clause-caller g c =
    let table = c.args.self.now.table.shared.table_id in let z = c.args.self.now.sizes in let who = c.args.caller.now.id in let q = c.requires in let a = c.args.caller.now.seat.me in let b = c.send_in.new.seat.me in
    (refl, caller_again table z who c.send_in.new.seat.table_id b c.send_in.ensures.seat (alone_leaves who.number a b c.send_in.ensures.leaves (caller_alone table z who c.args.caller.now.seat.table_id a q)) q.low c.send_in.ensures.rests)

pub returns-clause-walk : goal.returns-clause-walk
returns-clause-walk g c =
    let z = c.args.self.now.sizes in let who = c.args.caller.now.id in let a = c.args.caller.now.seat.me in let b = c.send_in.new.seat.me in
    let alone = caller_alone c.args.self.now.table.shared.table_id z who c.args.caller.now.seat.table_id a c.requires in
    both_alone who.number a b (λ s t. IsSend g.row.D.coded g.D.Desk.meaning z who c.args.message.now c.send_in.result s t) alone (alone_leaves who.number a b c.send_in.ensures.leaves alone) c.send_in.ensures.walk

pub returns-clause-seen : goal.returns-clause-seen
returns-clause-seen g c = send_seen g.row.D.coded g.D.Desk.meaning c.args.self.now.sizes c.args.caller.now.id c.args.message.now c.send_in.result c.args.caller.now.seat.me c.send_in.new.seat.me (returns-clause-walk g c)
