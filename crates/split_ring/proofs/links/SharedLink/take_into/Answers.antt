use Rattle.split_ring.proofs.TakeWalks.{take_seen, in_hand}
use Rattle.std.proofs.Common.{refl}
use Rattle.split_ring.proofs.Focusing.{alone_leaves, caller_alone, caller_seat, caller_there, caller_again, both_alone}
use Rattle.split_ring.specs.Receives.{took, IsTake}
use Rattle.split_ring.proofs.links.SharedLink.take_into.Goals as goal

pub take_in-requires-clause-seat : goal.take_in-requires-clause-seat
take_in-requires-clause-seat g c = let q = c.requires in caller_seat c.args.self.now.table.shared.table_id c.args.self.now.sizes c.args.caller.now.id c.args.caller.now.seat.table_id c.args.caller.now.seat.me q

pub take_in-requires-clause-caller : goal.take_in-requires-clause-caller
take_in-requires-clause-caller g c = let q = c.requires in caller_there c.args.self.now.table.shared.table_id c.args.self.now.sizes c.args.caller.now.id c.args.caller.now.seat.table_id c.args.caller.now.seat.me q

pub returns-clause-caller : goal.returns-clause-caller
returns-clause-caller g c =
    let table = c.args.self.now.table.shared.table_id in let z = c.args.self.now.sizes in let who = c.args.caller.now.id in let q = c.requires in let a = c.args.caller.now.seat.me in let b = c.take_in.new.seat.me in
    (refl, caller_again table z who c.take_in.new.seat.table_id b c.take_in.ensures.seat (alone_leaves who.number a b c.take_in.ensures.leaves (caller_alone table z who c.args.caller.now.seat.table_id a q)) q.low c.take_in.ensures.rests)

pub returns-clause-walk : goal.returns-clause-walk
returns-clause-walk g c =
    let who = c.args.caller.now.id in let a = c.args.caller.now.seat.me in let b = c.take_in.new.seat.me in let was = caller_alone c.args.self.now.table.shared.table_id c.args.self.now.sizes who c.args.caller.now.seat.table_id a c.requires in
    both_alone who.number a b (λ s t. IsTake g.row.D.coded g.D.Desk.meaning who (took who c.take_in.new.message c.take_in.result) s t) was (alone_leaves who.number a b c.take_in.ensures.leaves was) c.take_in.ensures.walk

pub returns-clause-seen : goal.returns-clause-seen
returns-clause-seen g c =
    let who = c.args.caller.now.id in let a = c.args.caller.now.seat.me in let b = c.take_in.new.seat.me in let was = caller_alone c.args.self.now.table.shared.table_id c.args.self.now.sizes who c.args.caller.now.seat.table_id a c.requires in
    take_seen g.row.D.coded g.D.Desk.meaning who (took who c.take_in.new.message c.take_in.result) a b (both_alone who.number a b (λ s t. IsTake g.row.D.coded g.D.Desk.meaning who (took who c.take_in.new.message c.take_in.result) s t) was (alone_leaves who.number a b c.take_in.ensures.leaves was) c.take_in.ensures.walk)

pub returns-clause-held : goal.returns-clause-held
returns-clause-held g c =
    let who = c.args.caller.now.id in let a = c.args.caller.now.seat.me in let b = c.take_in.new.seat.me in let was = caller_alone c.args.self.now.table.shared.table_id c.args.self.now.sizes who c.args.caller.now.seat.table_id a c.requires in
    in_hand g.row.D.coded g.D.Desk.meaning who (took who c.take_in.new.message c.take_in.result) a b (both_alone who.number a b (λ s t. IsTake g.row.D.coded g.D.Desk.meaning who (took who c.take_in.new.message c.take_in.result) s t) was (alone_leaves who.number a b c.take_in.ensures.leaves was) c.take_in.ensures.walk)
