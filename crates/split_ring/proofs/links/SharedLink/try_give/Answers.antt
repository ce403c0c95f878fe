use Rattle.split_ring.proofs.GiveSteps.{give_seen, held_yet}
use Rattle.std.proofs.Common.{refl, sym, subst}
use Rattle.split_ring.proofs.Focusing.{alone_leaves, alone_same, caller_alone, caller_seat, caller_there, caller_again, both_alone}
use Rattle.link_words.specs.Calls.{SeatState}
use Rattle.std.specs.Prelude.{Ok, Err}
use Rattle.split_ring.specs.Receives.{IsGive, IsHeldBy}
use Rattle.split_ring.proofs.links.SharedLink.try_give.Goals as goal

pub give_in-requires-clause-seat : goal.give_in-requires-clause-seat
give_in-requires-clause-seat g c = let q = c.requires.caller in caller_seat c.args.self.now.table.shared.table_id c.args.self.now.sizes c.args.caller.now.id c.args.caller.now.seat.table_id c.args.caller.now.seat.me q

pub give_in-requires-clause-caller : goal.give_in-requires-clause-caller
give_in-requires-clause-caller g c = let q = c.requires.caller in caller_there c.args.self.now.table.shared.table_id c.args.self.now.sizes c.args.caller.now.id c.args.caller.now.seat.table_id c.args.caller.now.seat.me q

pub give_in-requires-clause-held : goal.give_in-requires-clause-held
give_in-requires-clause-held g c =
    let who = c.args.caller.now.id in let a = c.args.caller.now.seat.me in let was = caller_alone c.args.self.now.table.shared.table_id c.args.self.now.sizes who c.args.caller.now.seat.table_id a c.requires.caller in
    (c.args.held, sym c.number.ensures, subst (λ (s : SeatState). IsHeldBy who c.args.held s) (sym (alone_same who.number a was)) c.requires.held)

pub returns-in-Ok-clause-caller : goal.returns-in-Ok-clause-caller
returns-in-Ok-clause-caller g c =
    let table = c.args.self.now.table.shared.table_id in let z = c.args.self.now.sizes in let who = c.args.caller.now.id in let q = c.requires.caller in let a = c.args.caller.now.seat.me in let b = c.give_in.new.seat.me in
    (refl, caller_again table z who c.give_in.new.seat.table_id b c.give_in.ensures.seat (alone_leaves who.number a b c.give_in.ensures.leaves (caller_alone table z who c.args.caller.now.seat.table_id a q)) q.low c.give_in.ensures.rests)

pub returns-in-Ok-clause-walk : goal.returns-in-Ok-clause-walk
returns-in-Ok-clause-walk g c =
    let who = c.args.caller.now.id in let held = c.args.held in let a = c.args.caller.now.seat.me in let b = c.give_in.new.seat.me in let was = caller_alone c.args.self.now.table.shared.table_id c.args.self.now.sizes who c.args.caller.now.seat.table_id a c.requires.caller in
    both_alone who.number a b (λ s t. IsGive g.row.D.coded g.D.Desk.meaning who.end held (Ok c.in-Ok.number) s t) was (alone_leaves who.number a b c.give_in.ensures.leaves was) (c.in-Ok.ensures.walk held (sym c.number.ensures))

pub returns-in-Ok-clause-seen : goal.returns-in-Ok-clause-seen
returns-in-Ok-clause-seen g c =
    let who = c.args.caller.now.id in let held = c.args.held in let a = c.args.caller.now.seat.me in let b = c.give_in.new.seat.me in let was = caller_alone c.args.self.now.table.shared.table_id c.args.self.now.sizes who c.args.caller.now.seat.table_id a c.requires.caller in
    give_seen g.row.D.coded g.D.Desk.meaning who.end held (Ok c.in-Ok.number) a b (both_alone who.number a b (λ s t. IsGive g.row.D.coded g.D.Desk.meaning who.end held (Ok c.in-Ok.number) s t) was (alone_leaves who.number a b c.give_in.ensures.leaves was) (c.in-Ok.ensures.walk held (sym c.number.ensures)))

pub returns-in-Err-clause-caller : goal.returns-in-Err-clause-caller
returns-in-Err-clause-caller g c =
    let table = c.args.self.now.table.shared.table_id in let z = c.args.self.now.sizes in let who = c.args.caller.now.id in let q = c.requires.caller in let a = c.args.caller.now.seat.me in let b = c.give_in.new.seat.me in
    (refl, caller_again table z who c.give_in.new.seat.table_id b c.give_in.ensures.seat (alone_leaves who.number a b c.give_in.ensures.leaves (caller_alone table z who c.args.caller.now.seat.table_id a q)) q.low c.give_in.ensures.rests)

pub returns-in-Err-clause-walk : goal.returns-in-Err-clause-walk
returns-in-Err-clause-walk g c =
    let who = c.args.caller.now.id in let held = c.args.held in let a = c.args.caller.now.seat.me in let b = c.give_in.new.seat.me in let was = caller_alone c.args.self.now.table.shared.table_id c.args.self.now.sizes who c.args.caller.now.seat.table_id a c.requires.caller in
    both_alone who.number a b (λ s t. IsGive g.row.D.coded g.D.Desk.meaning who.end held (Err (record { holder = c.in-Err.holder; held = held })) s t) was (alone_leaves who.number a b c.give_in.ensures.leaves was) (c.in-Err.ensures.walk held (sym c.number.ensures))

pub returns-in-Err-clause-held : goal.returns-in-Err-clause-held
returns-in-Err-clause-held g c =
    let who = c.args.caller.now.id in let held = c.args.held in let a = c.args.caller.now.seat.me in let b = c.give_in.new.seat.me in let was = caller_alone c.args.self.now.table.shared.table_id c.args.self.now.sizes who c.args.caller.now.seat.table_id a c.requires.caller in
    held_yet g.row.D.coded g.D.Desk.meaning who held (Err (record { holder = c.in-Err.holder; held = held })) a b (both_alone who.number a b (λ s t. IsGive g.row.D.coded g.D.Desk.meaning who.end held (Err (record { holder = c.in-Err.holder; held = held })) s t) was (alone_leaves who.number a b c.give_in.ensures.leaves was) (c.in-Err.ensures.walk held (sym c.number.ensures))) c.requires.held
