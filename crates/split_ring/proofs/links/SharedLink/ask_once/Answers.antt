use Rattle.std.proofs.Common.{sym, subst, refl, ◌+◌, ◌∷◌, []}
use Rattle.std.specs.Prelude.{Result, Err}
use Rattle.rp_base.specs.declared.kinds.Endpoint.{Endpoint}
use Rattle.split_ring.specs.Binds.{IsDeskCall, desk_result}
use Rattle.split_ring.specs.declared.binds.DeskFault.{DeskFault}
use Rattle.lane_model.specs.declared.calls.Wish.{Wish}
use Rattle.link_words.specs.Steps.{IsFit}
use Rattle.split_ring.specs.Seats.{pass_in}
use Rattle.split_ring.specs.Turns.{HasBegun}
use Rattle.split_ring.proofs.BindSteps.{asks_fit, asks_begun, asks_whole}
use Rattle.split_ring.specs.Calls.{call_end, desk_said}
use Rattle.split_ring.proofs.Focusing.{alone_leaves, caller_alone, caller_seat, caller_there, caller_again, both_alone}
use Rattle.split_ring.specs.Focus.{seat_of}
use Rattle.link_words.specs.declared.rule.Event.TheVariants.{Step}
use Rattle.link_words.specs.declared.rule.Made.TheVariants as made
use Rattle.split_ring.specs.declared.binds.DeskFault.TheVariants as fault
use Rattle.split_ring.proofs.links.SharedLink.ask_once.Goals as goal

pub leave-requires-clause-call : goal.leave-requires-clause-call
leave-requires-clause-call g c = (call_end (desk_said c.args.asked (desk_result c.ask_desk-answer.result)), c.ask_desk-answer.ensures.left)

pub enter-requires-clause-seat : goal.enter-requires-clause-seat
enter-requires-clause-seat g c = let q = c.requires in caller_seat c.args.self.now.table.shared.table_id c.args.self.now.sizes c.args.caller.now.id c.args.caller.now.seat.table_id c.args.caller.now.seat.me q

pub enter-requires-clause-caller : goal.enter-requires-clause-caller
enter-requires-clause-caller g c = let q = c.requires in caller_there c.args.self.now.table.shared.table_id c.args.self.now.sizes c.args.caller.now.id c.args.caller.now.seat.table_id c.args.caller.now.seat.me q

pub returns-in-Err-clause-caller : goal.returns-in-Err-clause-caller
returns-in-Err-clause-caller g c =
    let table = c.args.self.now.table.shared.table_id in let z = c.args.self.now.sizes in let who = c.args.caller.now.id in let n = who.number in let q = c.requires in let a = c.args.caller.now.seat.me in
    (refl, caller_again table z who c.enter.new.seat.table_id c.enter.new.seat.me c.enter.ensures.seat (alone_leaves n a c.enter.new.seat.me c.enter.ensures.alone.leaves (caller_alone table z who c.args.caller.now.seat.table_id a q)) q.low c.in-Err.ensures.busy.0)

pub returns-clause-caller : goal.returns-clause-caller
returns-clause-caller g c =
    let table = c.args.self.now.table.shared.table_id in let z = c.args.self.now.sizes in let who = c.args.caller.now.id in let n = who.number in let q = c.requires in let a = c.args.caller.now.seat.me in
    (refl, caller_again table z who c.leave.new.seat.table_id c.leave.new.seat.me c.leave.ensures.seat (alone_leaves n c.ask_desk-answer.new.seat.me c.leave.new.seat.me c.leave.ensures.alone.leaves (alone_leaves n c.enter.new.seat.me c.ask_desk-answer.new.seat.me c.ask_desk-answer.ensures.alone.leaves (alone_leaves n a c.enter.new.seat.me c.enter.ensures.alone.leaves (caller_alone table z who c.args.caller.now.seat.table_id a q)))) q.low c.leave.ensures.left.0)

pub returns-clause-walk : goal.returns-clause-walk
returns-clause-walk g c =
    let table = c.args.self.now.table.shared.table_id in let z = c.args.self.now.sizes in let who = c.args.caller.now.id in let n = who.number in let q = c.requires in let a = c.args.caller.now.seat.me in
    let coded = g.row.D.coded in let meaning = g.D.Desk.meaning in
    subst (λ (r : Result Endpoint DeskFault). IsDeskCall coded meaning z.desks who c.args.asked r a c.leave.new.seat.me) (sym c.desk_result.ensures)
    (both_alone n a c.leave.new.seat.me (λ s t. IsDeskCall coded meaning z.desks who c.args.asked (desk_result c.ask_desk-answer.result) s t) (caller_alone table z who c.args.caller.now.seat.table_id a q) (alone_leaves n c.ask_desk-answer.new.seat.me c.leave.new.seat.me c.leave.ensures.alone.leaves (alone_leaves n c.enter.new.seat.me c.ask_desk-answer.new.seat.me c.ask_desk-answer.ensures.alone.leaves (alone_leaves n a c.enter.new.seat.me c.enter.ensures.alone.leaves (caller_alone table z who c.args.caller.now.seat.table_id a q)))) (asks_whole coded meaning z.desks who c.args.asked c.ask_desk-answer.result (seat_of n a) (seat_of n c.enter.new.seat.me) (seat_of n c.ask_desk-answer.new.seat.me) (seat_of n c.leave.new.seat.me) c.in_default.ensures.entered.1 c.ask_desk-answer.ensures.answered c.ask_desk-answer.ensures.dead c.leave.ensures.left.1))

pub enter-requires-clause-fit : goal.enter-requires-clause-fit
enter-requires-clause-fit g c = let hands = (pass_in (seat_of c.args.caller.now.id.number c.args.caller.now.seat.me)).hands in subst (λ (w : Wish). IsFit w hands) (sym c.desk_wish.ensures) (asks_fit c.args.asked hands)

pub ask_desk-answer-requires-clause-turn : goal.ask_desk-answer-requires-clause-turn
ask_desk-answer-requires-clause-turn g c = let who = c.args.caller.now.id in let e = seat_of who.number c.enter.new.seat.me in asks_begun who c.args.asked e (subst (λ (w : Wish). HasBegun who w e) c.desk_wish.ensures c.in_default.ensures.entered.0)

pub returns-in-Err-clause-walk : goal.returns-in-Err-clause-walk
returns-in-Err-clause-walk g c =
    let table = c.args.self.now.table.shared.table_id in let z = c.args.self.now.sizes in let who = c.args.caller.now.id in let n = who.number in let q = c.requires in let a = c.args.caller.now.seat.me in
    let coded = g.row.D.coded in let meaning = g.D.Desk.meaning in
    both_alone n a c.enter.new.seat.me (λ s t. IsDeskCall coded meaning z.desks who c.args.asked (Err (fault.Busy c.in-Err.holder)) s t) (caller_alone table z who c.args.caller.now.seat.table_id a q) (alone_leaves n a c.enter.new.seat.me c.enter.ensures.alone.leaves (caller_alone table z who c.args.caller.now.seat.table_id a q)) (record { walk = Step (made.Turn (c.in-Err.holder + 1)) ∷ []; is = refl; done = c.in-Err.ensures.busy.1; said = tt })
