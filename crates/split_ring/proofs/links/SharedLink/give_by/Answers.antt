use Rattle.std.proofs.Common.{refl}
use Rattle.lane_model.specs.declared.calls.Wish.TheVariants as wish
use Rattle.split_ring.specs.declared.callers.Manager.{Manager}
use Rattle.split_ring.specs.Calls.{give_answer}
use Rattle.split_ring.specs.Receives.{given_of}
use Rattle.split_ring.proofs.Runs.{idle_caller, idle_seat}
use Rattle.split_ring.proofs.WholeCalls.{HasCalled, called_caller, called_manager, called_others, called_state, carried_held, carried_idle}
use Rattle.split_ring.proofs.links.SharedLink.give_by.Goals as goal

pub carried_id-who-requires : goal.carried_id-who-requires
carried_id-who-requires g c = let q = c.requires.caller in (q.0, q.3.0.user)

pub give_in-requires-clause-seat : goal.give_in-requires-clause-seat
give_in-requires-clause-seat g c =
    let link = c.args.self.now in let before = c.args.manager.now in let who = c.carried_id-who.result in let q = c.requires.caller in
    let carries = carried_idle link before c.args.caller c.args.inc who c.carried_id-who.ensures q.0 q.3.0 in
    idle_seat link who before c.requires.manager carries

pub give_in-requires-clause-caller : goal.give_in-requires-clause-caller
give_in-requires-clause-caller g c =
    let link = c.args.self.now in let before = c.args.manager.now in let who = c.carried_id-who.result in let q = c.requires.caller in
    let carries = carried_idle link before c.args.caller c.args.inc who c.carried_id-who.ensures q.0 q.3.0 in
    idle_caller link who before c.requires.manager carries

pub give_in-requires-clause-held : goal.give_in-requires-clause-held
give_in-requires-clause-held g c = let q = c.requires.caller in (q.1, q.2, carried_held c.args.manager.now c.args.caller c.args.inc c.carried_id-who.result c.carried_id-who.ensures q.1 q.0 q.3.0.user q.3.1)

pub returns-clause-manager : goal.returns-clause-manager
returns-clause-manager g c =
    let link = c.args.self.now in let before = c.args.manager.now in let who = c.carried_id-who.result in let q = c.requires.caller in
    let carries = carried_idle link before c.args.caller c.args.inc who c.carried_id-who.ensures q.0 q.3.0 in
    let after : Manager = record { seat = c.give_in.new.seat; users = before.users; out = before.out } in
    let h : HasCalled link before after who = record { carrier = c.requires.manager; carries = carries; leaves = c.give_in.ensures.leaves; seat = c.give_in.ensures.seat; rests = c.give_in.ensures.rests; out = refl; users = refl } in
    (called_manager link before after who h, refl)

pub returns-clause-caller : goal.returns-clause-caller
returns-clause-caller g c = λ end user.
    let link = c.args.self.now in let before = c.args.manager.now in let who = c.carried_id-who.result in let q = c.requires.caller in
    let carries = carried_idle link before c.args.caller c.args.inc who c.carried_id-who.ensures q.0 q.3.0 in
    let after : Manager = record { seat = c.give_in.new.seat; users = before.users; out = before.out } in
    let h : HasCalled link before after who = record { carrier = c.requires.manager; carries = carries; leaves = c.give_in.ensures.leaves; seat = c.give_in.ensures.seat; rests = c.give_in.ensures.rests; out = refl; users = refl } in
    called_caller link before after who h c.args.caller c.args.inc c.carried_id-who.ensures end user

pub returns-clause-others : goal.returns-clause-others
returns-clause-others g c = λ other p apart.
    let link = c.args.self.now in let before = c.args.manager.now in let who = c.carried_id-who.result in let q = c.requires.caller in
    let carries = carried_idle link before c.args.caller c.args.inc who c.carried_id-who.ensures q.0 q.3.0 in
    let after : Manager = record { seat = c.give_in.new.seat; users = before.users; out = before.out } in
    let h : HasCalled link before after who = record { carrier = c.requires.manager; carries = carries; leaves = c.give_in.ensures.leaves; seat = c.give_in.ensures.seat; rests = c.give_in.ensures.rests; out = refl; users = refl } in
    called_others link before after who h c.args.caller other p c.carried_id-who.ensures.0 apart

pub returns-clause-state : goal.returns-clause-state
returns-clause-state g c = λ held same end user m known.
    let link = c.args.self.now in let before = c.args.manager.now in let who = c.carried_id-who.result in let q = c.requires.caller in
    let carries = carried_idle link before c.args.caller c.args.inc who c.carried_id-who.ensures q.0 q.3.0 in
    let after : Manager = record { seat = c.give_in.new.seat; users = before.users; out = before.out } in
    let h : HasCalled link before after who = record { carrier = c.requires.manager; carries = carries; leaves = c.give_in.ensures.leaves; seat = c.give_in.ensures.seat; rests = c.give_in.ensures.rests; out = refl; users = refl } in
    let run = c.give_in.ensures.run held same m known.known in
    (run.0, run.1, called_state link before after who h c.args.caller c.args.inc c.carried_id-who.ensures end user g.row.D.coded g.D.Desk.meaning m (wish.Give held.number) run.0 (give_answer (given_of held c.give_in.result)) known run.2)
