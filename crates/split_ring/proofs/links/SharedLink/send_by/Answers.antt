use Rattle.std.proofs.Common.{refl, arith}
use Rattle.lane_model.specs.declared.calls.Wish.TheVariants as wish
use Rattle.split_ring.specs.declared.callers.Manager.{Manager}
use Rattle.split_ring.specs.Calls.{send_answer}
use Rattle.split_ring.specs.Runs.{send_behind}
use Rattle.split_ring.proofs.Runs.{idle_caller}
use Rattle.split_ring.proofs.WholeCalls.{HasCalled, called_caller, called_manager, called_others, called_state, carried_idle}
use Rattle.split_ring.proofs.links.SharedLink.send_by.Goals as goal

pub send_in-answer-requires-clause-caller : goal.send_in-answer-requires-clause-caller
send_in-answer-requires-clause-caller g c =
    let link = c.args.self.now in let before = c.args.manager.now in let id = c.carried_id-who in let q = c.requires.caller in
    idle_caller link id.result before c.requires.manager (carried_idle link before c.args.caller c.args.inc id.result id.ensures q.0 q.1)

pub returns-clause-manager : goal.returns-clause-manager
returns-clause-manager g c =
    let link = c.args.self.now in let before = c.args.manager.now in let id = c.carried_id-who in let q = c.requires.caller in let s = c.send_in-answer in let after : Manager = record { seat = s.new.seat; users = before.users; out = before.out } in
    let carries = carried_idle link before c.args.caller c.args.inc id.result id.ensures q.0 q.1 in
    let h : HasCalled link before after id.result = record { carrier = c.requires.manager; carries = carries; leaves = s.ensures.leaves; seat = s.ensures.seat; rests = s.ensures.rests; out = refl; users = refl } in
    (called_manager link before after id.result h, refl)

pub returns-clause-caller : goal.returns-clause-caller
returns-clause-caller g c = λ end user.
    let link = c.args.self.now in let before = c.args.manager.now in let id = c.carried_id-who in let q = c.requires.caller in let s = c.send_in-answer in let after : Manager = record { seat = s.new.seat; users = before.users; out = before.out } in
    let carries = carried_idle link before c.args.caller c.args.inc id.result id.ensures q.0 q.1 in
    let h : HasCalled link before after id.result = record { carrier = c.requires.manager; carries = carries; leaves = s.ensures.leaves; seat = s.ensures.seat; rests = s.ensures.rests; out = refl; users = refl } in
    called_caller link before after id.result h c.args.caller c.args.inc id.ensures end user

pub returns-clause-others : goal.returns-clause-others
returns-clause-others g c = λ other p apart.
    let link = c.args.self.now in let before = c.args.manager.now in let id = c.carried_id-who in let q = c.requires.caller in let s = c.send_in-answer in let after : Manager = record { seat = s.new.seat; users = before.users; out = before.out } in
    let carries = carried_idle link before c.args.caller c.args.inc id.result id.ensures q.0 q.1 in
    let h : HasCalled link before after id.result = record { carrier = c.requires.manager; carries = carries; leaves = s.ensures.leaves; seat = s.ensures.seat; rests = s.ensures.rests; out = refl; users = refl } in
    called_others link before after id.result h c.args.caller other p id.ensures.0 apart

pub returns-clause-state : goal.returns-clause-state
returns-clause-state g c = λ end user m known.
    let link = c.args.self.now in let before = c.args.manager.now in let id = c.carried_id-who in let q = c.requires.caller in let s = c.send_in-answer in let after : Manager = record { seat = s.new.seat; users = before.users; out = before.out } in
    let carries = carried_idle link before c.args.caller c.args.inc id.result id.ensures q.0 q.1 in
    let h : HasCalled link before after id.result = record { carrier = c.requires.manager; carries = carries; leaves = s.ensures.leaves; seat = s.ensures.seat; rests = s.ensures.rests; out = refl; users = refl } in
    let behind = send_behind s.result in let count = c.send_steps.ensures.steps in
    (behind, omega (arith, count), called_state link before after id.result h c.args.caller c.args.inc id.ensures end user g.row.D.coded g.D.Desk.meaning m (wish.Send c.args.message.now) behind (send_answer s.result) known (s.ensures.run m known.known))
