use Rattle.std.proofs.Common.{refl, subst}
use Rattle.lane_model.specs.declared.calls.Wish.TheVariants as wish
use Rattle.split_ring.specs.declared.callers.CallerId.{CallerId}
use Rattle.split_ring.specs.declared.callers.Manager.{Manager}
use Rattle.split_ring.specs.Calls.{take_answer}
use Rattle.split_ring.specs.ManagerCalls.{CallsState}
use Rattle.split_ring.specs.Receives.{took}
use Rattle.split_ring.proofs.CarriedLinks.{caller_id, carried_is}
use Rattle.split_ring.proofs.Runs.{idle_caller, idle_seat}
use Rattle.split_ring.proofs.WholeCalls.{HasCalled, called_caller, called_manager, called_others, called_state, carried_idle}
use Rattle.split_ring.proofs.links.SharedLink.take_by.Goals as goal

pub carried_id-who-requires : goal.carried_id-who-requires
carried_id-who-requires g c = let q = c.requires.caller in (q.0, q.1.user)

pub take_in-requires-clause-seat : goal.take_in-requires-clause-seat
take_in-requires-clause-seat g c =
    let link = c.args.self.now in let before = c.args.manager.now in let who = c.carried_id-who.result in let q = c.requires.caller in
    let carries = carried_idle link before c.args.caller c.args.inc who c.carried_id-who.ensures q.0 q.1 in
    idle_seat link who before c.requires.manager carries

pub take_in-requires-clause-caller : goal.take_in-requires-clause-caller
take_in-requires-clause-caller g c =
    let link = c.args.self.now in let before = c.args.manager.now in let who = c.carried_id-who.result in let q = c.requires.caller in
    let carries = carried_idle link before c.args.caller c.args.inc who c.carried_id-who.ensures q.0 q.1 in
    idle_caller link who before c.requires.manager carries

pub returns-clause-manager : goal.returns-clause-manager
returns-clause-manager g c =
    let link = c.args.self.now in let before = c.args.manager.now in let who = c.carried_id-who.result in let q = c.requires.caller in
    let carries = carried_idle link before c.args.caller c.args.inc who c.carried_id-who.ensures q.0 q.1 in
    let after : Manager = record { seat = c.take_in.new.seat; users = before.users; out = before.out } in
    let h : HasCalled link before after who = record { carrier = c.requires.manager; carries = carries; leaves = c.take_in.ensures.leaves; seat = c.take_in.ensures.seat; rests = c.take_in.ensures.rests; out = refl; users = refl } in
    (called_manager link before after who h, refl)

pub returns-clause-caller : goal.returns-clause-caller
returns-clause-caller g c = λ end user.
    let link = c.args.self.now in let before = c.args.manager.now in let who = c.carried_id-who.result in let q = c.requires.caller in
    let carries = carried_idle link before c.args.caller c.args.inc who c.carried_id-who.ensures q.0 q.1 in
    let after : Manager = record { seat = c.take_in.new.seat; users = before.users; out = before.out } in
    let h : HasCalled link before after who = record { carrier = c.requires.manager; carries = carries; leaves = c.take_in.ensures.leaves; seat = c.take_in.ensures.seat; rests = c.take_in.ensures.rests; out = refl; users = refl } in
    called_caller link before after who h c.args.caller c.args.inc c.carried_id-who.ensures end user

pub returns-clause-others : goal.returns-clause-others
returns-clause-others g c = λ other p apart.
    let link = c.args.self.now in let before = c.args.manager.now in let who = c.carried_id-who.result in let q = c.requires.caller in
    let carries = carried_idle link before c.args.caller c.args.inc who c.carried_id-who.ensures q.0 q.1 in
    let after : Manager = record { seat = c.take_in.new.seat; users = before.users; out = before.out } in
    let h : HasCalled link before after who = record { carrier = c.requires.manager; carries = carries; leaves = c.take_in.ensures.leaves; seat = c.take_in.ensures.seat; rests = c.take_in.ensures.rests; out = refl; users = refl } in
    called_others link before after who h c.args.caller other p c.carried_id-who.ensures.0 apart

pub returns-clause-state : goal.returns-clause-state
returns-clause-state g c = λ end user m known.
    let link = c.args.self.now in let before = c.args.manager.now in let who = c.carried_id-who.result in let q = c.requires.caller in
    let carries = carried_idle link before c.args.caller c.args.inc who c.carried_id-who.ensures q.0 q.1 in
    let after : Manager = record { seat = c.take_in.new.seat; users = before.users; out = before.out } in
    let h : HasCalled link before after who = record { carrier = c.requires.manager; carries = carries; leaves = c.take_in.ensures.leaves; seat = c.take_in.ensures.seat; rests = c.take_in.ensures.rests; out = refl; users = refl } in
    let run = c.take_in.ensures.run m known.known in
    let coded = g.row.D.coded in let meaning = g.D.Desk.meaning in let read = c.take_in.new.message in let answer = c.take_in.result in (
      run.0,
      run.1,
      subst (λ (w : CallerId). CallsState coded meaning m (caller_id c.args.caller end c.args.inc) wish.Take run.0 (take_answer (took w read answer)) after) (carried_is before c.args.caller c.args.inc who c.carried_id-who.ensures end user)
          (called_state link before after who h c.args.caller c.args.inc c.carried_id-who.ensures end user coded meaning m wish.Take run.0 (take_answer (took who read answer)) known run.2),
    )
