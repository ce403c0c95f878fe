use Rattle.std.proofs.Common.{refl, sym, ◌∙◌, subst, arith}
use Rattle.split_ring.specs.Calls.{IsInPhase}
use Rattle.split_ring.specs.Callers.{own_of}
use Rattle.split_ring.specs.CallPhases.{Phase}
use Rattle.link_threads.proofs.Sends.{begun, ends, goes_on, quiet}
use Rattle.link_threads.proofs.LifeStops.{stopped_out}
use Rattle.link_threads.proofs.users.stop_in_send.Goals as goal

pub loop-step-init : goal.loop-step-init
loop-step-init g c = let q = c.requires.rests in let a = c.args.caller in let z = c.args.link.now.sizes in record {
  id = refl;
  may = record { seat = q.seat; number = q.number; low = q.low; stands = subst (λ (p : Phase). IsInPhase z a.id p a.seat.me) (sym c.begin_call-call.ensures.asked) (q.rests, tt) };
  sends = begun g.row.D.coded g.D.Desk.meaning z a.id c.args.message a.seat.me c.begin_call-call.result.phase c.begin_call-call.ensures.asked;
}

pub loop-step-preserved : goal.loop-step-preserved
loop-step-preserved g c = let a = c.args.caller in let z = c.args.link.now.sizes in record {
  id = c.advance_call.ensures.caller.0 ∙ c.loop-step.invariant.id;
  may = c.in-At.ensures.caller.1;
  sends = goes_on g.row.D.coded g.D.Desk.meaning z a.id c.args.message a.seat.me c.loop-step.step c.in-At.field-0 c.loop-step.caller.id c.loop-step.call.phase c.advance_call.new.call.phase c.loop-step.caller.seat.me c.advance_call.new.caller.seat.me
      c.loop-step.invariant.id c.loop-step.invariant.sends c.in-At.ensures.step;
}

pub returns-in-Done-clause-stopped : goal.returns-in-Done-clause-stopped
returns-in-Done-clause-stopped g c = let a = c.args.caller in let z = c.args.link.now.sizes in
    let end = ends g.row.D.coded g.D.Desk.meaning z a.id c.args.message a.seat.me c.loop-step.step c.in-Done.field-0 c.loop-step.caller.id c.loop-step.call.phase c.advance_call.new.call.phase c.loop-step.caller.seat.me c.advance_call.new.caller.seat.me
    c.loop-step.invariant.id (omega arith) c.loop-step.invariant.sends c.in-Done.ensures.step in
    stopped_out c.args.link.now c.advance_call.new.caller c.in-Done.ensures.caller.1 (end.hands ∙ c.requires.hands)

pub returns-in-Done-clause-unsent : goal.returns-in-Done-clause-unsent
returns-in-Done-clause-unsent g c = let a = c.args.caller in let z = c.args.link.now.sizes in
    let end = ends g.row.D.coded g.D.Desk.meaning z a.id c.args.message a.seat.me c.loop-step.step c.in-Done.field-0 c.loop-step.caller.id c.loop-step.call.phase c.advance_call.new.call.phase c.loop-step.caller.seat.me c.advance_call.new.caller.seat.me
    c.loop-step.invariant.id (omega arith) c.loop-step.invariant.sends c.in-Done.ensures.step in
    λ lane inc. quiet lane inc end.walk (own_of a) (own_of c.advance_call.new.caller) end.own (end.none lane inc)
