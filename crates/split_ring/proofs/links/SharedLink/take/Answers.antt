use Rattle.std.proofs.Common.{◌≡◌, refl, sym, ap, ◌∙◌, subst}
use Rattle.std.specs.Prelude.{Result, IfOk}
use Rattle.split_ring.specs.declared.callers.CallerId.{CallerId}
use Rattle.split_ring.specs.declared.takes.Taken.{Taken}
use Rattle.split_ring.specs.declared.takes.TakeFault.{TakeFault}
use Rattle.split_ring.specs.Callers.{Holds, TakeNotBelow, WaitsToTake}
use Rattle.split_ring.specs.Receives.{took}
use Rattle.split_ring.proofs.Waiting.{none_tried, take_tried, take_waited, take_waited_seen}
use Rattle.split_ring.proofs.links.SharedLink.take.Goals as goal

pub loop-init : goal.loop-init
loop-init g c = ((refl, c.requires), none_tried g.row.D.coded g.D.Desk.meaning c.args.caller.now.seat.me)

pub loop-preserved : goal.loop-preserved
loop-preserved g c = let t = c.take_into-answer in let id = c.loop.caller.id in (
  (t.ensures.caller.0 ∙ c.loop.invariant.0.0, t.ensures.caller.1),
  take_tried g.row.D.coded g.D.Desk.meaning id (took id t.new.message t.result) c.args.caller.now.seat.me c.loop.caller.seat.me t.new.caller.seat.me
      c.loop.invariant.1 t.ensures.walk (sym (c.is_take_busy.ensures id t.new.message) ∙ c.if-not-is_take_busy.false),
)

pub returns-then-not-is_take_busy-clause-walks : goal.returns-then-not-is_take_busy-clause-walks
returns-then-not-is_take_busy-clause-walks g c =
    let t = c.take_into-answer in let id = c.loop.caller.id in let said : c.took.result ≡ took id t.new.message t.result = c.took.ensures ∙ ap (λ (w : CallerId). took w t.new.message t.result) t.ensures.caller.0 in
    subst (λ (r : Result Taken TakeFault). WaitsToTake g.row.D.coded g.D.Desk.meaning c.args.caller.now r t.new.caller) (sym said)
    (take_waited g.row.D.coded g.D.Desk.meaning c.args.caller.now.id id (took id t.new.message t.result) c.args.caller.now.seat.me c.loop.caller.seat.me t.new.caller.seat.me
    c.loop.invariant.0.0 c.loop.invariant.1 t.ensures.walk (sym (c.is_take_busy.ensures id t.new.message) ∙ c.if-not-is_take_busy.true))

pub returns-then-not-is_take_busy-clause-seen : goal.returns-then-not-is_take_busy-clause-seen
returns-then-not-is_take_busy-clause-seen g c =
    let t = c.take_into-answer in let id = c.loop.caller.id in let said : c.took.result ≡ took id t.new.message t.result = c.took.ensures ∙ ap (λ (w : CallerId). took w t.new.message t.result) t.ensures.caller.0 in
    subst (λ (r : Result Taken TakeFault). TakeNotBelow c.args.caller.now r) (sym said)
    (take_waited_seen g.row.D.coded g.D.Desk.meaning c.args.caller.now.id id (took id t.new.message t.result) c.args.caller.now.seat.me c.loop.caller.seat.me
    c.loop.invariant.0.0 c.loop.invariant.1 t.ensures.seen)

pub returns-then-not-is_take_busy-clause-held : goal.returns-then-not-is_take_busy-clause-held
returns-then-not-is_take_busy-clause-held g c =
    let t = c.take_into-answer in let id = c.loop.caller.id in let said : c.took.result ≡ took id t.new.message t.result = c.took.ensures ∙ ap (λ (w : CallerId). took w t.new.message t.result) t.ensures.caller.0 in
    subst (λ (r : Result Taken TakeFault). IfOk r (λ taken. Holds t.new.caller taken.held)) (sym said) t.ensures.held
