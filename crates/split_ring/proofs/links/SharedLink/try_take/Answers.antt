use Rattle.std.proofs.Common.{◌≡◌, ap, sym, ◌∙◌, subst}
use Rattle.std.specs.Prelude.{Result, IfOk}
use Rattle.split_ring.specs.declared.callers.CallerId.{CallerId}
use Rattle.split_ring.specs.declared.takes.Taken.{Taken}
use Rattle.split_ring.specs.declared.takes.TakeFault.{TakeFault}
use Rattle.split_ring.specs.Callers.{Holds, MakesTake, TakeNotBelow}
use Rattle.split_ring.specs.Receives.{took}
use Rattle.split_ring.proofs.links.SharedLink.try_take.Goals as goal

pub returns-clause-caller : goal.returns-clause-caller
returns-clause-caller g c = c.take_into-answer.ensures.caller

pub returns-clause-walk : goal.returns-clause-walk
returns-clause-walk g c =
    let t = c.take_into-answer in let said : c.took.result ≡ took c.args.caller.now.id t.new.message t.result = c.took.ensures ∙ ap (λ (w : CallerId). took w t.new.message t.result) t.ensures.caller.0 in
    subst (λ (r : Result Taken TakeFault). MakesTake g.row.D.coded g.D.Desk.meaning c.args.caller.now r t.new.caller) (sym said) t.ensures.walk

pub returns-clause-seen : goal.returns-clause-seen
returns-clause-seen g c =
    let t = c.take_into-answer in let said : c.took.result ≡ took c.args.caller.now.id t.new.message t.result = c.took.ensures ∙ ap (λ (w : CallerId). took w t.new.message t.result) t.ensures.caller.0 in
    subst (λ (r : Result Taken TakeFault). TakeNotBelow c.args.caller.now r) (sym said) t.ensures.seen

pub returns-clause-held : goal.returns-clause-held
returns-clause-held g c =
    let t = c.take_into-answer in let said : c.took.result ≡ took c.args.caller.now.id t.new.message t.result = c.took.ensures ∙ ap (λ (w : CallerId). took w t.new.message t.result) t.ensures.caller.0 in
    subst (λ (r : Result Taken TakeFault). IfOk r (λ taken. Holds t.new.caller taken.held)) (sym said) t.ensures.held
