use Rattle.std.proofs.Common.{List, All, sym, ap, ◌∙◌, subst}
use Rattle.std.proofs.lemmas.List.Elements.{All-push}
use Rattle.split_ring.specs.Callers.{IsCallerOf}
use Rattle.link_threads.specs.declared.workers.Worker.{Worker}
use Rattle.link_threads.proofs.workers.workers.Goals as goal
use Rattle.link_threads.proofs.workers.workers.Goals.{in-Some+in_ok-with_capacity+in_ok-with_capacity-2+in_ok-push, in_default}

pub loop-number-preserved : goal.loop-number-preserved
loop-number-preserved c = (
  c.caller.ensures.manager,
  elim c.match-caller.branch [
    | in-Some+in_ok-with_capacity+in_ok-with_capacity-2+in_ok-push w ↦
        subst (λ (l : List Worker). All (λ worker. IsCallerOf c.args.link.now worker.caller) l) (sym w.in_ok-push.ensures.items ∙ sym (ap (λ (v : _). v.items) w.jobs-is))
        (All-push (λ (worker : Worker). IsCallerOf c.args.link.now worker.caller) c.loop-number.jobs.items _ c.loop-number.invariant.1 w.in-Some.ensures.some.3)
    | in_default w ↦ subst (λ (l : List Worker). All (λ worker. IsCallerOf c.args.link.now worker.caller) l) (sym (ap (λ (v : _). v.items) w.jobs-is)) c.loop-number.invariant.1
  ],
)
