use Rattle.std.proofs.Common.{List, All, sym, ap, ◌∙◌, subst}
use Rattle.std.proofs.lemmas.List.Elements.{All-push}
use Rattle.split_ring.specs.Callers.{IsCallerOf}
use Rattle.link_threads.specs.declared.turns.Actor.{Actor}
use Rattle.link_threads.proofs.turns.actors.Goals as goal
use Rattle.link_threads.proofs.turns.actors.Goals.{in-Some+in_ok-lines+in_ok-push, in_default}

pub loop-preserved : goal.loop-preserved
loop-preserved c = (
  c.caller.ensures.manager,
  elim c.match-caller.branch [
    | in-Some+in_ok-lines+in_ok-push w ↦
        subst (λ (l : List Actor). All (λ actor. IsCallerOf c.args.link.now actor.caller) l) (sym w.in_ok-push.ensures.items ∙ sym (ap (λ (v : _). v.items) w.actors-is))
        (All-push (λ (actor : Actor). IsCallerOf c.args.link.now actor.caller) c.loop.actors.items _ c.loop.invariant.1 w.in-Some.ensures.some.3)
    | in_default w ↦ subst (λ (l : List Actor). All (λ actor. IsCallerOf c.args.link.now actor.caller) l) (sym (ap (λ (v : _). v.items) w.actors-is)) c.loop.invariant.1
  ],
)
