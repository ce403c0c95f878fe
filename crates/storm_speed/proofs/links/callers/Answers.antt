use Rattle.std.proofs.Common.{List, All, sym, ap, ◌∙◌, subst}
use Rattle.std.proofs.lemmas.List.Elements.{All-push}
use Rattle.split_ring.specs.declared.callers.Caller.{Caller}
use Rattle.split_ring.specs.Callers.{IsCallerOf}
use Rattle.storm_speed.proofs.links.callers.Goals as goal
use Rattle.storm_speed.proofs.links.callers.Goals.{in-Some+in_ok-push, in_default}

pub loop-place-preserved : goal.loop-place-preserved
loop-place-preserved c =
    let one : Caller → Type 0 = λ caller. IsCallerOf c.args.link.now caller in
    record {
      manager = c.caller.ensures.manager;
      callers = elim c.match-caller.branch [
        | in-Some+in_ok-push w ↦
            subst (λ (l : List Caller). All one l) (sym w.in_ok-push.ensures.items ∙ sym (ap (λ (v : _). v.items) w.callers-is))
            (All-push one c.loop-place.callers.items _ c.loop-place.invariant.callers w.in-Some.ensures.some.3)
        | in_default w ↦ subst (λ (l : List Caller). All one l) (sym (ap (λ (v : _). v.items) w.callers-is)) c.loop-place.invariant.callers
      ];
    }

pub returns : goal.returns
returns c = c.loop-place.invariant.callers
