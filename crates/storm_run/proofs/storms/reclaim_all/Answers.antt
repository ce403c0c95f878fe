use Rattle.std.proofs.Common.{◌≡◌, ◌<◌, ◌∙◌, ℕ, length, get_or, sym, subst}
use Rattle.std.proofs.lemmas.Iterator.Adapters.{YieldsList-from_vec}
use Rattle.std.proofs.lemmas.Iterator.Consumers.{YieldsList-turn}
use Rattle.std.proofs.lemmas.List.{length_push}
use Rattle.storm_run.specs.Managers.{HasReclaimed}
use Rattle.storm_run.proofs.Reclaimed.{at_place, reclaimed_one}
use Rattle.storm_run.proofs.storms.reclaim_all.Goals as goal

pub reclaim_free-requires-clause-free : goal.reclaim_free-requires-clause-free
reclaim_free-requires-clause-free c =
    let h = c.into_iter-caller-iterator.ensures.into_iter_gives in
    let taken : (length c.loop-caller.yielded < length c.args.callers.items) × (c.in-Some.caller ≡ get_or c.args.callers.items (length c.loop-caller.yielded) c.in-Some.caller) =
    YieldsList-turn (YieldsList-from_vec c.args.callers.items h.0 (h.1 ∙ c.args.callers.ok.0)) c.loop-caller.yielded c.loop-caller.caller-iterator c.loop-caller.yielded_by c.next.result c.next.new.self c.in-Some.caller c.in-Some.is c.next.ensures.steps in
    (at_place c.args.link.now c.args.callers.items (length c.loop-caller.yielded) c.in-Some.caller c.requires.callers taken).0

pub loop-caller-preserved : goal.loop-caller-preserved
loop-caller-preserved c =
    let h = c.into_iter-caller-iterator.ensures.into_iter_gives in
    let taken : (length c.loop-caller.yielded < length c.args.callers.items) × (c.in-Some.caller ≡ get_or c.args.callers.items (length c.loop-caller.yielded) c.in-Some.caller) =
    YieldsList-turn (YieldsList-from_vec c.args.callers.items h.0 (h.1 ∙ c.args.callers.ok.0)) c.loop-caller.yielded c.loop-caller.caller-iterator c.loop-caller.yielded_by c.next.result c.next.new.self c.in-Some.caller c.in-Some.is c.next.ensures.steps in
    record {
      goes_on = tt;
      ends = tt;
      manager = c.reclaim_free.ensures.manager;
      reclaimed = subst (λ (k : ℕ). HasReclaimed c.args.callers.items k c.reclaim_free.new.manager) (sym (length_push c.loop-caller.yielded c.in-Some.caller))
          (reclaimed_one c.args.link.now c.args.callers.items (length c.loop-caller.yielded) c.loop-caller.manager c.reclaim_free.new.manager c.in-Some.caller c.requires.callers taken c.loop-caller.invariant.reclaimed c.reclaim_free.ensures.retired c.reclaim_free.ensures.users);
    }
