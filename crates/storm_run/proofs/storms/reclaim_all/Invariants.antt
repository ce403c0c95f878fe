use Rattle.std.proofs.Common.{length}
use Rattle.split_ring.specs.Callers.{IsManagerOf}
use Rattle.storm_run.specs.Managers.{HasReclaimed}
use Rattle.storm_run.proofs.storms.reclaim_all.Given as goal

-- the callers so far are reclaimed
abbrev pub invariant-loop-caller : goal.invariant-loop-caller
invariant-loop-caller l = record {
  goes_on : (goal.iterator-loop-caller).can_next l.caller-iterator;
  ends : (goal.iterator-loop-caller).is_finite l.caller-iterator;
  manager : IsManagerOf l.link l.manager;
  reclaimed : HasReclaimed l.fn.callers.items (length l.yielded) l.manager;
}
