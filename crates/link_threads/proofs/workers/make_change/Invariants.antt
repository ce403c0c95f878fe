use Rattle.split_ring.specs.Callers.{IsCallerOf}
use Rattle.link_threads.proofs.workers.make_change.Given as goal

-- the caller is in no call
abbrev pub invariant-loop : goal.invariant-loop
invariant-loop l = IsCallerOf l.link l.caller
