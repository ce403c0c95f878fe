use Rattle.split_ring.specs.Callers.{IsAfterCall}
use Rattle.link_threads.proofs.users.take_one.Given as goal

-- the caller is in no call
abbrev pub invariant-loop : goal.invariant-loop
invariant-loop g l = IsAfterCall l.link l.fn.caller l.caller
