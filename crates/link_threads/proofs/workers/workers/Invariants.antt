use Rattle.std.proofs.Common.{All}
use Rattle.split_ring.specs.Callers.{IsCallerOf, IsManagerOf}
use Rattle.link_threads.proofs.workers.workers.Given as goal

-- each worker's caller is one of the link
abbrev pub invariant-loop-number : goal.invariant-loop-number
invariant-loop-number l = IsManagerOf l.link l.manager × All (λ worker. IsCallerOf l.link worker.caller) l.jobs.items
