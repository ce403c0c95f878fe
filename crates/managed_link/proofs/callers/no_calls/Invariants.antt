use Rattle.std.proofs.Common.{◌≡◌, replicate, None}
use Rattle.managed_link.proofs.callers.no_calls.Given as goal

abbrev pub invariant-loop : goal.invariant-loop
invariant-loop l = l.calls.items ≡ replicate l.counter None
