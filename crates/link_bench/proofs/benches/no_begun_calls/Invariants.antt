use Rattle.std.proofs.Common.{◌≡◌, replicate, None}
use Rattle.link_bench.proofs.benches.no_begun_calls.Given as goal

abbrev pub invariant-loop : goal.invariant-loop
invariant-loop l = l.begun.items ≡ replicate l.counter None
