use Rattle.std.proofs.Common.{◌≡◌, []}
use Rattle.std.specs.Prelude.{replicate}
use Rattle.ring_core.proofs.ring_lanes.empty_buffers.Given as goal

-- the buffers made so far
abbrev pub invariant-loop : goal.invariant-loop
invariant-loop l = l.buffers.items ≡ replicate l.counter []
