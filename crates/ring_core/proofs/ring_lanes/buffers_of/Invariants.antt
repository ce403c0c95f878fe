use Rattle.std.proofs.Common.{◌≡◌, ◌%◌, map, take}
use Rattle.ring_core.proofs.ring_lanes.buffers_of.Given as goal

-- the entries read so far
abbrev pub invariant-loop-entry : goal.invariant-loop-entry
invariant-loop-entry l = l.buffers.items ≡ map (λ entry. entry.id % 65536) (take l.entry-index l.ring)
