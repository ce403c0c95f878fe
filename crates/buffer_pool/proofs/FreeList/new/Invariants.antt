use Rattle.std.proofs.Common.{◌≡◌, ◌≤◌, deque_capacity}
use Rattle.buffer_pool.specs.Pools.{buffers_from}
use Rattle.buffer_pool.proofs.FreeList.new.Given as goal

-- the buffers made so far, and the room for all of them
abbrev pub invariant-loop-id : goal.invariant-loop-id
invariant-loop-id l =
    record { made : l.buffers.items ≡ buffers_from 0 l.id; room : l.count ≤ deque_capacity l.buffers }
