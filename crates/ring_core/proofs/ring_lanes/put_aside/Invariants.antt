use Rattle.std.proofs.Common.{◌≡◌, ◌≤◌, ◌++◌, take, vec_capacity}
use Rattle.ring_core.specs.RingSteps.{buffers_of}
use Rattle.ring_core.proofs.ring_lanes.put_aside.Given as goal

-- the buffers put aside so far
abbrev pub invariant-loop-hand : goal.invariant-loop-hand
invariant-loop-hand l = record { items : l.aside.items ≡ l.fn.aside.items ++ buffers_of (take l.hand-index l.hands) l.caller; room : vec_capacity l.fn.aside ≤ vec_capacity l.aside }
