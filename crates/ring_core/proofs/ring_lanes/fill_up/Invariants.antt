use Rattle.std.proofs.Common.{◌≡◌, ◌≤◌, ◌++◌, replicate, vec_capacity}
use Rattle.ring_core.specs.Rings.{entry_of}
use Rattle.ring_core.proofs.ring_lanes.fill_up.Given as goal

-- the entries appended so far
abbrev pub invariant-loop : goal.invariant-loop
invariant-loop l = record { items : l.ring.items ≡ l.fn.ring.items ++ replicate l.counter (entry_of 0); room : vec_capacity l.fn.ring ≤ vec_capacity l.ring }
