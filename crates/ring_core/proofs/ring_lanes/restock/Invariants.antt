use Rattle.std.proofs.Common.{◌≡◌, ◌≤◌, ◌-◌, map, vec_capacity}
use Rattle.std.specs.List.{range_with_len}
use Rattle.ring_core.specs.Rings.{entry_of}
use Rattle.ring_core.proofs.ring_lanes.restock.Given as goal

-- the entries stored so far
abbrev pub invariant-loop-id : goal.invariant-loop-id
invariant-loop-id l = record {
  stored : l.returns.items ≡ map entry_of (range_with_len l.sizes.own (l.id - l.sizes.own));
  from : l.sizes.own ≤ l.id;
  room : vec_capacity l.fn.returns ≤ vec_capacity l.returns;
}
