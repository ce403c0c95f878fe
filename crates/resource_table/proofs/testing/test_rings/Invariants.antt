use Rattle.std.proofs.Common.{◌≡◌, ◌-◌, map}
use Rattle.std.specs.List.{range_with_len}
use Rattle.rp_base.specs.Faults.{first_fault}
use Rattle.resource_table.specs.Tables.{ring_fault_at, rings_fault}
use Rattle.resource_table.proofs.testing.test_rings.Given as goal

abbrev pub invariant-loop-ring : goal.invariant-loop-ring
invariant-loop-ring l =
    first_fault (map (ring_fault_at l.bytes l.index l.start) (range_with_len l.ring (l.count - l.ring))) ≡ rings_fault l.bytes l.index l.start
