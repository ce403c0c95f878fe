use Rattle.std.proofs.Common.{◌≡◌, ◌-◌, map}
use Rattle.std.specs.List.{range_with_len}
use Rattle.rp_base.specs.Faults.{first_fault}
use Rattle.resource_table.specs.Entries.{entry_count}
use Rattle.resource_table.specs.Tables.{entry_fault, entries_fault}
use Rattle.resource_table.specs.Walks.{IsEarlier}
use Rattle.resource_table.proofs.testing.test_entries.Given as goal

abbrev pub invariant-loop-index : goal.invariant-loop-index
invariant-loop-index l = record {
  left : first_fault (map (entry_fault l.bytes) (range_with_len l.index (entry_count l.bytes - l.index))) ≡ entries_fault l.bytes;
  earlier : IsEarlier l.bytes l.index l.earlier;
}
