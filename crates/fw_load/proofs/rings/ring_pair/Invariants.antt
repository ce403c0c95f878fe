use Rattle.std.proofs.Common.{◌≡◌, drop}
use Rattle.resource_table.specs.Entries.{entries_of}
use Rattle.fw_load.specs.Rings.{pair_from}
use Rattle.fw_load.proofs.rings.ring_pair.Given as goal

-- the entries that are left decide
abbrev pub invariant-loop-index : goal.invariant-loop-index
invariant-loop-index l = pair_from l.blocks l.index (drop l.index (entries_of l.table)) ≡ pair_from l.blocks 0 (entries_of l.table)
