use Rattle.std.proofs.Common.{◌≡◌, ◌++◌, drop}
use Rattle.std.specs.List.{All}
use Rattle.resource_table.specs.Entries.{entries_of}
use Rattle.memory_pool.specs.OrderedBlocks.{IsSoundWanted}
use Rattle.memory_pool.specs.Wanted.{wanted_from}
use Rattle.memory_pool.proofs.wanted.wanted_of.Given as goal

-- what the entries so far ask for is sound, and with what those that are left do it is all
abbrev pub invariant-loop-index : goal.invariant-loop-index
invariant-loop-index l = record {
  wanted : l.all.items ++ wanted_from l.index (drop l.index (entries_of l.table)) ≡ wanted_from 0 (entries_of l.table);
  sound : All IsSoundWanted l.all.items;
}
