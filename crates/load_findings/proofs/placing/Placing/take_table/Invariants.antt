use Rattle.std.proofs.Common.{◌≡◌, drop}
use Rattle.resource_table.specs.Entries.{entries_of}
use Rattle.memory_pool.specs.OrderedBlocks.{IsMemoryOf}
use Rattle.memory_pool.specs.Places.{next_block}
use Rattle.memory_pool.specs.Wanted.{is_anywhere, wanted_from}
use Rattle.load_findings.specs.Placings.{entries_through, tried}
use Rattle.load_findings.specs.Walks.{of_kind, outcome_in}
use Rattle.load_findings.proofs.placing.Placing.take_table.Given as goal

-- what was tried so far and what the entries that are left ask for make the whole
abbrev pub invariant-loop-index : goal.invariant-loop-index
invariant-loop-index l = record {
  tried : tried (next_block l.regions) (outcome_in l.self) (of_kind is_anywhere l.anywhere (wanted_from l.index (entries_through l.aliases (drop l.index (entries_of l.table)))))
      ≡ tried (next_block l.regions) (outcome_in l.fn.self) (of_kind is_anywhere l.anywhere (wanted_from 0 (entries_through l.aliases (entries_of l.table))));
  ordered : IsMemoryOf l.self.blocks.items l.self.memory.items;
}
