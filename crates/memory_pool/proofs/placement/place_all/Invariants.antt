use Rattle.std.proofs.Common.{◌≡◌, [], drop}
use Rattle.memory_pool.specs.Placements.{placed_from}
use Rattle.memory_pool.specs.OrderedBlocks.{IsMemoryOf}
use Rattle.memory_pool.proofs.placement.place_all.Given as goal

-- what is placed and what is left make the whole
abbrev pub invariant-loop-one : goal.invariant-loop-one
invariant-loop-one l = record {
  placed : placed_from l.regions l.placing.blocks.items (drop l.one-index l.wanted) ≡ placed_from l.regions [] l.wanted;
  ordered : IsMemoryOf l.placing.blocks.items l.placing.memory.items;
}
