-- Blocks in the order of their addresses, and what a placement that is under way keeps (own). No public clause speaks of this: it serves the contracts of the crate's own functions.
use Rattle.std.specs.Prelude.{◌≡◌, ◌+◌, ◌≤◌, Bool, false, List}
use Rattle.std.specs.List.{list_any}
use Rattle.std.specs.List.Sorted.{IsNonDecreasingBy}
use Rattle.memory_pool.specs.Ranges.{meets_block}
use Rattle.memory_pool.specs.Places.{is_window_use, memory_of}
use Rattle.memory_pool.specs.declared.blocks.Block.{Block}
use Rattle.memory_pool.specs.declared.wanted.Wanted.{Wanted}
use Rattle.memory_pool.specs.declared.wanted.Wanted.TheVariants as wanted

-- blocks in the order of their first addresses, and of those after them (own)
pub record IsOrdered (blocks : List Block) : Type 0 where
  pub starts : IsNonDecreasingBy (λ block. block.da) blocks
  pub ends : IsNonDecreasingBy (λ block. block.da + block.len) blocks

-- ordered blocks of which those pass a test that do among the blocks of memory of a placement (own)
pub record IsMemoryOf (blocks memory : List Block) : Type 0 where
  pub ordered : IsOrdered memory
  pub same : (test : Block → Bool) → list_any test memory ≡ list_any test (memory_of blocks)

-- a block that is not empty, and if it is one of memory meets none of a placement (own)
pub record IsNewBlock (before : List Block) (block : Block) : Type 0 where
  pub some : 1 ≤ block.len
  pub apart : is_window_use block.what ≡ false → list_any (meets_block block.da block.len) (memory_of before) ≡ false

-- what is wanted is not empty, and a block that may be anywhere has an alignment (own)
abbrev pub IsSoundWanted : Wanted → Type 0
IsSoundWanted (wanted.Given purpose da len) = (1 ≤ len) × (is_window_use purpose ≡ false)
IsSoundWanted (wanted.Any purpose len align) = (1 ≤ len) × (1 ≤ align) × (is_window_use purpose ≡ false)
IsSoundWanted (wanted.Window index da pa len) = 1 ≤ len
