-- The blocks that stand for the rings of the device for RPMsg (own).
use Rattle.std.specs.Prelude.{◌≡◌, ℕ, List}
use Rattle.std.specs.List.{Any}
use Rattle.memory_pool.specs.declared.blocks.Block.{Block}
use Rattle.memory_pool.specs.declared.blocks.Use.{Use}
use Rattle.memory_pool.specs.declared.blocks.Use.TheVariants as usage
use Rattle.fw_load.specs.declared.rings.RingPair.{RingPair}

-- a block is for this, and begins at this device address
pub record StandsAt (purpose : Use) (da : ℕ) (block : Block) : Type 0 where
  pub what : block.what ≡ purpose
  pub start : block.da ≡ da

-- there are blocks for both rings and for the buffers of one entry, at the device addresses that a pair of rings names
pub record HasBlocks (placed : List Block) (pair : RingPair) : Type 0 where
  pub index : ℕ
  pub to_host : Any (StandsAt (usage.Ring index 0) pair.to_host.da) placed
  pub to_remote : Any (StandsAt (usage.Ring index 1) pair.to_remote.da) placed
  pub buffers : Any (StandsAt (usage.Buffers index) pair.base) placed
