-- The blocks of a placement are for entries that ask for them.
use Rattle.std.proofs.Common.{◌≡◌, ℕ, List, Some, Ok}
use Rattle.std.specs.Prelude.{slice_get}
use Rattle.std.specs.List.{All}
use Rattle.resource_table.specs.declared.entries.Entry.{Entry}
use Rattle.resource_table.specs.declared.entries.Entry.TheVariants as entry
use Rattle.memory_pool.specs.Placements.{placement}
use Rattle.memory_pool.specs.declared.blocks.Block.{Block}
use Rattle.memory_pool.specs.declared.regions.Region.{Region}
use Rattle.memory_pool.proofs.Meant.{OfUses, placement_uses}
use Rattle.fw_load.specs.Uses.{HasRing, IsCarveout, IsUseOf}

asked : (entries : List Entry) (index : ℕ) (one : Entry) → slice_get entries index ≡ Some one → OfUses (λ purpose len. IsUseOf entries purpose) index one
asked entries index (entry.Carveout da pa len name) is = let here : IsCarveout (slice_get entries index) = rw is tt in here
asked entries index (entry.Devmem da pa len name) is = tt
asked entries index (entry.Trace da len name) is = tt
asked entries index (entry.Device device) is = (
  λ first. (let here : HasRing 0 (slice_get entries index) = rw is first in here),
  λ second. (let here : HasRing 1 (slice_get entries index) = rw is second in here),
  tt,
)
asked entries index (entry.Skipped type) is = tt

-- the blocks of a placement are for entries that ask for them
pub placement_meant : (regions : List Region) (entries : List Entry) (blocks : List Block) → placement regions entries ≡ Ok blocks → All (λ block. IsUseOf entries block.what) blocks
placement_meant regions entries blocks is = placement_uses (λ purpose len. IsUseOf entries purpose) regions entries blocks (asked entries) is
