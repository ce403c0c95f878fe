-- The mapped blocks of a core, and where their bytes are in its memory (own).
use Rattle.std.specs.Prelude.{ℕ, ◌+◌, ◌-◌, List, [], ◌∷◌, ◌++◌, map, filter, not, Option, Some, None, if◌then◌else◌}
use Rattle.memory_pool.specs.Ranges.{lies_in}
use Rattle.memory_pool.specs.Regions.{is_pool}
use Rattle.memory_pool.specs.declared.blocks.Block.{Block}
use Rattle.memory_pool.specs.declared.blocks.Use.{Use}
use Rattle.memory_pool.specs.declared.blocks.Use.TheVariants as usage
use Rattle.memory_pool.specs.declared.regions.Region.{Region}
use Rattle.addr_translate.specs.declared.mapped.Mapped.{Mapped}

-- the place in the core's memory of a range of device addresses: the regions are one after the other there, from a base on (own)
abbrev pub memory_place : ℕ → List Region → ℕ → ℕ → Option ℕ
memory_place base [] da len = None
memory_place base (region ∷ more) da len =
    if lies_in da len region then Some (base + (da - region.da)) else memory_place (base + region.len) more da len

-- a region that is always mapped (own)
abbrev pub mapped_region : List Region → Region → Mapped
mapped_region regions region =
    record { da = region.da; pa = region.pa; len = region.len; at = memory_place 0 regions region.da region.len }

-- where the bytes of a block are, of which a window has none (own)
abbrev pub place_of_use : List Region → Use → ℕ → ℕ → Option ℕ
place_of_use regions (usage.Window index) da len = None
place_of_use regions _ da len = memory_place 0 regions da len

-- a placed block or a window (own)
abbrev pub mapped_block : List Region → Block → Mapped
mapped_block regions block =
    record { da = block.da; pa = block.pa; len = block.len; at = place_of_use regions block.what block.da block.len }

-- all that is mapped: the regions that always are, the placed blocks and the windows (own)
abbrev pub mapped_blocks : List Region → List Block → List Mapped
mapped_blocks regions blocks =
    map (mapped_region regions) (filter (λ region. not (is_pool region)) regions) ++ map (mapped_block regions) blocks
