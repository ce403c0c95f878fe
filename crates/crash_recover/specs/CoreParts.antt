-- The blocks of memory of a core that is loaded, with their bytes (own).
use Rattle.std.specs.Prelude.{◌≡◌, ℕ, List, [], ◌++◌, map, filter, All, not, Option, Some, None, option_map}
use Rattle.std.specs.List.{filter_map}
use Rattle.memory_pool.specs.Places.{memory_of}
use Rattle.memory_pool.specs.Regions.{is_pool}
use Rattle.memory_pool.specs.declared.blocks.Block.{Block}
use Rattle.memory_pool.specs.declared.regions.Region.{Region}
use Rattle.core_dump.specs.Parts.{MemoryPart, part_len}
use Rattle.crash_recover.specs.Cores.{CoreState, LoadState, core_memory}

-- where the blocks of memory are, each by its device address and its length: the regions that are always mapped, as they were declared, then the placed blocks without windows
abbrev pub memory_ranges : List Region → List Block → List (ℕ × ℕ)
memory_ranges regions placed =
    map (λ (region : Region). (region.da, region.len)) (filter (λ region. not (is_pool region)) regions)
    ++ map (λ (block : Block). (block.da, block.len)) (memory_of placed)

-- the same of what was loaded, if something was
abbrev pub loaded_ranges : List Region → Option LoadState → List (ℕ × ℕ)
loaded_ranges regions None = []
loaded_ranges regions (Some load) = memory_ranges regions load.placed

-- where the blocks of memory of a core are
abbrev pub core_ranges : CoreState → List (ℕ × ℕ)
core_ranges core = loaded_ranges core.regions core.loaded

-- a range of device addresses with the bytes that the core's memory has there
abbrev pub part_at : CoreState → ℕ × ℕ → Option MemoryPart
part_at core range = option_map (λ bytes. record { da = range.0; bytes = bytes }) (core_memory core range.0 range.1)

-- the blocks of memory of a core, with their bytes
abbrev pub core_parts : CoreState → List MemoryPart
core_parts core = filter_map (part_at core) (core_ranges core)

-- where a part is
abbrev pub part_range : MemoryPart → ℕ × ℕ
part_range part = (part.da, part_len part)

-- parts are blocks of memory of a core: all of them in order, each with the bytes that the core's memory has there
pub record AreBlocksOf (core : CoreState) (parts : List MemoryPart) : Type 0 where
  pub ranges : map part_range parts ≡ core_ranges core
  pub bytes : All (λ part. core_memory core part.da (part_len part) ≡ Some part.bytes) parts
