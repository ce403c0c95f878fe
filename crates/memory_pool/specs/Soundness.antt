-- Which regions and which placements are sound (own).
use Rattle.std.specs.Prelude.{◌≡◌, ℕ, ◌+◌, ◌-◌, ◌^◌, ◌≤◌, true, false, List, length, All}
use Rattle.std.specs.List.{AllPairs, Any, list_any}
use Rattle.memory_pool.specs.Ranges.{ranges_meet, lies_in, meets_region}
use Rattle.memory_pool.specs.Regions.{is_pool, regions_meet, memory_len}
use Rattle.memory_pool.specs.declared.TheConstants.{REGIONS_MOST, MEMORY_MOST}
use Rattle.memory_pool.specs.declared.blocks.Block.{Block}
use Rattle.memory_pool.specs.declared.blocks.Use.{Use}
use Rattle.memory_pool.specs.declared.blocks.Use.TheVariants as usage
use Rattle.memory_pool.specs.declared.regions.Region.{Region}

-- a range of device and physical addresses that is not empty, and ends within them (own)
pub record IsRange (da pa len : ℕ) : Type 0 where
  pub some : 1 ≤ len
  pub device : da + len ≤ 2 ^ 32
  pub physical : pa + len ≤ 2 ^ 32

-- at most 16 regions, of at most 16 MiB together, each within the addresses, and no two meet (own)
pub record SoundRegions (regions : List Region) : Type 0 where
  pub few : length regions ≤ REGIONS_MOST
  pub small : memory_len regions ≤ MEMORY_MOST
  pub ranges : All (λ region. IsRange region.da region.pa region.len) regions
  pub apart : AllPairs (λ a b. regions_meet a b ≡ false) regions

-- a block of memory lies in a pool, as far from its start in physical addresses as in device addresses (own)
pub record IsHeldBy (block : Block) (region : Region) : Type 0 where
  pub pool : is_pool region ≡ true
  pub inside : lies_in block.da block.len region ≡ true
  pub physical : block.pa ≡ region.pa + (block.da - region.da)

-- a block of memory lies in a pool, and a window meets no region (own)
abbrev pub IsHeld : List Region → Use → Block → Type 0
IsHeld regions (usage.Window index) block = list_any (meets_region block.da block.len) regions ≡ false
IsHeld regions _ block = Any (IsHeldBy block) regions

-- each block within the addresses and held by the regions as its use asks, and no two meet in device addresses (own)
pub record SoundPlacement (regions : List Region) (blocks : List Block) : Type 0 where
  pub ranges : All (λ block. IsRange block.da block.pa block.len) blocks
  pub held : All (λ block. IsHeld regions block.what block) blocks
  pub apart : AllPairs (λ a b. ranges_meet a.da a.len b.da b.len ≡ false) blocks
