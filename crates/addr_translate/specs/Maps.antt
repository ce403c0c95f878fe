-- A map of device addresses, and where a range of them is (own).
use Rattle.std.specs.Prelude.{◌≡◌, ℕ, ◌+◌, ◌-◌, Bool, List, find, Option, option_and_then, option_map}
use Rattle.std.specs.List.Sorted.{IsPermutation}
use Rattle.memory_pool.specs.Ranges.{lies_within}
use Rattle.memory_pool.specs.Regions.{memory_len}
use Rattle.memory_pool.specs.declared.blocks.Block.{Block}
use Rattle.memory_pool.specs.declared.regions.Region.{Region}
use Rattle.addr_translate.specs.Mapped.{mapped_blocks}
use Rattle.addr_translate.specs.declared.mapped.Mapped.{Mapped}
use Rattle.addr_translate.specs.declared.mapped.Place.{Place}

-- a map: mapped blocks, and the bytes of the core's memory (own)
pub record Mapping : Type 0 where
  pub blocks : List Mapped
  pub memory_len : ℕ

-- the map of regions and of what was placed among them: all that is mapped, in some order (own)
pub record IsMapOf (regions : List Region) (placed : List Block) (map : Mapping) : Type 0 where
  pub same : IsPermutation (mapped_blocks regions placed) map.blocks
  pub memory : map.memory_len ≡ memory_len regions

-- whether a mapped block holds a whole range of device addresses (own)
abbrev pub holds : ℕ → ℕ → Mapped → Bool
holds da len block = lies_within da len block.da block.len

-- where a range is in the block that holds it (own)
abbrev pub place_in : ℕ → Mapped → Place
place_in da block =
    record { pa = block.pa + (da - block.da); at = option_map (λ at. at + (da - block.da)) block.at }

-- where a range of device addresses is among blocks: in the one that holds it whole, if one does (own)
abbrev pub place_among : List Mapped → ℕ → ℕ → Option Place
place_among blocks da len = option_map (place_in da) (find (holds da len) blocks)

-- where a range of device addresses is by a map (own)
abbrev pub translate : Mapping → ℕ → ℕ → Option Place
translate map da len = place_among map.blocks da len

-- where it is in the core's memory, if one block of memory holds it whole; a window has no memory (own)
abbrev pub place_at : Mapping → ℕ → ℕ → Option ℕ
place_at map da len = option_and_then (λ (place : Place). place.at) (translate map da len)

-- where a range of device addresses is by regions and what was placed among them (own)
abbrev pub translation : List Region → List Block → ℕ → ℕ → Option Place
translation regions placed da len = place_among (mapped_blocks regions placed) da len
