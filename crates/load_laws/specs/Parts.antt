-- Which images load, by their parts (own).
use Rattle.std.specs.Prelude.{◌≡◌, ℕ, ◌+◌, ◌≤◌, true, List, All, IfSome, Ok, is_some, length}
use Rattle.std.specs.List.{Any}
use Rattle.elf_image.specs.Images.{GoodImage, entry_of}
use Rattle.elf_image.specs.Segments.{SegmentAt, segments_of}
use Rattle.elf_image.specs.declared.sections.Section.{Section}
use Rattle.resource_table.specs.Tables.{GoodTable}
use Rattle.memory_pool.specs.Placements.{placement}
use Rattle.memory_pool.specs.declared.blocks.Block.{Block}
use Rattle.memory_pool.specs.declared.regions.Region.{Region}
use Rattle.addr_translate.specs.Mapped.{mapped_blocks}
use Rattle.addr_translate.specs.Maps.{holds}
use Rattle.addr_translate.specs.declared.mapped.Mapped.{Mapped}
use Rattle.fw_load.specs.Tables.{bytes_in, entries_in, table_of, table_section}

-- the section of a table lies in its image, and its bytes are a good table (own)
pub record HasGoodTable (image : List ℕ) (section : Section) : Type 0 where
  pub inside : section.offset + section.size ≤ length image
  pub good : GoodTable (bytes_in image section)

-- a mapped block holds a range of device addresses whole, and is one of memory, not a window (own)
pub record HoldsInMemory (da len : ℕ) (block : Mapped) : Type 0 where
  pub whole : holds da len block ≡ true
  pub memory : is_some block.at ≡ true

-- one block of memory holds a range of device addresses whole (own)
abbrev pub IsInOneBlock : List Region → List Block → ℕ → ℕ → Type 0
IsInOneBlock regions placed da len = Any (HoldsInMemory da len) (mapped_blocks regions placed)

-- the parts of an image that loads: it and its table are good, all that the table asks for is placed, and one block of memory holds each segment and the 16 bytes of the record at the entry (own)
pub record FitsRegions (image : List ℕ) (regions : List Region) : Type 0 where
  pub good : GoodImage image
  pub table : IfSome (table_section image) (HasGoodTable image)
  pub blocks : List Block
  pub placed : placement regions (entries_in (table_of image)) ≡ Ok blocks
  pub segments : All (λ (segment : SegmentAt). IsInOneBlock regions blocks segment.da segment.memory_len) (segments_of image)
  pub entry : IsInOneBlock regions blocks (entry_of image) 16
