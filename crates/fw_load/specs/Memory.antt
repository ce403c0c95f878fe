-- What is loaded into the memory of a core (own).
use Rattle.std.specs.Prelude.{ℕ, ◌+◌, option_map, slice_range, ◌-◌, List, [], ◌∷◌, ◌++◌, length, replicate, Option, Some, None, option_and_then}
use Rattle.elf_image.specs.Segments.{SegmentAt, segments_of}
use Rattle.elf_image.specs.declared.sections.Section.{Section}
use Rattle.memory_pool.specs.Regions.{memory_len}
use Rattle.memory_pool.specs.declared.blocks.Block.{Block}
use Rattle.memory_pool.specs.declared.regions.Region.{Region}
use Rattle.addr_translate.specs.Bytes.{with_bytes}
use Rattle.addr_translate.specs.Maps.{translation}
use Rattle.addr_translate.specs.declared.mapped.Place.{Place}
use Rattle.fw_load.specs.Tables.{patched_in, table_of, table_section}

-- where a range of device addresses is in the core's memory, if one block of memory holds it whole (own)
abbrev pub memory_at : List Region → List Block → ℕ → ℕ → Option ℕ
memory_at regions placed da len = option_and_then (λ (place : Place). place.at) (translation regions placed da len)

-- the bytes of a range of device addresses, where they have a place (own)
abbrev pub bytes_at : (ℕ → ℕ → Option ℕ) → ℕ → ℕ → List ℕ → Option (List ℕ)
bytes_at at da len memory = option_map (λ place. slice_range memory place (place + len)) (at da len)

-- memory with bytes written at a place, if there is one (own)
abbrev pub with_at : Option ℕ → List ℕ → List ℕ → List ℕ
with_at None written memory = memory
with_at (Some at) written memory = with_bytes at written memory

-- the bytes of a segment in memory: those that the image gives, and zeros (TIS ELF 1.2, "Program Header", p_memsz)
abbrev pub segment_bytes : SegmentAt → List ℕ
segment_bytes segment = segment.file ++ replicate (segment.memory_len - length segment.file) 0

-- memory with segments written one after the other, where their device addresses are (own)
abbrev pub with_segments : (ℕ → ℕ → Option ℕ) → List SegmentAt → List ℕ → List ℕ
with_segments at [] memory = memory
with_segments at (segment ∷ more) memory =
    with_segments at more (with_at (at segment.da segment.memory_len) (segment_bytes segment) memory)

-- memory with a table written where its section is to be (own)
abbrev pub with_table : (ℕ → ℕ → Option ℕ) → Option Section → List ℕ → List ℕ → List ℕ
with_table at None table memory = memory
with_table at (Some section) table memory = with_at (at section.address (length table)) table memory

-- the memory of a core after a load: zeros, then the segments, then the patched table (own)
abbrev pub memory_of : List ℕ → List Region → List Block → List ℕ
memory_of image regions placed =
    with_table (memory_at regions placed) (table_section image) (patched_in (table_of image) placed)
    (with_segments (memory_at regions placed) (segments_of image) (replicate (memory_len regions) 0))
