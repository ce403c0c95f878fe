-- The dump of parts of a core's memory, and what a reader of images finds in it.
use Rattle.std.specs.Prelude.{◌≡◌, ℕ, ◌+◌, ◌*◌, List, [], ◌∷◌, ◌++◌, length, flat_map}
use Rattle.elf_image.specs.Segments.{SegmentAt, segments_of}
use Rattle.elf_image.specs.Images.{GoodImage, entry_of}
use Rattle.elf_writer.specs.Headers.{file_header}
use Rattle.elf_writer.specs.Loads.{Load, load_headers}
use Rattle.core_dump.specs.Parts.{MemoryPart, part_len}

-- the segments to load, whose bytes lie from a place of the image on without gaps: all memory of a part has bytes in the image (own)
abbrev pub loads_from : ℕ → List MemoryPart → List Load
loads_from offset [] = []
loads_from offset (part ∷ more) =
    record { offset = offset; da = part.da; memory_len = part_len part; file = part.bytes } ∷ loads_from (offset + part_len part) more

-- where the bytes of the parts begin: after the ELF header and the program headers (own)
abbrev pub data_start : List MemoryPart → ℕ
data_start parts = 52 + 32 * length parts

-- the bytes of the parts (own)
abbrev pub part_bytes : List MemoryPart → List ℕ
part_bytes parts = flat_map (λ (part : MemoryPart). part.bytes) parts

-- the dump: an ELF header of the type ET_CORE, which is 4, without section headers; a program header for each part; and their bytes (TIS ELF 1.2, "ELF Header", e_type)
unfoldable pub dump_of : ℕ → List MemoryPart → List ℕ
dump_of entry parts =
    file_header 4 entry (length parts) 0 0 0 0 ++ (load_headers (loads_from (data_start parts) parts) ++ part_bytes parts)

-- the segments that parts are, the first of which has this number: with equal lengths in the image and in memory (own)
abbrev pub segments_from : ℕ → List MemoryPart → List SegmentAt
segments_from index [] = []
segments_from index (part ∷ more) =
    record { index = index; da = part.da; memory_len = part_len part; file = part.bytes } ∷ segments_from (index + 1) more

-- a dump is a good image, and has this entry and the parts in order as its segments (own)
pub record IsReadBack (entry : ℕ) (parts : List MemoryPart) (dump : List ℕ) : Type 0 where
  pub good : GoodImage dump
  pub entry_is : entry_of dump ≡ entry
  pub segments : segments_of dump ≡ segments_from 0 parts
