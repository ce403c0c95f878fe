-- The loaded segments of an image.
use Rattle.std.specs.Prelude.{ℕ, ◌+◌, ◌-◌, ◌*◌, ◌==◌, nat_lt, Bool, not, ◌&&◌, ◌||◌, List, [], ◌∷◌, map, filter, take, drop, Option, Some, None}
use Rattle.std.specs.List.{range_with_len}
use Rattle.elf_image.specs.Layout.{layout_of}
use Rattle.elf_image.specs.declared.layouts.Layout.{Layout}
use Rattle.elf_image.specs.Headers.{file_header, program_header}
use Rattle.rp_base.specs.Faults.{fault_if, first_fault}
use Rattle.elf_image.specs.declared.faults.ElfFault.{ElfFault}
use Rattle.elf_image.specs.declared.faults.ElfFault.TheVariants as fault
use Rattle.elf_image.specs.declared.headers.FileHeader.{FileHeader}
use Rattle.elf_image.specs.declared.headers.NumberedHeader.{NumberedHeader}

-- a loaded segment: its number among all program headers, its device address (p_paddr), how many bytes of memory it has, and those that the image gives (TIS ELF 1.2, "Program Header")
pub record SegmentAt : Type 0 where
  pub index : ℕ
  pub da : ℕ
  pub memory_len : ℕ
  pub file : List ℕ

-- whether a segment is loaded: its type is PT_LOAD, which is 1, and it has memory (TIS ELF 1.2, figure 2-2)
abbrev pub is_loaded : NumberedHeader → Bool
is_loaded numbered = (numbered.header.kind == 1) && not (numbered.header.memory_len == 0)

-- the program header of a number (TIS ELF 1.2, "ELF Header", e_phoff, e_phentsize)
abbrev pub numbered_header : Layout → FileHeader → List ℕ → ℕ → NumberedHeader
numbered_header layout header bytes index = record {
  index = index;
  header = program_header layout (header.program_table + layout.program_header_size * index) bytes;
}

-- the loaded program headers from a number on, in table order (TIS ELF 1.2, "ELF Header", e_phnum)
abbrev pub loaded_from : Layout → FileHeader → List ℕ → ℕ → List NumberedHeader
loaded_from layout header bytes index =
    filter is_loaded (map (numbered_header layout header bytes) (range_with_len index (header.program_count - index)))

-- what a loaded program header says: its file bytes are the p_filesz bytes at p_offset (TIS ELF 1.2, "Program Header")
abbrev pub segment_at : List ℕ → NumberedHeader → SegmentAt
segment_at bytes numbered = record {
  index = numbered.index;
  da = numbered.header.physical_address;
  memory_len = numbered.header.memory_len;
  file = take numbered.header.file_len (drop numbered.header.offset bytes);
}

-- the loaded segments of an image whose layout is known (own)
abbrev pub segments_by : Option Layout → List ℕ → List SegmentAt
segments_by None bytes = []
segments_by (Some layout) bytes = map (segment_at bytes) (loaded_from layout (file_header layout bytes) bytes 0)

-- the loaded segments of an image, in table order (TIS ELF 1.2, "Program Header")
abbrev pub segments_of : List ℕ → List SegmentAt
segments_of bytes = segments_by (layout_of bytes) bytes

-- whether a segment has an address or a length that is none of a device's 32 bits (own)
abbrev pub is_wide : NumberedHeader → Bool
is_wide numbered = nat_lt 0xffffffff numbered.header.physical_address || nat_lt 0xffffffff numbered.header.memory_len

-- the tests of one loaded segment in an image of so many bytes: its address and length have 32 bits, its file bytes fit into its memory, and lie in the image (System V gABI, "Program Header", p_filesz; the first is own)
abbrev pub segment_fault : ℕ → NumberedHeader → Option ElfFault
segment_fault len numbered = first_fault
    (fault_if (is_wide numbered) (fault.WideAddress numbered.index)
    ∷ fault_if (nat_lt numbered.header.memory_len numbered.header.file_len) (fault.FileOverMemory numbered.index)
    ∷ fault_if (nat_lt len (numbered.header.offset + numbered.header.file_len)) (fault.SegmentPastEnd numbered.index)
    ∷ [])

-- the first fault of loaded segments, one after the other (own)
abbrev pub segments_fault : ℕ → List NumberedHeader → Option ElfFault
segments_fault len loaded = first_fault (map (segment_fault len) loaded)
