-- Which images are good, and what is wrong with the others: the first of the tests that fails.
use Rattle.std.specs.Prelude.{◌≡◌, ℕ, ◌+◌, ◌*◌, ◌==◌, nat_lt, not, ◌&&◌, ◌||◌, List, [], ◌∷◌, take, length, slice_index, bytes_eq, Option, Some, None, is_none}
use Rattle.elf_image.specs.Layout.{elf32, layout_of}
use Rattle.elf_image.specs.declared.layouts.Layout.{Layout}
use Rattle.elf_image.specs.Headers.{file_header}
use Rattle.rp_base.specs.Faults.{fault_if, first_fault}
use Rattle.elf_image.specs.Segments.{loaded_from, segments_fault}
use Rattle.elf_image.specs.Sections.{has_sections, sections_fault}
use Rattle.elf_image.specs.declared.faults.ElfFault.{ElfFault}
use Rattle.elf_image.specs.declared.faults.ElfFault.TheVariants as fault
use Rattle.elf_image.specs.declared.headers.FileHeader.{FileHeader}

-- the bytes of the ELF header of a layout, and none where the class has no layout
abbrev pub header_size_of : Option Layout → ℕ
header_size_of None = 0
header_size_of (Some layout) = layout.header_size

-- the tests of the identification: at least the bytes of the smaller header, the magic number, a known class, ELFDATA2LSB, and a whole header of that class (System V gABI, "ELF Identification")
abbrev pub identification_fault : List ℕ → Option ElfFault
identification_fault bytes = first_fault
    (fault_if (nat_lt (length bytes) elf32.header_size) fault.Short
    ∷ fault_if (not (bytes_eq (take 4 bytes) (0x7f ∷ 0x45 ∷ 0x4c ∷ 0x46 ∷ []))) fault.Magic
    ∷ fault_if (is_none (layout_of bytes)) fault.Class
    ∷ fault_if (not (slice_index bytes 5 == 1)) fault.Order
    ∷ fault_if (nat_lt (length bytes) (header_size_of (layout_of bytes))) fault.Short
    ∷ [])

-- the tests of the ELF header: plain counts, at least one program header, known sizes of the headers, program headers that lie in the image of so many bytes, and an entry that is an address of 32 bits (System V gABI, "ELF Header"; the last is own)
abbrev pub header_fault : Layout → FileHeader → ℕ → Option ElfFault
header_fault layout header len = first_fault
    (fault_if (header.program_count == 65535 || header.names_index == 65535 || (has_sections header && header.section_count == 0)) fault.Numbering
    ∷ fault_if (header.program_count == 0) fault.NoSegments
    ∷ fault_if (not (header.program_header_size == layout.program_header_size) || (has_sections header && not (header.section_header_size == layout.section_header_size))) fault.EntrySize
    ∷ fault_if (nat_lt len (header.program_table + layout.program_header_size * header.program_count)) fault.HeadersPastEnd
    ∷ fault_if (nat_lt 0xffffffff header.entry) fault.WideEntry
    ∷ [])

-- the tests after the identification, where the layout is known (own)
abbrev pub contents_fault : Option Layout → List ℕ → Option ElfFault
contents_fault None bytes = None
contents_fault (Some layout) bytes =
    let header = file_header layout bytes in
    first_fault
    (header_fault layout header (length bytes)
    ∷ segments_fault (length bytes) (loaded_from layout header bytes 0)
    ∷ sections_fault layout header bytes
    ∷ [])

-- the first of all tests that fails, if one does (own)
abbrev pub image_fault : List ℕ → Option ElfFault
image_fault bytes = first_fault (identification_fault bytes ∷ contents_fault (layout_of bytes) bytes ∷ [])

-- an image that passes all tests (own)
abbrev pub GoodImage : List ℕ → Type 0
GoodImage bytes = image_fault bytes ≡ None

-- the address of the first instruction in an image whose layout is known (own)
abbrev pub entry_by : Option Layout → List ℕ → ℕ
entry_by None bytes = 0
entry_by (Some layout) bytes = (file_header layout bytes).entry

-- the address of the first instruction (TIS ELF 1.2, "ELF Header", e_entry)
abbrev pub entry_of : List ℕ → ℕ
entry_of bytes = entry_by (layout_of bytes) bytes
