-- The sections of an image, and their names.
use Rattle.std.specs.Prelude.{ℕ, ◌+◌, ◌-◌, ◌*◌, ◌==◌, nat_lt, Bool, false, not, ◌||◌, List, [], ◌∷◌, map, take, drop, length, find, bytes_eq, Option, Some, None, option_map, if◌then◌else◌}
use Rattle.std.specs.List.{range_with_len}
use Rattle.elf_image.specs.Layout.{layout_of}
use Rattle.elf_image.specs.declared.layouts.Layout.{Layout}
use Rattle.elf_image.specs.Headers.{file_header, section_header}
use Rattle.rp_base.specs.Faults.{fault_if, first_fault}
use Rattle.elf_image.specs.declared.faults.ElfFault.{ElfFault}
use Rattle.elf_image.specs.declared.faults.ElfFault.TheVariants as fault
use Rattle.elf_image.specs.declared.headers.FileHeader.{FileHeader}
use Rattle.elf_image.specs.declared.headers.SectionHeader.{SectionHeader}
use Rattle.elf_image.specs.declared.sections.Section.{Section}

-- whether an image has sections: e_shoff is not 0 (TIS ELF 1.2, "ELF Header", e_shoff)
abbrev pub has_sections : FileHeader → Bool
has_sections header = not (header.section_table == 0)

-- the section header of a number (TIS ELF 1.2, "ELF Header", e_shoff, e_shentsize)
abbrev pub section_header_at : Layout → FileHeader → List ℕ → ℕ → SectionHeader
section_header_at layout header bytes index =
    section_header layout (header.section_table + layout.section_header_size * index) bytes

-- the section headers from a number on, in table order (TIS ELF 1.2, "ELF Header", e_shnum)
abbrev pub sections_from : Layout → FileHeader → List ℕ → ℕ → List SectionHeader
sections_from layout header bytes index =
    map (section_header_at layout header bytes) (range_with_len index (header.section_count - index))

-- the bytes of a section (TIS ELF 1.2, "Sections", sh_offset, sh_size)
abbrev pub section_bytes : SectionHeader → List ℕ → List ℕ
section_bytes section bytes = take section.size (drop section.offset bytes)

-- the bytes of the section that has the names (TIS ELF 1.2, "ELF Header", e_shstrndx)
abbrev pub names_of : Layout → FileHeader → List ℕ → List ℕ
names_of layout header bytes = section_bytes (section_header_at layout header bytes header.names_index) bytes

-- the bytes up to the first zero; without a zero there is no text (TIS ELF 1.2, "String Table")
abbrev pub text_to_zero : List ℕ → Option (List ℕ)
text_to_zero [] = None
text_to_zero (byte ∷ more) = if byte == 0 then Some [] else option_map (λ text. byte ∷ text) (text_to_zero more)

-- the name at a place of the names section (TIS ELF 1.2, "Sections", sh_name)
abbrev pub name_at : List ℕ → ℕ → Option (List ℕ)
name_at names place = text_to_zero (drop place names)

-- whether there is a name, and it is this one (own)
abbrev pub is_name : Option (List ℕ) → List ℕ → Bool
is_name None name = false
is_name (Some text) name = bytes_eq text name

-- whether a section has this name (TIS ELF 1.2, "Sections", sh_name)
abbrev pub has_name : List ℕ → List ℕ → SectionHeader → Bool
has_name names name section = is_name (name_at names section.name) name

-- where a section is to be in memory, and where its bytes are in the image (TIS ELF 1.2, "Sections")
abbrev pub section_place : SectionHeader → Section
section_place section = record { address = section.address; offset = section.offset; size = section.size }

-- the first section of a name in an image of a layout, whose header is given (own)
abbrev pub section_in : Layout → FileHeader → List ℕ → List ℕ → Option Section
section_in layout header bytes name =
    if has_sections header
    then option_map section_place (find (has_name (names_of layout header bytes) name) (sections_from layout header bytes 0))
    else None

-- the first section of a name in an image whose layout is known (own)
abbrev pub section_by : Option Layout → List ℕ → List ℕ → Option Section
section_by None bytes name = None
section_by (Some layout) bytes name = section_in layout (file_header layout bytes) bytes name

-- the first section of a name (TIS ELF 1.2, "Sections")
abbrev pub section_of : List ℕ → List ℕ → Option Section
section_of bytes name = section_by (layout_of bytes) bytes name

-- the tests of the sections: their headers lie in the image, and so does the names section, which is one of them (TIS ELF 1.2, "ELF Header", e_shstrndx)
abbrev pub sections_fault : Layout → FileHeader → List ℕ → Option ElfFault
sections_fault layout header bytes =
    let names = section_header_at layout header bytes header.names_index in
    if has_sections header
    then first_fault
    (fault_if (nat_lt (length bytes) (header.section_table + layout.section_header_size * header.section_count)) fault.SectionsPastEnd
    ∷ fault_if (not (nat_lt header.names_index header.section_count) || nat_lt (length bytes) (names.offset + names.size)) fault.NamesMissing
    ∷ [])
    else None
