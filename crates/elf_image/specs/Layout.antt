-- Where the headers of an image and their fields are, by its class.
use Rattle.std.specs.Prelude.{◌≡◌, ℕ, ◌+◌, ◌≤◌, ◌⊎◌, List, slice_index, Option, Some, None, option_map, if◌then◌else◌, ◌==◌}
use Rattle.rp_base.specs.Fields.{number_at}
use Rattle.elf_image.specs.declared.layouts.Class.{Class}
use Rattle.elf_image.specs.declared.layouts.Class.TheVariants as class
use Rattle.elf_image.specs.declared.layouts.Field.{Field}
use Rattle.elf_image.specs.declared.layouts.Layout.{Layout}

-- the layout of class ELFCLASS32 (TIS ELF 1.2, figures 1-3, 2-1 and 1-9)
abbrev pub elf32 : Layout
elf32 = record {
  header_size = 52;
  program_header_size = 32;
  section_header_size = 40;
  e_entry = record { at = 24; width = 4 };
  e_phoff = record { at = 28; width = 4 };
  e_shoff = record { at = 32; width = 4 };
  e_phentsize = record { at = 42; width = 2 };
  e_phnum = record { at = 44; width = 2 };
  e_shentsize = record { at = 46; width = 2 };
  e_shnum = record { at = 48; width = 2 };
  e_shstrndx = record { at = 50; width = 2 };
  p_type = record { at = 0; width = 4 };
  p_offset = record { at = 4; width = 4 };
  p_paddr = record { at = 12; width = 4 };
  p_filesz = record { at = 16; width = 4 };
  p_memsz = record { at = 20; width = 4 };
  sh_name = record { at = 0; width = 4 };
  sh_addr = record { at = 12; width = 4 };
  sh_offset = record { at = 16; width = 4 };
  sh_size = record { at = 20; width = 4 };
}

-- the layout of class ELFCLASS64 (System V gABI, "ELF Header", "Program Header", "Sections", the figures of Elf64_Ehdr, Elf64_Phdr and Elf64_Shdr)
abbrev pub elf64 : Layout
elf64 = record {
  header_size = 64;
  program_header_size = 56;
  section_header_size = 64;
  e_entry = record { at = 24; width = 8 };
  e_phoff = record { at = 32; width = 8 };
  e_shoff = record { at = 40; width = 8 };
  e_phentsize = record { at = 54; width = 2 };
  e_phnum = record { at = 56; width = 2 };
  e_shentsize = record { at = 58; width = 2 };
  e_shnum = record { at = 60; width = 2 };
  e_shstrndx = record { at = 62; width = 2 };
  p_type = record { at = 0; width = 4 };
  p_offset = record { at = 8; width = 8 };
  p_paddr = record { at = 24; width = 8 };
  p_filesz = record { at = 32; width = 8 };
  p_memsz = record { at = 40; width = 8 };
  sh_name = record { at = 0; width = 4 };
  sh_addr = record { at = 16; width = 8 };
  sh_offset = record { at = 24; width = 8 };
  sh_size = record { at = 32; width = 8 };
}

-- the layout of a class (System V gABI, "ELF Identification", EI_CLASS)
abbrev pub layout_for : Class → Layout
layout_for class.Elf32 = elf32
layout_for class.Elf64 = elf64

-- the class that a byte names: ELFCLASS32 is 1 and ELFCLASS64 is 2 (System V gABI, "ELF Identification", EI_CLASS)
abbrev pub class_of : ℕ → Option Class
class_of byte = if byte == 1 then Some class.Elf32 else if byte == 2 then Some class.Elf64 else None

-- the layout of an image, by its class byte at place 4 (System V gABI, "ELF Identification")
abbrev pub layout_of : List ℕ → Option Layout
layout_of bytes = option_map layout_for (class_of (slice_index bytes 4))

-- the value of a field of the header that begins at a place (System V gABI, "Data Encoding", ELFDATA2LSB)
abbrev pub field : Field → ℕ → List ℕ → ℕ
field f start bytes = number_at f.width (start + f.at) bytes

-- a field has four bytes or eight, as addresses, offsets and sizes have (own)
abbrev pub IsAddress : Field → Type 0
IsAddress f = (f.width ≡ 4) ⊎ (f.width ≡ 8)

-- fields of an address, of a word and of a half, within a header of so many bytes (own)
abbrev pub IsAddressIn : ℕ → Field → Type 0
IsAddressIn size f = IsAddress f × (f.at + f.width ≤ size)

abbrev pub IsWordIn : ℕ → Field → Type 0
IsWordIn size f = (f.width ≡ 4) × (f.at + 4 ≤ size)

abbrev pub IsHalfIn : ℕ → Field → Type 0
IsHalfIn size f = (f.width ≡ 2) × (f.at + 2 ≤ size)

-- each field that is read lies in its header (own)
pub record HasFields (layout : Layout) : Type 0 where
  pub entry : IsAddressIn layout.header_size layout.e_entry
  pub program_table : IsAddressIn layout.header_size layout.e_phoff
  pub section_table : IsAddressIn layout.header_size layout.e_shoff
  pub program_header_size : IsHalfIn layout.header_size layout.e_phentsize
  pub program_count : IsHalfIn layout.header_size layout.e_phnum
  pub section_header_size : IsHalfIn layout.header_size layout.e_shentsize
  pub section_count : IsHalfIn layout.header_size layout.e_shnum
  pub names_index : IsHalfIn layout.header_size layout.e_shstrndx
  pub kind : IsWordIn layout.program_header_size layout.p_type
  pub offset : IsAddressIn layout.program_header_size layout.p_offset
  pub physical_address : IsAddressIn layout.program_header_size layout.p_paddr
  pub file_len : IsAddressIn layout.program_header_size layout.p_filesz
  pub memory_len : IsAddressIn layout.program_header_size layout.p_memsz
  pub section_name : IsWordIn layout.section_header_size layout.sh_name
  pub section_address : IsAddressIn layout.section_header_size layout.sh_addr
  pub section_offset : IsAddressIn layout.section_header_size layout.sh_offset
  pub section_size : IsAddressIn layout.section_header_size layout.sh_size
