-- The three headers of an image, read off its bytes.
use Rattle.std.specs.Prelude.{ℕ, List}
use Rattle.elf_image.specs.Layout.{field}
use Rattle.elf_image.specs.declared.headers.FileHeader.{FileHeader}
use Rattle.elf_image.specs.declared.headers.ProgramHeader.{ProgramHeader}
use Rattle.elf_image.specs.declared.headers.SectionHeader.{SectionHeader}
use Rattle.elf_image.specs.declared.layouts.Layout.{Layout}

-- the ELF header, which begins the image (System V gABI, "ELF Header")
unfoldable pub file_header : Layout → List ℕ → FileHeader
file_header layout bytes = record {
  entry = field layout.e_entry 0 bytes;
  program_table = field layout.e_phoff 0 bytes;
  section_table = field layout.e_shoff 0 bytes;
  program_header_size = field layout.e_phentsize 0 bytes;
  program_count = field layout.e_phnum 0 bytes;
  section_header_size = field layout.e_shentsize 0 bytes;
  section_count = field layout.e_shnum 0 bytes;
  names_index = field layout.e_shstrndx 0 bytes;
}

-- the program header that begins at a place (System V gABI, "Program Header")
unfoldable pub program_header : Layout → ℕ → List ℕ → ProgramHeader
program_header layout start bytes = record {
  kind = field layout.p_type start bytes;
  offset = field layout.p_offset start bytes;
  physical_address = field layout.p_paddr start bytes;
  file_len = field layout.p_filesz start bytes;
  memory_len = field layout.p_memsz start bytes;
}

-- the section header that begins at a place (System V gABI, "Sections")
unfoldable pub section_header : Layout → ℕ → List ℕ → SectionHeader
section_header layout start bytes = record {
  name = field layout.sh_name start bytes;
  address = field layout.sh_addr start bytes;
  offset = field layout.sh_offset start bytes;
  size = field layout.sh_size start bytes;
}
