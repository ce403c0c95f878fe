-- The place of an iterator in a table of headers.
use Rattle.std.specs.Prelude.{◌≡◌, ℕ, ◌+◌, ◌*◌, ◌≤◌, List, length}
use Rattle.elf_image.specs.declared.headers.FileHeader.{FileHeader}
use Rattle.elf_image.specs.declared.layouts.Layout.{Layout}

-- the program headers lie in the image, and the one of a number begins at this place (own)
pub record IsInTable (bytes : List ℕ) (layout : Layout) (header : FileHeader) (index start : ℕ) : Type 0 where
  pub inside : header.program_table + layout.program_header_size * header.program_count ≤ length bytes
  pub at : start ≡ header.program_table + layout.program_header_size * index
