-- What a reader of images keeps.
use Rattle.std.specs.Prelude.{◌≡◌, ℕ, List, Some}
use Rattle.elf_image.specs.Layout.{layout_for, layout_of}
use Rattle.elf_image.specs.Headers.{file_header}
use Rattle.elf_image.specs.Images.{GoodImage}
use Rattle.elf_image.specs.declared.headers.FileHeader.{FileHeader}
use Rattle.elf_image.specs.declared.layouts.Class.{Class}

-- a good image, with its class and the header that was read from it (own)
pub record IsReadImage (bytes : List ℕ) (class : Class) (header : FileHeader) : Type 0 where
  pub good : GoodImage bytes
  pub is_layout : layout_of bytes ≡ Some (layout_for class)
  pub is_header : header ≡ file_header (layout_for class) bytes
