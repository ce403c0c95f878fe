-- Fields of an image, the lowest byte first (TIS ELF 1.2, "Data Representation", ELFDATA2LSB).
use Rattle.std.specs.Prelude.{ℕ, List}
use Rattle.std.specs.List.{flat_map}
use Rattle.byteorder.specs.Endian.{little_bytes}

-- a field of one, of two and of four bytes
abbrev pub byte_field : ℕ → List ℕ
byte_field value = little_bytes 1 value

abbrev pub half_field : ℕ → List ℕ
half_field value = little_bytes 2 value

abbrev pub word_field : ℕ → List ℕ
word_field value = little_bytes 4 value

-- fields of four bytes, one after the other
abbrev pub word_fields : List ℕ → List ℕ
word_fields values = flat_map word_field values
