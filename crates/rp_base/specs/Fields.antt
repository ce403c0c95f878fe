-- Little-endian fields of a list of bytes (ELF chapter 1, "Data Representation"; VIRTIO 1.2 section 1.4, "le16", "le32", "le64").
use Rattle.std.specs.Prelude.{ℕ, ◌+◌, List, ◌++◌, take, drop}
use Rattle.byteorder.specs.Endian.{little_number, little_bytes}

-- the number in the `width` bytes from place `at`, the lowest byte first
abbrev pub number_at : ℕ → ℕ → List ℕ → ℕ
number_at width at bytes = little_number width (drop at bytes)

-- the bytes with the number `value` in the `width` bytes from place `at`, and all others as they are
abbrev pub with_number : ℕ → ℕ → ℕ → List ℕ → List ℕ
with_number width at value bytes = (take at bytes ++ little_bytes width value) ++ drop (at + width) bytes
