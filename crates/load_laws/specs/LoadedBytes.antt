-- What is at a device address once an image was loaded (own).
use Rattle.std.specs.Prelude.{ℕ, ◌+◌, ◌-◌, nat_le, nat_lt, Bool, ◌&&◌, List, [], ◌∷◌, length, slice_index, Option, Some, None, is_some, unwrap_or, if◌then◌else◌}
use Rattle.std.specs.Option.{option_or}
use Rattle.elf_image.specs.Segments.{SegmentAt, segments_of}
use Rattle.elf_image.specs.declared.sections.Section.{Section}
use Rattle.memory_pool.specs.declared.blocks.Block.{Block}
use Rattle.memory_pool.specs.declared.regions.Region.{Region}
use Rattle.fw_load.specs.Memory.{memory_at, segment_bytes}
use Rattle.fw_load.specs.Tables.{patched_in, table_of, table_section}

-- whether a range of device addresses has an address
abbrev pub covers : ℕ → ℕ → ℕ → Bool
covers from len da = nat_le from da && nat_lt da (from + len)

-- the byte of a segment at a device address that it covers: that of the image, or a zero after those (TIS ELF 1.2, "Program Header", p_filesz, p_memsz)
abbrev pub segment_byte : SegmentAt → ℕ → Option ℕ
segment_byte segment da = if covers segment.da segment.memory_len da then Some (slice_index (segment_bytes segment) (da - segment.da)) else None

-- the byte of the last of segments that covers a device address
abbrev pub last_segment_byte : List SegmentAt → ℕ → Option ℕ
last_segment_byte [] da = None
last_segment_byte (segment ∷ more) da = option_or (last_segment_byte more da) (segment_byte segment da)

-- the byte of a table at a device address that its section covers, where one block of memory holds the section whole, so that the table is copied there
abbrev pub table_byte : (ℕ → ℕ → Option ℕ) → Option Section → List ℕ → ℕ → Option ℕ
table_byte at None table da = None
table_byte at (Some section) table da =
    if covers section.address (length table) da && is_some (at section.address (length table)) then Some (slice_index table (da - section.address)) else None

-- the byte at a device address that a block of memory holds: that of the patched table, else that of the last segment, else zero
abbrev pub loaded_byte : List ℕ → List Region → List Block → ℕ → ℕ
loaded_byte image regions placed da =
    unwrap_or (option_or (table_byte (memory_at regions placed) (table_section image) (patched_in (table_of image) placed) da) (last_segment_byte (segments_of image) da)) 0
