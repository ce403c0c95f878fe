-- The parts of a core's memory that are dumped (own).
use Rattle.std.specs.Prelude.{ℕ, ◌+◌, ◌^◌, ◌≤◌, List, length, sum_by, All}

-- a part: the device address of its first byte, and its bytes
pub record MemoryPart : Type 0 where
  pub da : ℕ
  pub bytes : List ℕ

-- how many bytes a part has (own)
abbrev pub part_len : MemoryPart → ℕ
part_len part = length part.bytes

-- how many bytes parts have (own)
abbrev pub data_len : List MemoryPart → ℕ
data_len parts = sum_by part_len parts

-- a part that is not empty and ends within the device addresses (own)
pub record IsPart (part : MemoryPart) : Type 0 where
  pub some : 1 ≤ part_len part
  pub device : part.da + part_len part ≤ 2 ^ 32

-- 1 to 1,024 parts of at most 16 MiB together (own)
pub record AreParts (parts : List MemoryPart) : Type 0 where
  pub some : 1 ≤ length parts
  pub few : length parts ≤ 1024
  pub small : data_len parts ≤ 16777216
  pub each : All IsPart parts
