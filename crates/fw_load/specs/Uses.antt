-- What the blocks of a placement are for (own). No public clause speaks of this: it serves the contracts of the crate's own functions.
use Rattle.std.specs.Prelude.{◌≡◌, ℕ, ◌<◌, List, length, Option, Some, slice_get, slice_index}
use Rattle.resource_table.specs.declared.entries.Entry.{Entry}
use Rattle.resource_table.specs.declared.entries.Entry.TheVariants as entry
use Rattle.fw_load.specs.Tables.{rings_before}
use Rattle.memory_pool.specs.declared.blocks.Use.{Use}
use Rattle.memory_pool.specs.declared.blocks.Use.TheVariants as usage

-- an entry is a carveout (own)
abbrev pub IsCarveout : Option Entry → Type 0
IsCarveout (Some (entry.Carveout da pa len name)) = Unit {0}
IsCarveout _ = ⊥

-- an entry is a device that has the ring of a number (own)
abbrev pub HasRing : ℕ → Option Entry → Type 0
HasRing number (Some (entry.Device device)) = number < device.count
HasRing number _ = ⊥

-- a block is for an entry that asks for it (own)
abbrev pub IsUseOf : List Entry → Use → Type 0
IsUseOf entries (usage.Carveout index) = IsCarveout (slice_get entries index)
IsUseOf entries (usage.Ring index number) = HasRing number (slice_get entries index)
IsUseOf entries (usage.Window index) = Unit {0}
IsUseOf entries (usage.Buffers index) = Unit {0}

-- the entry that a block is for is among so many (own)
abbrev pub IsUseWithin : ℕ → Use → Type 0
IsUseWithin count (usage.Carveout index) = index < count
IsUseWithin count (usage.Ring index number) = index < count
IsUseWithin count (usage.Window index) = Unit {0}
IsUseWithin count (usage.Buffers index) = Unit {0}

-- how many rings there are before each entry (own)
pub record IsNumbersOf (entries : List Entry) (numbers : List ℕ) : Type 0 where
  pub all : length numbers ≡ length entries
  pub each : (index : ℕ) → index < length entries → slice_index numbers index ≡ rings_before entries index
