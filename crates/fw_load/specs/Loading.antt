-- Which images are loaded, and what a load gives (own).
use Rattle.std.specs.Prelude.{◌≡◌, ℕ, IfSome, All, length, List, [], ◌∷◌, map, Option, Some, None, option_map, is_none, Result, Ok, Err}
use Rattle.elf_image.specs.Images.{entry_of, image_fault}
use Rattle.elf_image.specs.Segments.{SegmentAt, segments_of}
use Rattle.memory_pool.specs.Placements.{placement}
use Rattle.memory_pool.specs.Soundness.{SoundPlacement}
use Rattle.memory_pool.specs.declared.blocks.Block.{Block}
use Rattle.memory_pool.specs.declared.faults.PlaceFault.{PlaceFault}
use Rattle.memory_pool.specs.declared.regions.Region.{Region}
use Rattle.addr_translate.specs.Maps.{IsMapOf}
use Rattle.rp_base.specs.Faults.{fault_if, first_fault}
use Rattle.fw_load.specs.Memory.{memory_at, memory_of}
use Rattle.fw_load.specs.Rings.{HasBuffers, IsSoundPair, IsTraceIn, pair_from, traces_of}
use Rattle.resource_table.specs.Entries.{entries_of}
use Rattle.fw_load.specs.Tables.{entries_in, patched_in, section_fault, table_of, table_section}
use Rattle.fw_load.specs.declared.faults.LoadFault.{LoadFault}
use Rattle.fw_load.specs.declared.faults.LoadFault.TheVariants as fault
use Rattle.fw_load.specs.declared.loading.Loaded.{Loaded}

-- the test of a segment: one block of memory holds it whole (own)
abbrev pub segment_unmapped : (ℕ → ℕ → Option ℕ) → SegmentAt → Option LoadFault
segment_unmapped at segment =
    fault_if (is_none (at segment.da segment.memory_len)) (fault.SegmentUnmapped segment.index)

-- the first fault of segments, one after the other (own)
abbrev pub segments_unmapped : (ℕ → ℕ → Option ℕ) → List SegmentAt → Option LoadFault
segments_unmapped at segments = first_fault (map (segment_unmapped at) segments)

-- the test of the entry: one block of memory holds the 16 bytes of its record (own)
abbrev pub entry_unmapped : (ℕ → ℕ → Option ℕ) → ℕ → Option LoadFault
entry_unmapped at entry = fault_if (is_none (at entry 16)) fault.EntryUnmapped

-- the tests of an image by what is mapped: segment by segment, then the entry (own)
abbrev pub mapped_fault : List ℕ → List Region → List Block → Option LoadFault
mapped_fault image regions placed = first_fault
    (segments_unmapped (memory_at regions placed) (segments_of image) ∷ entry_unmapped (memory_at regions placed) (entry_of image) ∷ [])

-- the tests after the placement, or its refusal (own)
abbrev pub placed_fault : List ℕ → List Region → Result (List Block) PlaceFault → Option LoadFault
placed_fault image regions (Err refused) = Some (fault.Place refused)
placed_fault image regions (Ok placed) = mapped_fault image regions placed

-- the first of all tests that fails: the image, its table, the placement, its segments, and its entry (own)
abbrev pub load_fault : List ℕ → List Region → Option LoadFault
load_fault image regions = first_fault
    (option_map fault.Elf (image_fault image)
    ∷ option_map fault.Table (section_fault image (table_section image))
    ∷ placed_fault image regions (placement regions (entries_in (table_of image)))
    ∷ [])

-- an image that may be loaded (own)
abbrev pub Loads : List ℕ → List Region → Type 0
Loads image regions = load_fault image regions ≡ None

-- what a load gives; its rings and its traces are those that the patched table has (own)
pub record IsLoaded (image : List ℕ) (regions : List Region) (loaded : Loaded) : Type 0 where
  pub placed : placement regions (entries_in (table_of image)) ≡ Ok loaded.placed.blocks.items
  pub held : SoundPlacement regions loaded.placed.blocks.items
  pub map : IsMapOf regions loaded.placed.blocks.items loaded.map
  pub memory : loaded.memory ≡ memory_of image regions loaded.placed.blocks.items
  pub length : length loaded.memory ≡ loaded.map.memory_len
  pub table : loaded.table ≡ patched_in (table_of image) loaded.placed.blocks.items
  pub entry : loaded.entry ≡ entry_of image
  pub rings : loaded.rings ≡ pair_from loaded.placed.blocks.items 0 (entries_of loaded.table)
  pub traces : loaded.traces.items ≡ traces_of (memory_at regions loaded.placed.blocks.items) (entries_of loaded.table)
  pub sound : IfSome loaded.rings IsSoundPair
  pub buffers : IfSome loaded.rings HasBuffers
  pub inside : All (IsTraceIn loaded.map.memory_len) loaded.traces.items
