-- What C is given of an image and its load (own).
use Rattle.std.specs.Prelude.{◌≡◌, ◌==◌, ℕ, List, [], length, map, Option, Some, None, option_map, Result, Ok, Err, if◌then◌else◌}
use Rattle.std.specs.Option.{option_or}
use Rattle.elf_image.specs.Images.{entry_of, image_fault}
use Rattle.elf_image.specs.Segments.{segments_of}
use Rattle.resource_table.specs.Entries.{entries_of}
use Rattle.resource_table.specs.declared.entries.Entry.{Entry}
use Rattle.memory_pool.specs.Placements.{placement}
use Rattle.memory_pool.specs.Regions.{memory_len}
use Rattle.memory_pool.specs.declared.blocks.Block.{Block}
use Rattle.memory_pool.specs.declared.faults.PlaceFault.{PlaceFault}
use Rattle.memory_pool.specs.declared.regions.Region.{Region}
use Rattle.fw_load.specs.Loading.{IsLoaded, load_fault}
use Rattle.fw_load.specs.Memory.{memory_at, memory_of}
use Rattle.fw_load.specs.Rings.{pair_from, trace_of}
use Rattle.fw_load.specs.Tables.{entries_in, patched_in, table_of}
use Rattle.fw_load.specs.declared.rings.RingPair.{RingPair}
use Rattle.fw_load.specs.declared.traces.TraceAt.{TraceAt}
use Rattle.c_forms.specs.Faults.{elf_fault, load_fault_form, no_fault}
use Rattle.c_forms.specs.Forms.{entry_form, no_ring, ring_form, segment_form}
use Rattle.c_forms.specs.Regions.{region_refusal}
use Rattle.c_forms.specs.declared.TheConstants.{DONE, WRONG_LENGTH}
use Rattle.c_forms.specs.declared.entries.CEntry.{CEntry}
use Rattle.c_forms.specs.declared.faults.CFault.{CFault}
use Rattle.c_forms.specs.Tables.{entries_read}
use Rattle.c_forms.specs.declared.loads.CLoad.{CLoad}
use Rattle.c_forms.specs.declared.loads.LoadOver.{LoadOver}
use Rattle.c_forms.specs.declared.segments.CSegment.{CSegment}

-- why an image is none, if it isn't good (own)
abbrev pub image_refusal : List ℕ → Option CFault
image_refusal image = option_map elf_fault (image_fault image)

-- the loaded segments of an image (own)
abbrev pub segments_told : List ℕ → List CSegment
segments_told image = map segment_form (segments_of image)

-- why an image doesn't load over regions: the first region that is refused, or the first fault of the load (own)
abbrev pub refusal : List ℕ → List Region → Option CFault
refusal image regions = option_or (region_refusal [] regions) (option_map load_fault_form (load_fault image regions))

-- the blocks of a placement (own)
abbrev pub blocks_in : Result (List Block) PlaceFault → List Block
blocks_in (Ok blocks) = blocks
blocks_in (Err why) = []

-- where the entries of an image's table are placed in regions (own)
abbrev pub blocks_of : List ℕ → List Region → List Block
blocks_of image regions = blocks_in (placement regions (entries_in (table_of image)))

-- the resource table of an image as it is patched, and nothing where it has none (own)
abbrev pub patched_table : List ℕ → List Region → List ℕ
patched_table image regions = patched_in (table_of image) (blocks_of image regions)

-- the rings of the device for RPMsg of an image's patched table, if it has one (own)
abbrev pub rings_of : List ℕ → List Region → Option RingPair
rings_of image regions = pair_from (blocks_of image regions) 0 (entries_of (patched_table image regions))

-- what is given of an image that doesn't load: why, and zeros (own)
abbrev pub refused_load : CFault → CLoad
refused_load why = record {
  fault = why;
  entry = 0;
  entries = 0;
  memory_len = 0;
  rings = 0;
  service = 0;
  buffers = 0;
  to_host = no_ring;
  to_remote = no_ring;
}

-- what is given of an image that loads, but for its rings (own)
abbrev pub bare_load : ℕ → List ℕ → List Region → CLoad
bare_load start table regions =
    record (refused_load no_fault) { entry = start; entries = length (entries_read table); memory_len = memory_len regions }

-- the same with the rings, where there are any (own)
abbrev pub with_rings : CLoad → Option RingPair → CLoad
with_rings load None = load
with_rings load (Some pair) = record load {
  rings = 1;
  service = if pair.service then 1 else 0;
  buffers = pair.base;
  to_host = ring_form pair.to_host;
  to_remote = ring_form pair.to_remote;
}

-- what is given of an image, by why it doesn't load (own)
abbrev pub load_unless : Option CFault → List ℕ → List Region → CLoad
load_unless None image regions = with_rings (bare_load (entry_of image) (patched_table image regions) regions) (rings_of image regions)
load_unless (Some why) image regions = refused_load why

-- what is given of an image over regions (own)
abbrev pub load_told : List ℕ → List Region → CLoad
load_told image regions = load_unless (refusal image regions) image regions

-- where the bytes of an entry are, if it is a trace and something holds them (own)
abbrev pub trace_place : Option TraceAt → Option ℕ
trace_place None = None
trace_place (Some trace) = trace.at

-- an entry with the place of its bytes (own)
abbrev pub placed_form : (ℕ → ℕ → Option ℕ) → Entry → CEntry
placed_form at one = entry_form (trace_place (trace_of at one)) one

-- the entries of an image's patched table, with the places of traces (own)
abbrev pub entries_told : List ℕ → List Region → List CEntry
entries_told image regions =
    map (placed_form (memory_at regions (blocks_of image regions))) (entries_read (patched_table image regions))

-- the memory of a core after the load of an image (own)
abbrev pub loaded_memory : List ℕ → List Region → List ℕ
loaded_memory image regions = memory_of image regions (blocks_of image regions)

-- the status of a load into a memory: why the image is refused, or whether the memory has as many bytes as all regions (own)
abbrev pub memory_status : Option CFault → List Region → List ℕ → ℕ
memory_status None regions memory = if length memory == memory_len regions then DONE else WRONG_LENGTH
memory_status (Some why) regions memory = why.number

-- a load is that of an image over regions (own)
pub record IsLoadOf (image : List ℕ) (regions : List Region) (found : LoadOver) : Type 0 where
  pub over : found.regions ≡ regions
  pub loaded : IsLoaded image regions found.loaded

-- what is given of a load (own)
abbrev pub loaded_form : LoadOver → CLoad
loaded_form found = with_rings (bare_load found.loaded.entry found.loaded.table found.regions) found.loaded.rings
