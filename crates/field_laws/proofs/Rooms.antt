-- A range of device addresses that has a place stands within the memory of the regions, and a load has at least so much memory.
use Rattle.std.proofs.Common.{◌≡◌, ℕ, ◌+◌, ◌-◌, ◌≤◌, List, [], ◌∷◌, ◌++◌, length, take, drop, map, replicate, Option, Some, None, IfSome, Bool, Result, Ok, Err, not, is_some, slice_range, unwrap_or, subst, sym, ap, ◌∙◌, arith}
use Rattle.std.specs.Prelude.{All, filter}
use Rattle.std.specs.Result.{result_ok}
use Rattle.std.proofs.lemmas.Bool.{cond_both, true≢false}
use Rattle.std.proofs.lemmas.List.{length-append, length-drop, length-replicate, length-take}
use Rattle.std.proofs.lemmas.List.Elements.{All-append, All-contains, All-map}
use Rattle.rp_io.specs.Images.{ImageAnswer}
use Rattle.elf_image.specs.declared.sections.Section.{Section}
use Rattle.elf_image.specs.Segments.{SegmentAt, segments_of}
use Rattle.memory_pool.specs.declared.faults.PlaceFault.{PlaceFault}
use Rattle.memory_pool.specs.declared.blocks.Block.{Block}
use Rattle.memory_pool.specs.declared.blocks.Use.{Use}
use Rattle.memory_pool.specs.declared.blocks.Use.TheVariants as usage
use Rattle.memory_pool.specs.declared.regions.Region.{Region}
use Rattle.memory_pool.specs.Soundness.{SoundRegions}
use Rattle.memory_pool.specs.Placements.{placement}
use Rattle.memory_pool.specs.Regions.{is_pool, memory_len}
use Rattle.memory_pool.proofs.Meets.{within_ends}
use Rattle.addr_translate.specs.Bytes.{with_bytes}
use Rattle.addr_translate.specs.Mapped.{mapped_block, mapped_blocks, mapped_region, memory_place, place_of_use}
use Rattle.addr_translate.specs.Maps.{Mapping}
use Rattle.addr_translate.specs.OrderedMaps.{IsInMemory}
use Rattle.addr_translate.proofs.Sound.{place_inside}
use Rattle.fw_load.specs.Memory.{memory_at, segment_bytes, with_at, with_segments, with_table}
use Rattle.fw_load.specs.Tables.{entries_in, patched_in, table_of, table_section}
use Rattle.fw_load.specs.Loading.{load_fault}
use Rattle.load_laws.proofs.LoadParts.{parts_fit, placed_is_sound}
use Rattle.load_laws.proofs.PlaceParts.{stands_in}
use Rattle.remote_code.specs.declared.faults.WorkerFault.{WorkerFault}
use Rattle.remote_code.specs.declared.records.Record.{Record}
use Rattle.remote_code.specs.declared.records.Record.TheVariants as code
use Rattle.remote_core.specs.Named.{named_bytes, named_place, written_from}
use Rattle.remote_core.specs.Records.{next_record}
use Rattle.remote_core.specs.Workers.{WorkerState}
use Rattle.remote_core.specs.Works.{memory_after, memory_after_next, memory_after_record}
use Rattle.crash_recover.specs.declared.core_faults.StartFault.TheVariants as start_fault
use Rattle.crash_recover.specs.CoreBoots.{image_fault, load_in, load_of, load_over}
use Rattle.crash_recover.specs.Cores.{CoreState}
use Rattle.crash_recover.proofs.PlacedCounts.{loads_few}
use Rattle.core_laws.proofs.Outcomes.{none_mapped}
use Rattle.field_laws.specs.FieldCores.{IsFieldPlaced}

-- ---- places

at_zero : (len most : ℕ) (found : Option ℕ) → IfSome found (λ at. at + len ≤ 0 + most) → IfSome found (λ at. at + len ≤ most)
at_zero len most None is = tt
at_zero len most (Some at) is = omega (arith, is)

place_in : (regions : List Region) (da len : ℕ) → IfSome (memory_place 0 regions da len) (λ at. at + len ≤ memory_len regions)
place_in regions da len = at_zero len (memory_len regions) (memory_place 0 regions da len) (place_inside 0 regions da len)

use_in : (regions : List Region) (purpose : Use) (da len : ℕ) → IfSome (place_of_use regions purpose da len) (λ at. at + len ≤ memory_len regions)
use_in regions (usage.Window index) da len = tt
use_in regions (usage.Carveout index) da len = place_in regions da len
use_in regions (usage.Ring index number) da len = place_in regions da len
use_in regions (usage.Buffers index) da len = place_in regions da len

all_in : (regions : List Region) (placed : List Block) → All (IsInMemory (memory_len regions)) (mapped_blocks regions placed)
all_in regions placed =
    All-append (IsInMemory (memory_len regions)) (map (mapped_region regions) (filter (λ region. not (is_pool region)) regions)) (map (mapped_block regions) placed)
    (All-map (IsInMemory (memory_len regions)) (mapped_region regions) (filter (λ region. not (is_pool region)) regions) (λ at other within. place_in regions _ _))
    (All-map (IsInMemory (memory_len regions)) (mapped_block regions) placed (λ at other within. use_in regions _ _ _))

base_in : (most len base : ℕ) (found : Option ℕ) → found ≡ Some base → IfSome found (λ at. at + len ≤ most) → base + len ≤ most
base_in most len base found is inside = subst (λ (found : Option ℕ). IfSome found (λ at. at + len ≤ most)) is inside

-- a range that has a place stands within the memory
pub range_in : (regions : List Region) (placed : List Block) (da len at : ℕ) → memory_at regions placed da len ≡ Some at → at + len ≤ memory_len regions
range_in regions placed da len at is =
    let one = stands_in regions placed da len at is in
    let ends = within_ends da len one.block.da one.block.len one.whole in
    let base = base_in (memory_len regions) one.block.len one.base one.block.at one.based (All-contains (IsInMemory (memory_len regions)) (mapped_blocks regions placed) one.block (all_in regions placed) one.among) in
    let place = one.place in
    omega (arith, ends.0, ends.1, base, place)

-- ---- what is written makes a memory no shorter

pub no_shorter : (at : ℕ) (written memory : List ℕ) → length memory ≤ length (with_bytes at written memory)
no_shorter at written memory =
    let one = length-append (take at memory) written in
    let both = length-append (take at memory ++ written) (drop (at + length written) memory) in
    let front = length-take at memory in
    let behind = length-drop (at + length written) memory in
    grind (arith, one, both, front, behind)

at_longer : (place : Option ℕ) (written memory : List ℕ) (least : ℕ) → least ≤ length memory → least ≤ length (with_at place written memory)
at_longer None written memory least is = is
at_longer (Some at) written memory least is = let more = no_shorter at written memory in omega (arith, is, more)

segments_longer : (at : ℕ → ℕ → Option ℕ) (segments : List SegmentAt) (memory : List ℕ) (least : ℕ) → least ≤ length memory → least ≤ length (with_segments at segments memory)
segments_longer at [] memory least is = is
segments_longer at (segment ∷ more) memory least is =
    segments_longer at more (with_at (at segment.da segment.memory_len) (segment_bytes segment) memory) least (at_longer (at segment.da segment.memory_len) (segment_bytes segment) memory least is)

table_longer : (at : ℕ → ℕ → Option ℕ) (section : Option Section) (table memory : List ℕ) (least : ℕ) → least ≤ length memory → least ≤ length (with_table at section table memory)
table_longer at None table memory least is = is
table_longer at (Some section) table memory least is = at_longer (at section.address (length table)) table memory least is

loaded_room : (image : List ℕ) (regions : List Region) (placed : List Block) → memory_len regions ≤ length (load_over image regions placed).memory
loaded_room image regions placed =
    let zeros = length-replicate {A = ℕ} (memory_len regions) 0 in
    table_longer (memory_at regions placed) (table_section image) (patched_in (table_of image) placed) _ (memory_len regions)
    (segments_longer (memory_at regions placed) (segments_of image) (replicate (memory_len regions) 0) (memory_len regions) (omega (arith, zeros)))

from_room : (image : List ℕ) (regions : List Region) → memory_len regions ≤ length (load_of image regions).memory
unfolding load_of
from_room image regions = loaded_room image regions (unwrap_or (result_ok (placement regions (entries_in (table_of image)))) [])

-- where the entries of a table are placed
placed_in : Result (List Block) PlaceFault → List Block
placed_in found = unwrap_or (result_ok found) []

image_placed : (image : List ℕ) (regions : List Region) → SoundRegions regions → load_fault image regions ≡ None → IsFieldPlaced regions (load_of image regions)
unfolding load_of placed_in
image_placed image regions sound loads =
    let fits = parts_fit image regions loads in
    let placed = placed_in (placement regions (entries_in (table_of image))) in
    let is : placement regions (entries_in (table_of image)) ≡ Ok placed = fits.placed ∙ ap Ok (sym (ap placed_in fits.placed)) in
    let held = placed_is_sound image regions placed sound fits.table is in
    record {
      memory = from_room image regions;
      few = (loads_few image regions placed loads is).0;
      ranges = λ at other within. let device = (held.ranges at other within).device in omega (arith, device);
    }

-- what is loaded of an image that nothing refuses
pub load_placed : (core : CoreState) (found : ImageAnswer) → SoundRegions core.regions → image_fault core found ≡ None → IsFieldPlaced core.regions (load_in core found)
load_placed core (Ok image) sound none = image_placed image core.regions sound (none_mapped start_fault.Load (load_fault image core.regions) none)
load_placed core (Err why) sound none = absurd (true≢false (ap is_some none))

-- ---- what a worker leaves of the memory

written_longer : (memory bytes : List ℕ) (place : Result ℕ WorkerFault) (least : ℕ) → least ≤ length memory → least ≤ length (written_from memory bytes place)
written_longer memory bytes (Ok at) least is = let more = no_shorter at bytes memory in omega (arith, is, more)
written_longer memory bytes (Err why) least is = is

record_longer : (memory : List ℕ) (map : Mapping) (op : Record) (least : ℕ) → least ≤ length memory → least ≤ length (memory_after_record memory map op)
record_longer memory map (code.Trace n a c) least is = written_longer memory (named_bytes memory map c n) (named_place map a n) least is
record_longer memory map code.Halt least is = is
record_longer memory map (code.Announce a b c) least is = is
record_longer memory map (code.Bind a) least is = is
record_longer memory map (code.Send n a b c) least is = is
record_longer memory map (code.Raw n c) least is = is
record_longer memory map code.Take least is = is
record_longer memory map (code.Crash a) least is = is
record_longer memory map (code.Loop a b) least is = is

next_longer : (memory : List ℕ) (map : Mapping) (found : Result Record WorkerFault) (least : ℕ) → least ≤ length memory → least ≤ length (memory_after_next memory map found)
next_longer memory map (Ok op) least is = record_longer memory map op least is
next_longer memory map (Err why) least is = is

pub memory_longer : (memory : List ℕ) (map : Mapping) (linked : Bool) (worker : WorkerState) (least : ℕ) → least ≤ length memory → least ≤ length (memory_after memory map linked worker)
memory_longer memory map linked worker least is =
    cond_both worker.is_halted memory (memory_after_next memory map (next_record memory map linked worker)) (λ (left : List ℕ). least ≤ length left) (λ _. is)
    (λ _. next_longer memory map (next_record memory map linked worker) least is)

-- ---- a range of memory

pub slice_some : (memory : List ℕ) (at len : ℕ) → 1 ≤ len → at + len ≤ length memory → 1 ≤ length (slice_range memory at (at + len))
slice_some memory at len some within =
    let taken = length-take (at + len - at) (drop at memory) in
    let left = length-drop at memory in
    grind (arith, taken, left, some, within)
