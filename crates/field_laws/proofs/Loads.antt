-- What is loaded of an image that is bytes is bytes.
use Rattle.std.proofs.Common.{ℕ, ◌+◌, ◌-◌, List, [], ◌∷◌, ◌++◌, length, take, drop, replicate, Option, Some, None, Ok, Err, unwrap_or}
use Rattle.std.specs.Prelude.{All, IfSome, option_map}
use Rattle.std.specs.List.{slice_index_or}
use Rattle.std.specs.Result.{IfOk, result_ok}
use Rattle.std.proofs.lemmas.List.Elements.{All-head, All-map, All-nil, All-tail}
use Rattle.rp_io.specs.Images.{ImageAnswer}
use Rattle.elf_image.specs.declared.sections.Section.{Section}
use Rattle.elf_image.specs.Layout.{layout_of}
use Rattle.elf_image.specs.Headers.{file_header}
use Rattle.elf_image.specs.Segments.{SegmentAt, loaded_from as headers_from, segment_at, segments_by, segments_of}
use Rattle.resource_table.specs.Entries.{entries_of}
use Rattle.resource_table.specs.Patches.{Write, after_writes, patch_writes}
use Rattle.memory_pool.specs.declared.blocks.Block.{Block}
use Rattle.memory_pool.specs.declared.regions.Region.{Region}
use Rattle.memory_pool.specs.Placements.{placement}
use Rattle.memory_pool.specs.Regions.{memory_len}
use Rattle.addr_translate.specs.Bytes.{with_bytes}
use Rattle.fw_load.specs.Memory.{memory_at, segment_bytes, with_at, with_segments, with_table}
use Rattle.fw_load.specs.Tables.{bytes_in, entries_in, fixes_of, patched_in, table_of, table_section}
use Rattle.crash_recover.specs.CoreBoots.{load_in, load_of, load_over}
use Rattle.crash_recover.specs.Cores.{CoreState}
use Rattle.field_laws.specs.Fields.{AreBytes}
use Rattle.field_laws.specs.FieldCores.{IsFieldLoad}
use Rattle.field_laws.proofs.Bytes.{both_bytes, dropped_bytes, no_bytes, taken_bytes, written_bytes, zero_bytes}

pub with_bytes_are : (at : ℕ) (written bytes : List ℕ) → AreBytes written → AreBytes bytes → AreBytes (with_bytes at written bytes)
with_bytes_are at written bytes are more =
    both_bytes (take at bytes ++ written) (drop (at + length written) bytes) (both_bytes (take at bytes) written (taken_bytes at bytes more) are)
    (dropped_bytes (at + length written) bytes more)

at_bytes : (place : Option ℕ) (written bytes : List ℕ) → AreBytes written → AreBytes bytes → AreBytes (with_at place written bytes)
at_bytes None written bytes are more = more
at_bytes (Some at) written bytes are more = with_bytes_are at written bytes are more

abbrev IsBytesSegment : SegmentAt → Type 0
IsBytesSegment segment = AreBytes segment.file

segment_are : (segment : SegmentAt) → IsBytesSegment segment → AreBytes (segment_bytes segment)
segment_are segment are = both_bytes segment.file (replicate (segment.memory_len - length segment.file) 0) are (zero_bytes (segment.memory_len - length segment.file))

segments_are : (at : ℕ → ℕ → Option ℕ) (segments : List SegmentAt) (memory : List ℕ) → All IsBytesSegment segments → AreBytes memory → AreBytes (with_segments at segments memory)
segments_are at [] memory all are = are
segments_are at (segment ∷ more) memory all are =
    segments_are at more (with_at (at segment.da segment.memory_len) (segment_bytes segment) memory) (All-tail IsBytesSegment segment more all)
    (at_bytes (at segment.da segment.memory_len) (segment_bytes segment) memory (segment_are segment (All-head IsBytesSegment segment more all)) are)

-- a fact of each option
option_cases : {L : Type 0} (P : Option L → Type 0) (found : Option L) → P None → ((one : L) → P (Some one)) → P found
option_cases P None none each = none
option_cases P (Some one) none each = each one

image_segments : (image : List ℕ) → AreBytes image → All IsBytesSegment (segments_of image)
image_segments image are =
    option_cases (λ found. All IsBytesSegment (segments_by found image)) (layout_of image) (All-nil IsBytesSegment)
    (λ layout. All-map IsBytesSegment (segment_at image) (headers_from layout (file_header layout image) image 0)
    (λ at other within. let one = slice_index_or (headers_from layout (file_header layout image) image 0) at other in
    taken_bytes one.header.file_len (drop one.header.offset image) (dropped_bytes one.header.offset image are)))

table_are : (at : ℕ → ℕ → Option ℕ) (section : Option Section) (table memory : List ℕ) → AreBytes table → AreBytes memory → AreBytes (with_table at section table memory)
table_are at None table memory are more = more
table_are at (Some section) table memory are more = at_bytes (at section.address (length table)) table memory are more

written_are : (writes : List Write) (bytes : List ℕ) → AreBytes bytes → AreBytes (after_writes writes bytes)
written_are [] bytes are = are
written_are (write ∷ more) bytes are = written_are more _ (written_bytes write.width write.at write.value bytes are)

patched_are : (table : Option (List ℕ)) (placed : List Block) → IfSome table AreBytes → AreBytes (patched_in table placed)
patched_are None placed are = no_bytes
patched_are (Some table) placed are = written_are (patch_writes table (fixes_of (entries_of table) placed)) table are

section_are : (image : List ℕ) (section : Option Section) → AreBytes image → IfSome (option_map (bytes_in image) section) AreBytes
section_are image None are = tt
section_are image (Some section) are = taken_bytes section.size (drop section.offset image) (dropped_bytes section.offset image are)

loaded_are : (image : List ℕ) (regions : List Region) (placed : List Block) → AreBytes image → IsFieldLoad (load_over image regions placed)
loaded_are image regions placed are =
    let table = patched_are (table_of image) placed (section_are image (table_section image) are) in
    record {
      memory = table_are (memory_at regions placed) (table_section image) (patched_in (table_of image) placed) _ table
          (segments_are (memory_at regions placed) (segments_of image) (replicate (memory_len regions) 0) (image_segments image are) (zero_bytes (memory_len regions)));
      table = table;
    }

from_are : (image : List ℕ) (regions : List Region) → AreBytes image → IsFieldLoad (load_of image regions)
unfolding load_of
from_are image regions are = loaded_are image regions (unwrap_or (result_ok (placement regions (entries_in (table_of image)))) []) are

-- what a load gives of an image that was found, or wasn't
pub load_fields : (core : CoreState) (found : ImageAnswer) → IfOk found AreBytes → IsFieldLoad (load_in core found)
load_fields core (Ok image) are = from_are image core.regions are
load_fields core (Err why) are = from_are [] core.regions no_bytes
