-- What an image is refused for that is bytes is numbered within 64 bits: a program header, or an entry of its table.
use Rattle.std.proofs.Common.{◌≡◌, ℕ, zero, suc, ◌+◌, ◌-◌, ◌*◌, ◌<◌, ◌≤◌, ◌^◌, ◌==◌, ◌&&◌, ◌||◌, not, Bool, List, [], ◌∷◌, ◌++◌, length, take, map, Option, Some, None, IfSome, Result, Ok, Err, refl, arith}
use Rattle.std.specs.Prelude.{All, bytes_eq, filter, is_none, nat_lt, option_map, slice_index}
use Rattle.std.specs.List.{list_any, range_with_len, slice_index_or}
use Rattle.std.specs.Option.{option_or}
use Rattle.std.specs.Result.{IfErr}
use Rattle.std.proofs.lemmas.Bool.{cond_both}
use Rattle.std.proofs.lemmas.List.Elements.{All-append, All-cons, All-filter, All-head, All-map, All-nil, All-tail}
use Rattle.rp_base.specs.Faults.{fault_if, first_fault}
use Rattle.rp_base.specs.Limits.{is_ring_size}
use Rattle.elf_image.specs.declared.faults.ElfFault.{ElfFault}
use Rattle.elf_image.specs.declared.faults.ElfFault.TheVariants as elf_fault
use Rattle.elf_image.specs.declared.sections.Section.{Section}
use Rattle.elf_image.specs.Faults.{fault_index as elf_index}
use Rattle.elf_image.specs.Headers.{file_header}
use Rattle.elf_image.specs.Images.{contents_fault, entry_of as entry_address, header_fault, header_size_of, identification_fault, image_fault}
use Rattle.elf_image.specs.Layout.{elf32, elf64, layout_for, layout_of}
use Rattle.elf_image.specs.Segments.{SegmentAt, is_loaded, is_wide, loaded_from, numbered_header, segment_at, segment_fault, segments_by, segments_fault, segments_of}
use Rattle.elf_image.specs.Sections.{has_sections, section_header_at, sections_fault}
use Rattle.resource_table.specs.declared.entries.Entry.{Entry}
use Rattle.resource_table.specs.declared.entries.Entry.TheVariants as entry
use Rattle.resource_table.specs.declared.entries.Vdev.{Vdev}
use Rattle.resource_table.specs.declared.faults.TableFault.{TableFault}
use Rattle.resource_table.specs.declared.faults.TableFault.TheVariants as table_fault
use Rattle.resource_table.specs.Entries.{entry_count, ring_count, start_of, type_at, vring_at, vring_start}
use Rattle.resource_table.specs.Faults.{fault_index as table_index}
use Rattle.resource_table.specs.Layout.{field, fw_rsc_hdr, resource_table}
use Rattle.resource_table.specs.Tables.{device_fault, device_size, earlier_spans, entry_span, fixed_size, has_wrong_offsets, has_wrong_ring_count, is_ring_align, is_rpmsg, spans_meet, uses_reserved, entries_fault, entry_fault, form_fault, header_fault as table_header_fault, ring_fault_at, rings_fault, table_fault as fault_of_table, varying_fault}
use Rattle.memory_pool.specs.declared.blocks.Block.{Block}
use Rattle.memory_pool.specs.declared.blocks.Use.{Use}
use Rattle.memory_pool.specs.declared.blocks.Use.TheVariants as usage
use Rattle.memory_pool.specs.declared.faults.PlaceFault.{PlaceFault}
use Rattle.memory_pool.specs.declared.faults.PlaceFault.TheVariants as place_fault
use Rattle.memory_pool.specs.declared.regions.Region.{Region}
use Rattle.memory_pool.specs.Faults.{place_fault_index}
use Rattle.memory_pool.specs.Placements.{placed_from, placement, then_ok}
use Rattle.memory_pool.specs.Places.{any_at, block_in, entry_of, memory_of as blocks_of, windows_of, given_in, least_free, next_block, pool_of, window_at}
use Rattle.memory_pool.specs.Ranges.{meets_block, meets_region}
use Rattle.memory_pool.specs.Wanted.{buffers_wanted, in_order, is_anywhere, memory_wanted, ring_wanted, rings_wanted, wanted_by, wanted_from}
use Rattle.fw_load.specs.declared.faults.LoadFault.{LoadFault}
use Rattle.fw_load.specs.declared.faults.LoadFault.TheVariants as fault
use Rattle.fw_load.specs.Loading.{entry_unmapped, load_fault, mapped_fault, placed_fault, segment_unmapped, segments_unmapped}
use Rattle.fw_load.specs.Memory.{memory_at}
use Rattle.fw_load.specs.Tables.{bytes_in, entries_in, section_fault, table_of, table_section}
use Rattle.field_laws.specs.Fields.{AreBytes}
use Rattle.field_laws.specs.FieldCores.{IsFieldRefused}
use Rattle.field_laws.proofs.Bytes.{dropped_bytes, half_small, taken_bytes, word_small}
use Rattle.field_laws.proofs.Tables.{entries_few}

abbrev IsNumber : ℕ → Type 0
IsNumber number = number < 2 ^ 64

-- ---- first faults

or_has : {F : Type 0} (P : F → Type 0) (one other : Option F) → IfSome one P → IfSome other P → IfSome (option_or one other) P
or_has P None other is rest = rest
or_has P (Some found) other is rest = is

if_has : {F : Type 0} (P : F → Type 0) (test : Bool) (found : F) → P found → IfSome (fault_if test found) P
if_has {F} P test found is = cond_both test (Some found) None (λ (fault : Option F). IfSome fault P) (λ _. is) (λ _. tt)

map_has : {E F : Type 0} (P : E → Type 0) (Q : F → Type 0) (f : E → F) (found : Option E) → ((one : E) → P one → Q (f one)) → IfSome found P → IfSome (option_map f found) Q
map_has P Q f None each is = tt
map_has P Q f (Some one) each is = each one is

each_has : {X F : Type 0} (P : F → Type 0) (Q : X → Type 0) (f : X → Option F) (items : List X) → ((one : X) → Q one → IfSome (f one) P) → All Q items → IfSome (first_fault (map f items)) P
each_has P Q f [] each all = tt
each_has P Q f (first ∷ more) each all =
    or_has P (f first) (first_fault (map f more)) (each first (All-head Q first more all)) (each_has P Q f more each (All-tail Q first more all))

range_small : (from count : ℕ) → from + count ≤ 2 ^ 64 → All IsNumber (range_with_len from count)
range_small from zero fits = All-nil IsNumber
range_small from (suc count) fits = All-cons IsNumber from (range_with_len (from + 1) count) (omega (arith, fits)) (range_small (from + 1) count (omega (arith, fits)))

-- ---- images

abbrev IsFieldElf : ElfFault → Type 0
IsFieldElf why = IfSome (elf_index why) IsNumber

-- numbered headers, of which so many are
numbered_small : {N : Type 0} (number : N → ℕ) (f : ℕ → N) (test : N → Bool) (count : ℕ) → ((index : ℕ) → number (f index) ≡ index) → count ≤ 2 ^ 64
    → All (λ one. IsNumber (number one)) (filter test (map f (range_with_len 0 count)))
numbered_small {N} number f test count same few =
    All-filter test (λ (one : N). IsNumber (number one)) (map f (range_with_len 0 count))
    (All-map (λ (one : N). IsNumber (number one)) f (range_with_len 0 count)
    (λ at other within. let index = slice_index_or (range_with_len 0 count) at other in
    let small = range_small 0 count (omega (arith, few)) at other within in
    let is = same index in omega (arith, small, is)))

abbrev IsElfTest : Option ElfFault → Type 0
IsElfTest found = IfSome found IsFieldElf

plain : (test : Bool) (why : ElfFault) (later : Option ElfFault) → IsFieldElf why → IsElfTest later → IsElfTest (option_or (fault_if test why) later)
plain test why later is rest = or_has IsFieldElf (fault_if test why) later (if_has IsFieldElf test why is) rest

identified : (image : List ℕ) → IsElfTest (identification_fault image)
identified image =
    let five = fault_if (nat_lt (length image) (header_size_of (layout_of image))) elf_fault.Short in
    let four = fault_if (not (slice_index image 5 == 1)) elf_fault.Order in
    let three = fault_if (is_none (layout_of image)) elf_fault.Class in
    let two = fault_if (not (bytes_eq (take 4 image) (0x7f ∷ 0x45 ∷ 0x4c ∷ 0x46 ∷ []))) elf_fault.Magic in
    plain (nat_lt (length image) elf32.header_size) elf_fault.Short (option_or two (option_or three (option_or four (option_or five None)))) tt
    (plain (not (bytes_eq (take 4 image) (0x7f ∷ 0x45 ∷ 0x4c ∷ 0x46 ∷ []))) elf_fault.Magic (option_or three (option_or four (option_or five None))) tt
    (plain (is_none (layout_of image)) elf_fault.Class (option_or four (option_or five None)) tt
    (plain (not (slice_index image 5 == 1)) elf_fault.Order (option_or five None) tt
    (plain (nat_lt (length image) (header_size_of (layout_of image))) elf_fault.Short None tt tt))))

-- faults that name no header, one after the other
unnumbered : (one : Bool) (two : Bool) (three : Bool) (four : Bool) (five : Bool) (a b c d e : ElfFault) → IsFieldElf a → IsFieldElf b → IsFieldElf c → IsFieldElf d → IsFieldElf e
    → IsElfTest (first_fault (fault_if one a ∷ fault_if two b ∷ fault_if three c ∷ fault_if four d ∷ fault_if five e ∷ []))
unnumbered one two three four five a b c d e is_a is_b is_c is_d is_e =
    plain one a (option_or (fault_if two b) (option_or (fault_if three c) (option_or (fault_if four d) (option_or (fault_if five e) None)))) is_a
    (plain two b (option_or (fault_if three c) (option_or (fault_if four d) (option_or (fault_if five e) None))) is_b
    (plain three c (option_or (fault_if four d) (option_or (fault_if five e) None)) is_c
    (plain four d (option_or (fault_if five e) None) is_d (plain five e None is_e tt))))

segment_has : {N : Type 0} (number : N → ℕ) (fault : N → Option ElfFault) (headers : List N) → ((one : N) → IsNumber (number one) → IsElfTest (fault one)) → All (λ one. IsNumber (number one)) headers
    → IsElfTest (first_fault (map fault headers))
segment_has {N} number fault headers each all = each_has IsFieldElf (λ (one : N). IsNumber (number one)) fault headers each all

-- the tests behind the identification, by a layout whose program headers are few
contents_has : (layout : _) (image : List ℕ) → (file_header layout image).program_count ≤ 2 ^ 64 → IsElfTest (contents_fault (Some layout) image)
contents_has layout image few =
    let header = file_header layout image in
    or_has IsFieldElf (header_fault layout header (length image)) (option_or (segments_fault (length image) (loaded_from layout header image 0)) (option_or (sections_fault layout header image) None))
    (unnumbered (header.program_count == 65535 || header.names_index == 65535 || (has_sections header && header.section_count == 0)) (header.program_count == 0)
    (not (header.program_header_size == layout.program_header_size) || (has_sections header && not (header.section_header_size == layout.section_header_size)))
    (nat_lt (length image) (header.program_table + layout.program_header_size * header.program_count)) (nat_lt 0xffffffff header.entry)
    elf_fault.Numbering elf_fault.NoSegments elf_fault.EntrySize elf_fault.HeadersPastEnd elf_fault.WideEntry tt tt tt tt tt)
    (or_has IsFieldElf (segments_fault (length image) (loaded_from layout header image 0)) (option_or (sections_fault layout header image) None)
    (segment_has (λ one. one.index) (segment_fault (length image)) (loaded_from layout header image 0)
    (λ one small. plain (is_wide one) (elf_fault.WideAddress one.index) _ small
    (plain (nat_lt one.header.memory_len one.header.file_len) (elf_fault.FileOverMemory one.index) _ small
    (plain (nat_lt (length image) (one.header.offset + one.header.file_len)) (elf_fault.SegmentPastEnd one.index) None small tt)))
    (numbered_small (λ one. one.index) (numbered_header layout header image) is_loaded (header.program_count - 0) (λ index. refl) (omega (arith, few))))
    (or_has IsFieldElf (sections_fault layout header image) None
    (cond_both (has_sections header) _ None IsElfTest
    (λ _. let names = section_header_at layout header image header.names_index in
    let missing = not (nat_lt header.names_index header.section_count) || nat_lt (length image) (names.offset + names.size) in
    plain (nat_lt (length image) (header.section_table + layout.section_header_size * header.section_count)) elf_fault.SectionsPastEnd (option_or (fault_if missing elf_fault.NamesMissing) None) tt
    (plain missing elf_fault.NamesMissing None tt tt)) (λ _. tt)) tt))

contents_of : (image : List ℕ) → AreBytes image → IsElfTest (contents_fault (layout_of image) image)
unfolding file_header
contents_of image are =
    let byte = slice_index image 4 in
    let narrow = half_small 44 image are in
    let wide = half_small 56 image are in
    cond_both (byte == 1) _ _ (λ class. IsElfTest (contents_fault (option_map layout_for class) image)) (λ _. contents_has elf32 image (omega (arith, narrow)))
    (λ _. cond_both (byte == 2) _ None (λ class. IsElfTest (contents_fault (option_map layout_for class) image)) (λ _. contents_has elf64 image (omega (arith, wide))) (λ _. tt))

image_has : (image : List ℕ) → AreBytes image → IsElfTest (image_fault image)
image_has image are =
    or_has IsFieldElf (identification_fault image) (option_or (contents_fault (layout_of image) image) None) (identified image)
    (or_has IsFieldElf (contents_fault (layout_of image) image) None (contents_of image are) tt)

-- ---- tables

abbrev IsFieldTable : TableFault → Type 0
IsFieldTable why = IfSome (table_index why) IsNumber

abbrev IsTableTest : Option TableFault → Type 0
IsTableTest found = IfSome found IsFieldTable

tabled : (test : Bool) (why : TableFault) (later : Option TableFault) → IsFieldTable why → IsTableTest later → IsTableTest (option_or (fault_if test why) later)
tabled test why later is rest = or_has IsFieldTable (fault_if test why) later (if_has IsFieldTable test why is) rest

table_header : (bytes : List ℕ) → IsTableTest (table_header_fault bytes)
table_header bytes =
    let four = fault_if (has_wrong_offsets bytes) table_fault.Offsets in
    let three = fault_if (not (field resource_table.reserved 0 bytes == 0)) table_fault.Reserved in
    let two = fault_if (not (field resource_table.ver 0 bytes == 1)) table_fault.Version in
    tabled (nat_lt (length bytes) resource_table.size) table_fault.TableShort (option_or two (option_or three (option_or four None))) tt
    (tabled (not (field resource_table.ver 0 bytes == 1)) table_fault.Version (option_or three (option_or four None)) tt
    (tabled (not (field resource_table.reserved 0 bytes == 0)) table_fault.Reserved (option_or four None) tt
    (tabled (has_wrong_offsets bytes) table_fault.Offsets None tt tt)))

module _ (bytes : List ℕ) (index : ℕ) (small : index < 2 ^ 64) where
  one_ring : (start ring : ℕ) → IsTableTest (ring_fault_at bytes index start ring)
  one_ring start ring =
      let at = vring_at bytes (vring_start start ring) in
      tabled (not (is_ring_size at.num)) (table_fault.RingSize index) (option_or (fault_if (not (is_ring_align at.align)) (table_fault.RingAlign index)) None) small
      (tabled (not (is_ring_align at.align)) (table_fault.RingAlign index) None small tt)

  all_rings : (start : ℕ) → IsTableTest (rings_fault bytes index start)
  all_rings start =
      each_has IsFieldTable (λ (ring : ℕ). Unit {0}) (ring_fault_at bytes index start) (range_with_len 0 (ring_count bytes start)) (λ ring _. one_ring start ring) (λ at other within. tt)

  one_device : (start : ℕ) → IsTableTest (device_fault bytes index start)
  one_device start =
      tabled (has_wrong_ring_count bytes start) (table_fault.RingCount index)
      (option_or (fault_if (nat_lt (length bytes) (start + device_size bytes start)) (table_fault.EntryShort index)) (option_or (rings_fault bytes index start) None)) small
      (tabled (nat_lt (length bytes) (start + device_size bytes start)) (table_fault.EntryShort index) (option_or (rings_fault bytes index start) None) small
      (or_has IsFieldTable (rings_fault bytes index start) None (all_rings start) tt))

  varying : (start : ℕ) → IsTableTest (varying_fault (type_at bytes start) bytes index start)
  varying start =
      let number = field fw_rsc_hdr.type start bytes in
      cond_both (number == 0) _ _ (λ kind. IsTableTest (varying_fault kind bytes index start)) (λ _. tt)
      (λ _. cond_both (number == 1) _ _ (λ kind. IsTableTest (varying_fault kind bytes index start)) (λ _. tt)
      (λ _. cond_both (number == 2) _ _ (λ kind. IsTableTest (varying_fault kind bytes index start)) (λ _. tt)
      (λ _. cond_both (number == 3) _ _ (λ kind. IsTableTest (varying_fault kind bytes index start)) (λ _. one_device start) (λ _. tt))))

  formed : IsTableTest (form_fault bytes index)
  formed =
      let start = start_of bytes index in
      let kind = type_at bytes start in
      tabled (nat_lt (length bytes) (start + fixed_size kind)) (table_fault.EntryShort index)
      (option_or (fault_if (uses_reserved kind bytes start) (table_fault.EntryReserved index)) (option_or (varying_fault kind bytes index start) None)) small
      (tabled (uses_reserved kind bytes start) (table_fault.EntryReserved index) (option_or (varying_fault kind bytes index start) None) small
      (or_has IsFieldTable (varying_fault kind bytes index start) None (varying start) tt))

  one_entry : IsTableTest (entry_fault bytes index)
  one_entry =
      let second = is_rpmsg bytes index && list_any (is_rpmsg bytes) (range_with_len 0 index) in
      let meets = list_any (spans_meet (entry_span bytes index)) (earlier_spans bytes index) in
      or_has IsFieldTable (form_fault bytes index) (option_or (fault_if second (table_fault.SecondRpmsg index)) (option_or (fault_if meets table_fault.Offsets) None)) formed
      (tabled second (table_fault.SecondRpmsg index) (option_or (fault_if meets table_fault.Offsets) None) small (tabled meets table_fault.Offsets None tt tt))

table_has : (bytes : List ℕ) → AreBytes bytes → IsTableTest (fault_of_table bytes)
table_has bytes are =
    let few = word_small 4 bytes are in
    or_has IsFieldTable (table_header_fault bytes) (option_or (entries_fault bytes) None) (table_header bytes)
    (or_has IsFieldTable (entries_fault bytes) None
    (each_has IsFieldTable IsNumber (entry_fault bytes) (range_with_len 0 (entry_count bytes)) (λ index small. one_entry bytes index small) (range_small 0 (entry_count bytes) (omega (arith, few)))) tt)

section_has : (image : List ℕ) (found : Option Section) → AreBytes image → IsTableTest (section_fault image found)
section_has image None are = tt
section_has image (Some section) are =
    cond_both (nat_lt (length image) (section.offset + section.size)) (Some table_fault.TableShort) (fault_of_table (bytes_in image section)) IsTableTest (λ _. tt)
    (λ _. table_has (bytes_in image section) (taken_bytes section.size _ (dropped_bytes section.offset image are)))

-- ---- placements

abbrev IsFieldPlace : PlaceFault → Type 0
IsFieldPlace why = IfSome (place_fault_index why) IsNumber

abbrev ArePlaced : {B : Type 0} → Result B PlaceFault → Type 0
ArePlaced found = IfErr found IsFieldPlace

-- a wish of an entry whose number is within 64 bits, by what is said of it where it is not placed
abbrev IsFieldWanted : {W : Type 0} → (List Region → List Block → W → Result Block PlaceFault) → W → Type 0
IsFieldWanted next one = (regions : List Region) (before : List Block) → ArePlaced (next regions before one)

given_has : (found : Option Region) (before : List Block) (purpose : Use) (da len : ℕ) → IsNumber (entry_of purpose) → ArePlaced (given_in found before purpose da len)
given_has None before purpose da len small = small
given_has (Some pool) before purpose da len small =
    cond_both (list_any (meets_block da len) (blocks_of before)) (Err (place_fault.FixedOverlap (entry_of purpose))) (Ok (block_in pool purpose len da)) ArePlaced (λ _. small) (λ _. tt)

any_has : (found : Option Block) (purpose : Use) → IsNumber (entry_of purpose) → ArePlaced (any_at found purpose)
any_has None purpose small = small
any_has (Some block) purpose small = tt

window_has : (regions : List Region) (before : List Block) (index da pa len : ℕ) → IsNumber index → ArePlaced (window_at regions before index da pa len)
window_has regions before index da pa len small =
    cond_both (nat_lt (2 ^ 32) (da + len) || nat_lt (2 ^ 32) (pa + len)) (Err (place_fault.WindowPastEnd index)) _ ArePlaced (λ _. small)
    (λ _. cond_both (list_any (meets_region da len) regions || list_any (meets_block da len) (windows_of before)) (Err (place_fault.WindowOverlap index)) _ ArePlaced (λ _. small) (λ _. tt))

memory_has : (purpose : Use) (da len align : ℕ) → IsNumber (entry_of purpose) → IsFieldWanted next_block (memory_wanted purpose da len align)
memory_has purpose da len align small =
    cond_both (da == 0xffffffff) _ _ (IsFieldWanted next_block) (λ _ regions before. any_has (least_free regions before purpose len align) purpose small)
    (λ _ regions before. given_has (pool_of regions da len) before purpose da len small)

rings_have : (index : ℕ) (device : Vdev) → IsNumber index → All (IsFieldWanted next_block) (rings_wanted index device)
rings_have index device small =
    All-append (IsFieldWanted next_block) _ _
    (cond_both (nat_lt 0 device.count) (ring_wanted index 0 device.first ∷ []) [] (All (IsFieldWanted next_block))
    (λ _. All-cons (IsFieldWanted next_block) (ring_wanted index 0 device.first) [] (memory_has (usage.Ring index 0) device.first.da _ device.first.align small) (All-nil (IsFieldWanted next_block)))
    (λ _. All-nil (IsFieldWanted next_block)))
    (cond_both (nat_lt 1 device.count) (ring_wanted index 1 device.second ∷ []) [] (All (IsFieldWanted next_block))
    (λ _. All-cons (IsFieldWanted next_block) (ring_wanted index 1 device.second) [] (memory_has (usage.Ring index 1) device.second.da _ device.second.align small) (All-nil (IsFieldWanted next_block)))
    (λ _. All-nil (IsFieldWanted next_block)))

buffers_have : (index : ℕ) (device : Vdev) → IsNumber index → All (IsFieldWanted next_block) (buffers_wanted index device)
buffers_have index device small =
    cond_both (device.id == 7) _ [] (All (IsFieldWanted next_block))
    (λ _. All-cons (IsFieldWanted next_block) _ [] (λ regions before. any_has (least_free regions before (usage.Buffers index) _ 4096) (usage.Buffers index) small) (All-nil (IsFieldWanted next_block)))
    (λ _. All-nil (IsFieldWanted next_block))

wanted_have : (index : ℕ) (one : Entry) → IsNumber index → All (IsFieldWanted next_block) (wanted_by index one)
wanted_have index (entry.Carveout da pa len name) small =
    cond_both (len == 0) [] (memory_wanted (usage.Carveout index) da len 4096 ∷ []) (All (IsFieldWanted next_block)) (λ _. All-nil (IsFieldWanted next_block))
    (λ _. All-cons (IsFieldWanted next_block) (memory_wanted (usage.Carveout index) da len 4096) [] (memory_has (usage.Carveout index) da len 4096 small) (All-nil (IsFieldWanted next_block)))
wanted_have index (entry.Devmem da pa len name) small =
    cond_both (len == 0) [] _ (All (IsFieldWanted next_block)) (λ _. All-nil (IsFieldWanted next_block))
    (λ _. All-cons (IsFieldWanted next_block) _ [] (λ regions before. window_has regions before index da pa len small) (All-nil (IsFieldWanted next_block)))
wanted_have index (entry.Trace da len name) small = All-nil (IsFieldWanted next_block)
wanted_have index (entry.Device device) small =
    All-append (IsFieldWanted next_block) (rings_wanted index device) (buffers_wanted index device) (rings_have index device small) (buffers_have index device small)
wanted_have index (entry.Skipped kind) small = All-nil (IsFieldWanted next_block)

all_have : (index : ℕ) (entries : List Entry) → index + length entries ≤ 2 ^ 64 → All (IsFieldWanted next_block) (wanted_from index entries)
all_have index [] few = All-nil (IsFieldWanted next_block)
all_have index (first ∷ more) few =
    All-append (IsFieldWanted next_block) (wanted_by index first) (wanted_from (index + 1) more) (wanted_have index first (omega (arith, few))) (all_have (index + 1) more (omega (arith, few)))

order_has : (entries : List Entry) → length entries ≤ 2 ^ 64 → All (IsFieldWanted next_block) (in_order (wanted_from 0 entries))
order_has entries few =
    let all = all_have 0 entries (omega (arith, few)) in
    All-append (IsFieldWanted next_block) _ _ (All-filter (λ one. not (is_anywhere one)) (IsFieldWanted next_block) (wanted_from 0 entries) all) (All-filter is_anywhere (IsFieldWanted next_block) (wanted_from 0 entries) all)

then_has : {A B : Type 0} (next : A → Result B PlaceFault) (found : Result A PlaceFault) → ArePlaced found → ((one : A) → ArePlaced (next one)) → ArePlaced (then_ok next found)
then_has next (Ok one) is each = each one
then_has next (Err why) is each = is

from_has : (regions : List Region) (before : List Block) (all : _) → All (IsFieldWanted next_block) all → ArePlaced (placed_from regions before all)
from_has regions before [] have = tt
from_has regions before (one ∷ more) have =
    then_has (λ block. placed_from regions (before ++ block ∷ []) more) (next_block regions before one) (All-head (IsFieldWanted next_block) one more have regions before)
    (λ block. from_has regions (before ++ block ∷ []) more (All-tail (IsFieldWanted next_block) one more have))

placement_has : (regions : List Region) (entries : List Entry) → length entries ≤ 2 ^ 64 → ArePlaced (placement regions entries)
placement_has regions entries few = from_has regions [] (in_order (wanted_from 0 entries)) (order_has entries few)

-- ---- loads

abbrev IsLoadTest : Option LoadFault → Type 0
IsLoadTest found = IfSome found IsFieldRefused

table_few : (found : Option (List ℕ)) → IfSome found AreBytes → length (entries_in found) ≤ 2 ^ 64
table_few None are = omega arith
table_few (Some table) are = let few = entries_few table are in omega (arith, few)

bytes_of : (image : List ℕ) (found : Option Section) → AreBytes image → IfSome (option_map (bytes_in image) found) AreBytes
bytes_of image None are = tt
bytes_of image (Some section) are = taken_bytes section.size _ (dropped_bytes section.offset image are)

segments_few : (image : List ℕ) → AreBytes image → All (λ (segment : SegmentAt). IsNumber segment.index) (segments_of image)
unfolding file_header
segments_few image are =
    let byte = slice_index image 4 in
    let narrow = half_small 44 image are in
    let wide = half_small 56 image are in
    cond_both (byte == 1) _ _ (λ class. All (λ (segment : SegmentAt). IsNumber segment.index) (segments_by (option_map layout_for class) image))
    (λ _. All-map (λ (segment : SegmentAt). IsNumber segment.index) (segment_at image) (loaded_from elf32 (file_header elf32 image) image 0)
    (numbered_small (λ one. one.index) (numbered_header elf32 (file_header elf32 image) image) is_loaded ((file_header elf32 image).program_count - 0) (λ index. refl) (omega (arith, narrow))))
    (λ _. cond_both (byte == 2) _ None (λ class. All (λ (segment : SegmentAt). IsNumber segment.index) (segments_by (option_map layout_for class) image))
    (λ _. All-map (λ (segment : SegmentAt). IsNumber segment.index) (segment_at image) (loaded_from elf64 (file_header elf64 image) image 0)
    (numbered_small (λ one. one.index) (numbered_header elf64 (file_header elf64 image) image) is_loaded ((file_header elf64 image).program_count - 0) (λ index. refl) (omega (arith, wide))))
    (λ _. All-nil (λ (segment : SegmentAt). IsNumber segment.index)))

mapped_has : (image : List ℕ) (regions : List Region) (placed : List Block) → AreBytes image → IsLoadTest (mapped_fault image regions placed)
mapped_has image regions placed are =
    let at = memory_at regions placed in
    or_has IsFieldRefused (segments_unmapped at (segments_of image)) (option_or (entry_unmapped at (entry_address image)) None)
    (each_has IsFieldRefused (λ (segment : SegmentAt). IsNumber segment.index) (segment_unmapped at) (segments_of image)
    (λ segment small. if_has IsFieldRefused (is_none (at segment.da segment.memory_len)) (fault.SegmentUnmapped segment.index) small) (segments_few image are))
    (or_has IsFieldRefused (entry_unmapped at (entry_address image)) None (if_has IsFieldRefused (is_none (at (entry_address image) 16)) fault.EntryUnmapped tt) tt)

placed_has : (image : List ℕ) (regions : List Region) (found : Result (List Block) PlaceFault) → AreBytes image → ArePlaced found → IsLoadTest (placed_fault image regions found)
placed_has image regions (Err why) are is = is
placed_has image regions (Ok placed) are is = mapped_has image regions placed are

pub refused_fields : (image : List ℕ) (regions : List Region) → AreBytes image → IsLoadTest (load_fault image regions)
refused_fields image regions are =
    let table = option_map fault.Table (section_fault image (table_section image)) in
    let placed = placement regions (entries_in (table_of image)) in
    or_has IsFieldRefused (option_map fault.Elf (image_fault image)) (option_or table (option_or (placed_fault image regions placed) None))
    (map_has IsFieldElf IsFieldRefused fault.Elf (image_fault image) (λ one is. is) (image_has image are))
    (or_has IsFieldRefused table (option_or (placed_fault image regions placed) None)
    (map_has IsFieldTable IsFieldRefused fault.Table (section_fault image (table_section image)) (λ one is. is) (section_has image (table_section image) are))
    (or_has IsFieldRefused (placed_fault image regions placed) None
    (placed_has image regions placed are (placement_has regions (entries_in (table_of image)) (table_few (table_of image) (bytes_of image (table_section image) are)))) tt))
