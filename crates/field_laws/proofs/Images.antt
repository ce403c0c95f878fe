-- The images of recipes and the dumps of cores are bytes.
use Rattle.std.proofs.Common.{◌≡◌, ℕ, ◌+◌, ◌*◌, ◌<◌, ◌≤◌, ◌^◌, ◌==◌, List, [], ◌∷◌, ◌++◌, length, Option, Some, None, IfSome, refl, arith}
use Rattle.std.specs.Prelude.{All, option_map}
use Rattle.std.specs.List.{cons_option, filter_map, slice_index_or}
use Rattle.std.specs.Option.{option_and_then}
use Rattle.std.proofs.lemmas.Bool.{cond_both}
use Rattle.std.proofs.lemmas.List.{length-append}
use Rattle.std.proofs.lemmas.List.Elements.{All-cons, All-head, All-nil, All-tail}
use Rattle.rp_base.specs.declared.limits.TheConstants.{SCRIPT_LINES_MOST}
use Rattle.rp_base.specs.Texts.{padded_name}
use Rattle.elf_writer.specs.Fields.{byte_field, half_field, word_field, word_fields}
use Rattle.elf_writer.specs.Headers.{file_header, identification, load_header}
use Rattle.elf_writer.specs.Loads.{Load, load_headers}
use Rattle.fw_load.specs.Memory.{memory_at}
use Rattle.script_lang.specs.declared.recipes.RecipeLine.{RecipeLine}
use Rattle.script_lang.specs.declared.recipes.RecipeLine.TheVariants as recipe
use Rattle.script_lang.specs.Runnable.{IsRecipe}
use Rattle.image_maker.specs.Images.{data_end, data_start, entry_address, image_of, image_with, section_headers, section_names, segments_part, table_address}
use Rattle.image_maker.specs.Segments.{code_of, data_of, program_header, program_headers, record_fields, segment_bytes, segment_count}
use Rattle.image_maker.specs.Tables.{entries, entries_of, entry_bytes, entry_count, entry_len, offset_of, offsets, rings_in_front, table_bytes, table_len}
use Rattle.image_maker.proofs.Lengths.{short_image}
use Rattle.image_maker.proofs.ReadImages.{parts_are}
use Rattle.image_maker.proofs.ReadTable.{length_table}
use Rattle.core_dump.specs.Dumps.{data_start as dump_start, dump_of, loads_from, part_bytes}
use Rattle.core_dump.specs.Parts.{MemoryPart}
use Rattle.crash_recover.specs.CoreParts.{core_parts, core_ranges, part_at}
use Rattle.crash_recover.specs.Cores.{CoreState, LoadState, bytes_at, core_memory}
use Rattle.field_laws.specs.Fields.{AreBytes}
use Rattle.field_laws.specs.FieldCores.{IsFieldLoad}
use Rattle.field_laws.proofs.Actors.{tested_bytes}
use Rattle.field_laws.proofs.Bytes.{both_bytes, each_bytes, no_bytes, number_bytes, padded_bytes, range_bytes}

-- the bytes that a line of a recipe names, and its name
abbrev pub IsBytesLine : RecipeLine → Type 0
IsBytesLine (recipe.Load da bytes memory_len) = AreBytes bytes
IsBytesLine (recipe.Carveout da len name) = AreBytes name
IsBytesLine (recipe.Devmem da pa len name) = AreBytes name
IsBytesLine (recipe.Trace da len name) = AreBytes name
IsBytesLine other = Unit {0}

-- ---- fields

words_bytes : (values : List ℕ) → AreBytes (word_fields values)
words_bytes values = each_bytes word_field values (λ at other within. number_bytes 4 _)

header_are : (kind entry segments place size sections names : ℕ) → AreBytes (file_header kind entry segments place size sections names)
unfolding file_header
header_are kind entry segments place size sections names =
    both_bytes (identification ++ half_field kind ++ half_field 40 ++ word_fields (1 ∷ entry ∷ 52 ∷ place ∷ 0 ∷ []) ++ half_field 52 ++ half_field 32 ++ half_field segments ++ half_field size ++ half_field sections) (half_field names)
    (both_bytes (identification ++ half_field kind ++ half_field 40 ++ word_fields (1 ∷ entry ∷ 52 ∷ place ∷ 0 ∷ []) ++ half_field 52 ++ half_field 32 ++ half_field segments ++ half_field size) (half_field sections)
    (both_bytes (identification ++ half_field kind ++ half_field 40 ++ word_fields (1 ∷ entry ∷ 52 ∷ place ∷ 0 ∷ []) ++ half_field 52 ++ half_field 32 ++ half_field segments) (half_field size)
    (both_bytes (identification ++ half_field kind ++ half_field 40 ++ word_fields (1 ∷ entry ∷ 52 ∷ place ∷ 0 ∷ []) ++ half_field 52 ++ half_field 32) (half_field segments)
    (both_bytes (identification ++ half_field kind ++ half_field 40 ++ word_fields (1 ∷ entry ∷ 52 ∷ place ∷ 0 ∷ []) ++ half_field 52) (half_field 32)
    (both_bytes (identification ++ half_field kind ++ half_field 40 ++ word_fields (1 ∷ entry ∷ 52 ∷ place ∷ 0 ∷ [])) (half_field 52)
    (both_bytes (identification ++ half_field kind ++ half_field 40) (word_fields (1 ∷ entry ∷ 52 ∷ place ∷ 0 ∷ []))
    (both_bytes (identification ++ half_field kind) (half_field 40)
    (both_bytes identification (half_field kind) (tested_bytes identification refl) (number_bytes 2 kind)) (number_bytes 2 40))
    (words_bytes (1 ∷ entry ∷ 52 ∷ place ∷ 0 ∷ []))) (number_bytes 2 52)) (number_bytes 2 32)) (number_bytes 2 segments)) (number_bytes 2 size)) (number_bytes 2 sections)) (number_bytes 2 names)

-- ---- segments

record_are : (kind len : ℕ) (operands : List ℕ) → AreBytes (record_fields kind len operands)
record_are kind len operands =
    both_bytes (half_field kind ++ half_field len) (word_fields operands) (both_bytes (half_field kind) (half_field len) (number_bytes 2 kind) (number_bytes 2 len)) (words_bytes operands)

data_are : (line : RecipeLine) → IsBytesLine line → AreBytes (data_of line)
data_are (recipe.Load da bytes memory_len) is = is
data_are recipe.Halt is = record_are 0 0 (0 ∷ 0 ∷ 0 ∷ [])
data_are (recipe.Announce address flags da) is = record_are 1 0 (address ∷ flags ∷ da ∷ [])
data_are (recipe.Bind address) is = record_are 2 0 (address ∷ 0 ∷ 0 ∷ [])
data_are (recipe.Send source destination da len) is = record_are 3 len (source ∷ destination ∷ da ∷ [])
data_are (recipe.Raw da len) is = record_are 4 len (0 ∷ 0 ∷ da ∷ [])
data_are recipe.Take is = record_are 5 0 (0 ∷ 0 ∷ 0 ∷ [])
data_are (recipe.Log to from len) is = record_are 6 len (to ∷ 0 ∷ from ∷ [])
data_are (recipe.Crash kind) is = record_are 7 0 (kind ∷ 0 ∷ 0 ∷ [])
data_are (recipe.Loop times target) is = record_are 8 0 (times ∷ target ∷ 0 ∷ [])
data_are (recipe.Entry da) is = no_bytes
data_are other is = no_bytes

program_are : (code offset : ℕ) (line : RecipeLine) → AreBytes (program_header code offset line)
program_are code offset (recipe.Load da bytes memory_len) = words_bytes (1 ∷ offset ∷ da ∷ da ∷ length bytes ∷ memory_len ∷ 7 ∷ 4 ∷ [])
program_are code offset (recipe.Code da) = words_bytes (1 ∷ offset ∷ da ∷ da ∷ code ∷ code ∷ 7 ∷ 4 ∷ [])
program_are code offset (recipe.Entry da) = no_bytes
program_are code offset other = no_bytes

programs_are : (offset : ℕ) (lines : List RecipeLine) → AreBytes (program_headers offset lines)
programs_are offset [] = no_bytes
programs_are offset (line ∷ more) =
    both_bytes (program_header (length (code_of more)) offset line) (program_headers (offset + length (data_of line)) more) (program_are (length (code_of more)) offset line)
    (programs_are (offset + length (data_of line)) more)

part_are : (lines : List RecipeLine) → All IsBytesLine lines → AreBytes (segments_part lines)
unfolding segments_part
part_are lines all =
    both_bytes (program_headers (data_start lines) lines) (segment_bytes lines) (programs_are (data_start lines) lines)
    (each_bytes data_of lines (λ at other within. data_are _ (all at other within)))

-- ---- tables

entry_are : (rings : ℕ) (line : RecipeLine) → IsBytesLine line → AreBytes (entry_bytes rings line)
entry_are rings (recipe.Carveout da len name) is = both_bytes (word_fields (0 ∷ da ∷ 0 ∷ len ∷ 0 ∷ 0 ∷ [])) (padded_name name) (words_bytes (0 ∷ da ∷ 0 ∷ len ∷ 0 ∷ 0 ∷ [])) (padded_bytes name is)
entry_are rings (recipe.Devmem da pa len name) is = both_bytes (word_fields (1 ∷ da ∷ pa ∷ len ∷ 0 ∷ 0 ∷ [])) (padded_name name) (words_bytes (1 ∷ da ∷ pa ∷ len ∷ 0 ∷ 0 ∷ [])) (padded_bytes name is)
entry_are rings (recipe.Trace da len name) is = both_bytes (word_fields (2 ∷ da ∷ len ∷ 0 ∷ [])) (padded_name name) (words_bytes (2 ∷ da ∷ len ∷ 0 ∷ [])) (padded_bytes name is)
entry_are rings (recipe.Vdev id features) is =
    both_bytes (word_fields (3 ∷ id ∷ 0 ∷ features ∷ 0 ∷ 0 ∷ [])) (0 ∷ (byte_field rings ++ 0 ∷ 0 ∷ [])) (words_bytes (3 ∷ id ∷ 0 ∷ features ∷ 0 ∷ 0 ∷ []))
    (both_bytes (0 ∷ []) (byte_field rings ++ 0 ∷ 0 ∷ []) (tested_bytes (0 ∷ []) refl) (both_bytes (byte_field rings) (0 ∷ 0 ∷ []) (number_bytes 1 rings) (tested_bytes (0 ∷ 0 ∷ []) refl)))
entry_are rings (recipe.Vring da align entries) is = words_bytes (da ∷ align ∷ entries ∷ 0 ∷ 0 ∷ [])
entry_are rings (recipe.Vendor type) is = words_bytes (type ∷ [])
entry_are rings (recipe.Entry da) is = no_bytes
entry_are rings other is = no_bytes

entries_are : (lines : List RecipeLine) → All IsBytesLine lines → AreBytes (entries lines)
entries_are [] all = no_bytes
entries_are (line ∷ more) all =
    both_bytes (entry_bytes (rings_in_front more) line) (entries more) (entry_are (rings_in_front more) line (All-head IsBytesLine line more all)) (entries_are more (All-tail IsBytesLine line more all))

offsets_are : (offset : ℕ) (lines : List RecipeLine) → AreBytes (offsets offset lines)
offsets_are offset [] = no_bytes
offsets_are offset (line ∷ more) =
    both_bytes (offset_of offset line) (offsets (offset + entry_len line) more)
    (cond_both (entries_of line == 1) (word_field offset) [] AreBytes (λ _. number_bytes 4 offset) (λ _. no_bytes)) (offsets_are (offset + entry_len line) more)

table_are : (lines : List RecipeLine) → All IsBytesLine lines → AreBytes (table_bytes lines)
table_are lines all =
    both_bytes (word_fields (1 ∷ entry_count lines ∷ 0 ∷ 0 ∷ []) ++ offsets (16 + 4 * entry_count lines) lines) (entries lines)
    (both_bytes (word_fields (1 ∷ entry_count lines ∷ 0 ∷ 0 ∷ [])) (offsets (16 + 4 * entry_count lines) lines) (words_bytes (1 ∷ entry_count lines ∷ 0 ∷ 0 ∷ [])) (offsets_are (16 + 4 * entry_count lines) lines))
    (entries_are lines all)

sections_are : (da start len : ℕ) → AreBytes (section_headers da start len)
unfolding section_headers
sections_are da start len =
    both_bytes (word_fields (0 ∷ 0 ∷ 0 ∷ 0 ∷ 0 ∷ 0 ∷ 0 ∷ 0 ∷ 0 ∷ 0 ∷ []) ++ word_fields (1 ∷ 1 ∷ 2 ∷ da ∷ start ∷ len ∷ 0 ∷ 0 ∷ 4 ∷ 0 ∷ [])) (word_fields (17 ∷ 3 ∷ 0 ∷ 0 ∷ (start + len) ∷ 27 ∷ 0 ∷ 0 ∷ 1 ∷ 0 ∷ []))
    (both_bytes (word_fields (0 ∷ 0 ∷ 0 ∷ 0 ∷ 0 ∷ 0 ∷ 0 ∷ 0 ∷ 0 ∷ 0 ∷ [])) (word_fields (1 ∷ 1 ∷ 2 ∷ da ∷ start ∷ len ∷ 0 ∷ 0 ∷ 4 ∷ 0 ∷ [])) (words_bytes (0 ∷ 0 ∷ 0 ∷ 0 ∷ 0 ∷ 0 ∷ 0 ∷ 0 ∷ 0 ∷ 0 ∷ []))
    (words_bytes (1 ∷ 1 ∷ 2 ∷ da ∷ start ∷ len ∷ 0 ∷ 0 ∷ 4 ∷ 0 ∷ [])))
    (words_bytes (17 ∷ 3 ∷ 0 ∷ 0 ∷ (start + len) ∷ 27 ∷ 0 ∷ 0 ∷ 1 ∷ 0 ∷ []))

-- ---- images

with_are : (lines : List RecipeLine) (table : Option ℕ) → All IsBytesLine lines → AreBytes (image_with lines table)
unfolding image_with
with_are lines None all =
    let header = file_header 2 (entry_address lines) (segment_count lines) 0 0 0 0 in
    both_bytes header (segments_part lines) (header_are 2 (entry_address lines) (segment_count lines) 0 0 0 0) (part_are lines all)
with_are lines (Some da) all =
    let header = file_header 2 (entry_address lines) (segment_count lines) (data_end lines + table_len lines + 27) 40 3 2 in
    let sections = section_headers da (data_end lines) (table_len lines) in
    both_bytes (header ++ segments_part lines ++ table_bytes lines ++ section_names) sections
    (both_bytes (header ++ segments_part lines ++ table_bytes lines) section_names
    (both_bytes (header ++ segments_part lines) (table_bytes lines)
    (both_bytes header (segments_part lines) (header_are 2 (entry_address lines) (segment_count lines) (data_end lines + table_len lines + 27) 40 3 2) (part_are lines all)) (table_are lines all))
    (tested_bytes section_names refl)) (sections_are da (data_end lines) (table_len lines))

pub image_are : (lines : List RecipeLine) → All IsBytesLine lines → AreBytes (image_of lines)
unfolding image_of
image_are lines all = with_are lines (table_address lines) all

-- ---- how long images are

header_len : (kind entry segments place size sections names : ℕ) → length (file_header kind entry segments place size sections names) ≡ 52
unfolding file_header
header_len kind entry segments place size sections names = refl

sections_len : (da start len : ℕ) → length (section_headers da start len) ≡ 120
unfolding section_headers
sections_len da start len = refl

part_len : (lines : List RecipeLine) → 52 + length (segments_part lines) ≡ data_end lines
part_len lines =
    let header = file_header 2 0 0 0 0 0 0 in
    let len = header_len 2 0 0 0 0 0 0 in
    let parts = parts_are lines header [] len in
    let total = parts.total in
    let front = length-append header (segments_part lines ++ []) in
    let behind = length-append (segments_part lines) [] in
    omega (arith, total, front, behind, len)

with_small : (lines : List RecipeLine) (table : Option ℕ) → IsRecipe lines → length lines ≤ SCRIPT_LINES_MOST → length (image_with lines table) < 2 ^ 64
unfolding image_with
with_small lines None runs few =
    let header = file_header 2 (entry_address lines) (segment_count lines) 0 0 0 0 in
    let len = header_len 2 (entry_address lines) (segment_count lines) 0 0 0 0 in
    let part = part_len lines in
    let all = length-append header (segments_part lines) in
    let short = short_image lines runs few in
    omega (arith, len, part, all, short)
with_small lines (Some da) runs few =
    let header = file_header 2 (entry_address lines) (segment_count lines) (data_end lines + table_len lines + 27) 40 3 2 in
    let sections = section_headers da (data_end lines) (table_len lines) in
    let len = header_len 2 (entry_address lines) (segment_count lines) (data_end lines + table_len lines + 27) 40 3 2 in
    let part = part_len lines in
    let table = length_table lines runs in
    let names : length section_names ≡ 27 = refl in
    let last = sections_len da (data_end lines) (table_len lines) in
    let one = length-append header (segments_part lines) in
    let two = length-append (header ++ segments_part lines) (table_bytes lines) in
    let three = length-append (header ++ segments_part lines ++ table_bytes lines) section_names in
    let four = length-append (header ++ segments_part lines ++ table_bytes lines ++ section_names) sections in
    let short = short_image lines runs few in
    omega (arith, len, part, table, names, last, one, two, three, four, short)

pub image_small : (lines : List RecipeLine) → IsRecipe lines → length lines ≤ SCRIPT_LINES_MOST → length (image_of lines) < 2 ^ 64
unfolding image_of
image_small lines runs few = with_small lines (table_address lines) runs few

-- ---- dumps

abbrev IsBytesPart : MemoryPart → Type 0
IsBytesPart part = AreBytes part.bytes

place_bytes : (memory : List ℕ) (len : ℕ) (place : Option ℕ) → AreBytes memory → IfSome (bytes_at memory len place) AreBytes
place_bytes memory len None are = tt
place_bytes memory len (Some at) are = range_bytes memory at (at + len) are

pub memory_bytes : (core : CoreState) (da len : ℕ) (found : Option LoadState) → IfSome found IsFieldLoad
    → IfSome (option_and_then (λ (load : LoadState). bytes_at load.memory len (memory_at core.regions load.placed da len)) found) AreBytes
memory_bytes core da len None is = tt
memory_bytes core da len (Some load) is = place_bytes load.memory len (memory_at core.regions load.placed da len) is.memory

one_part : (da : ℕ) (found : Option (List ℕ)) → IfSome found AreBytes → IfSome (option_map (λ bytes. record { da = da; bytes = bytes }) found) IsBytesPart
one_part da None are = tt
one_part da (Some bytes) are = are

cons_part : (found : Option MemoryPart) (more : List MemoryPart) → IfSome found IsBytesPart → All IsBytesPart more → All IsBytesPart (cons_option found more)
cons_part None more is all = all
cons_part (Some part) more is all = All-cons IsBytesPart part more is all

parts_bytes : (core : CoreState) (ranges : List (ℕ × ℕ)) → IfSome core.loaded IsFieldLoad → All IsBytesPart (filter_map (part_at core) ranges)
parts_bytes core [] is = All-nil IsBytesPart
parts_bytes core (range ∷ more) is =
    cons_part (part_at core range) (filter_map (part_at core) more) (one_part range.0 (core_memory core range.0 range.1) (memory_bytes core range.0 range.1 core.loaded is)) (parts_bytes core more is)

load_are : (load : Load) → AreBytes (load_header load.offset load.da (length load.file) load.memory_len)
load_are load = words_bytes (1 ∷ load.offset ∷ load.da ∷ load.da ∷ length load.file ∷ load.memory_len ∷ 7 ∷ 4 ∷ [])

dump_parts : (entry : ℕ) (parts : List MemoryPart) → All IsBytesPart parts → AreBytes (dump_of entry parts)
unfolding dump_of
dump_parts entry parts all =
    both_bytes (file_header 4 entry (length parts) 0 0 0 0) (load_headers (loads_from (dump_start parts) parts) ++ part_bytes parts) (header_are 4 entry (length parts) 0 0 0 0)
    (both_bytes (load_headers (loads_from (dump_start parts) parts)) (part_bytes parts)
    (each_bytes (λ (load : Load). load_header load.offset load.da (length load.file) load.memory_len) (loads_from (dump_start parts) parts) (λ at other within. load_are (slice_index_or (loads_from (dump_start parts) parts) at other)))
    (each_bytes (λ (part : MemoryPart). part.bytes) parts all))

pub dump_are : (core : CoreState) (entry : ℕ) → IfSome core.loaded IsFieldLoad → AreBytes (dump_of entry (core_parts core))
dump_are core entry is = dump_parts entry (core_parts core) (parts_bytes core (core_ranges core) is)
