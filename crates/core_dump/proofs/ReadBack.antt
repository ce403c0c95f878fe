-- A dump is read back as its parts.
use Rattle.std.proofs.Common.{map, ◌≡◌, ℕ, ◌+◌, ◌*◌, ◌<◌, ◌≤◌, ◌^◌, cond, List, [], ◌∷◌, ◌++◌, length, drop, All, subst, sym, ◌∙◌, ap, arith, refl, lit<, length-append}
use Rattle.std.proofs.lemmas.Bool.{ne_eqb}
use Rattle.std.proofs.lemmas.List.Concat.{length-flat_map}
use Rattle.std.proofs.lemmas.List.Elements.{All-nil, All-cons, All-head, All-tail}
use Rattle.std.proofs.lemmas.List.Sums.{sum_by-cons}
use Rattle.std.proofs.Math.Seq.{drop-append_seam}
use Rattle.elf_image.specs.Segments.{SegmentAt}
use Rattle.elf_writer.specs.Headers.{file_header, load_header}
use Rattle.elf_writer.specs.Loads.{Load, load_headers, loaded_segments}
use Rattle.elf_writer.proofs.ReadFields.{IsHeader, behind, header_read, skip}
use Rattle.elf_writer.proofs.ReadLoads.{IsLoadIn}
use Rattle.elf_writer.proofs.ReadImages.{identified, image_read, layout_is, length_header, plain_pass}
use Rattle.core_dump.specs.Parts.{AreParts, IsPart, MemoryPart, data_len, part_len}
use Rattle.core_dump.specs.Dumps.{IsReadBack, data_start, dump_of, loads_from, part_bytes, segments_from}

count_same : (parts : List MemoryPart) (offset : ℕ) → length (loads_from offset parts) ≡ length parts
count_same [] offset = refl
count_same (part ∷ more) offset = let later = count_same more (offset + part_len part) in omega arith

length_headers : (loads : List Load) → length (load_headers loads) ≡ 32 * length loads
length_headers [] = refl
length_headers (load ∷ more) =
    let word = load_header load.offset load.da (length load.file) load.memory_len in
    let later = length_headers more in
    let here : length word ≡ 32 = refl in
    omega (arith, length-append word (load_headers more))

-- the segments of parts, none of which is empty
segments_same : (parts : List MemoryPart) (index offset : ℕ) → All IsPart parts → loaded_segments index (loads_from offset parts) ≡ segments_from index parts
segments_same [] index offset all = refl
segments_same (part ∷ more) index offset all =
    let is = All-head IsPart part more all in
    let segment : SegmentAt = record { index = index; da = part.da; memory_len = part_len part; file = part.bytes } in
    ap (λ b. cond b [] (segment ∷ []) ++ loaded_segments (index + 1) (loads_from (offset + part_len part) more)) (ne_eqb (part_len part) 0 (λ e. absurd (omega (arith, is.some))))
    ∙ ap (λ later. segment ∷ later) (segments_same more (index + 1) (offset + part_len part) (All-tail IsPart part more all))

-- each part stands in an image that has their bytes from there on
parts_hold : (parts : List MemoryPart) (offset : ℕ) (bytes : List ℕ) → All IsPart parts → length bytes < 2 ^ 32 → offset + data_len parts ≤ length bytes
    → drop offset bytes ≡ part_bytes parts → All (IsLoadIn bytes) (loads_from offset parts)
parts_hold [] offset bytes all small within f = All-nil (IsLoadIn bytes)
parts_hold (part ∷ more) offset bytes all small within f =
    let is = All-head IsPart part more all in
    let len = part_len part in
    let data_more : data_len (part ∷ more) ≡ len + data_len more = sum_by-cons part_len part more in
    All-cons (IsLoadIn bytes) _ _
    (record { rest = part_bytes more; placed = f; inside = omega arith; address = omega (arith, is.some, is.device); memory = omega arith; room = λ _. omega arith })
    (parts_hold more (offset + len) bytes (All-tail IsPart part more all) small (omega arith)
    (behind offset len bytes (part.bytes ++ part_bytes more) f ∙ drop-append_seam part.bytes (part_bytes more)))

-- how many bytes a dump has
pub dump_length : (entry : ℕ) (parts : List MemoryPart) → length (dump_of entry parts) ≡ data_start parts + data_len parts
unfolding dump_of
dump_length entry parts =
    let loads = loads_from (data_start parts) parts in
    let front = file_header 4 entry (length parts) 0 0 0 0 in
    let headers = load_headers loads in
    let files = part_bytes parts in
    omega (
      arith,
      length-append front (headers ++ files),
      length-append headers files,
      length_header 4 entry (length parts) 0 0 0 0,
      length_headers loads,
      count_same parts (data_start parts),
      length-flat_map (λ (part : MemoryPart). part.bytes) parts,
    )

pub dump_read : (entry : ℕ) (parts : List MemoryPart) → entry < 2 ^ 32 → AreParts parts → IsReadBack entry parts (dump_of entry parts)
unfolding dump_of
dump_read entry parts low are =
    let start = data_start parts in
    let count = length parts in
    let loads = loads_from start parts in
    let headers = load_headers loads in
    let files = part_bytes parts in
    let front = file_header 4 entry count 0 0 0 0 in
    let bytes = front ++ (headers ++ files) in
    let front_len : length front ≡ 52 = length_header 4 entry count 0 0 0 0 in
    let same = count_same parts start in
    let headers_len : length headers ≡ 32 * count = length_headers loads ∙ ap (λ n. 32 * n) same in
    let total : length bytes ≡ start + data_len parts = dump_length entry parts in
    let small : length bytes < 2 ^ 32 = omega (arith, total, are.few, are.small) in
    let at_headers : drop 52 bytes ≡ headers ++ files = skip 0 52 bytes front (headers ++ files) refl front_len in
    let at_data : drop start bytes ≡ files = skip 52 (32 * count) bytes headers files at_headers headers_len in
    let header = header_read 4 entry count 0 0 0 0 (headers ++ files) low (omega (arith, are.few)) (lit< tt) (lit< tt) (lit< tt) (lit< tt) in
    let read = image_read loads entry 0 0 0 0 bytes files (parts_hold parts start bytes are.each small (omega (arith, total)) at_data) low (omega (arith, same, are.some)) (omega (arith, same, are.few))
    (lit< tt) refl refl small (omega (arith, total, same)) (subst (λ n. IsHeader bytes entry n 0 0 0 0) (sym same) header) (identified 4 entry count 0 0 0 0 (headers ++ files)) (layout_is 4 entry count 0 0 0 0 (headers ++ files)) at_headers
    (plain_pass bytes entry count header) in
    record { good = read.good; entry_is = read.entry_is; segments = read.segments_are ∙ segments_same parts 0 start are.each }

pub read_back : (entry : ℕ) (parts : List MemoryPart) (dump : List ℕ) → dump ≡ dump_of entry parts → entry < 2 ^ 32 → AreParts parts → IsReadBack entry parts dump
read_back entry parts dump is low are = subst (IsReadBack entry parts) (sym is) (dump_read entry parts low are)

abbrev part_of : SegmentAt → MemoryPart
part_of segment = record { da = segment.da; bytes = segment.file }

parts_of_segments : (parts : List MemoryPart) (index : ℕ) → map part_of (segments_from index parts) ≡ parts
parts_of_segments [] index = refl
parts_of_segments (part ∷ more) index = ap (λ (later : List MemoryPart). part ∷ later) (parts_of_segments more (index + 1))

-- one dump has one list of parts
pub same_parts : (entry other_entry : ℕ) (parts others : List MemoryPart) (dump : List ℕ) → IsReadBack entry parts dump → IsReadBack other_entry others dump → parts ≡ others
same_parts entry other_entry parts others dump one other =
    sym (parts_of_segments parts 0) ∙ ap (map part_of) (sym one.segments ∙ other.segments) ∙ parts_of_segments others 0
