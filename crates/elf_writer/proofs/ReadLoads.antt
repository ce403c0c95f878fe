-- The loads of an image are its loaded segments, and have no fault.
use Rattle.std.proofs.Common.{◌≡◌, ℕ, ◌+◌, ◌*◌, ◌<◌, ◌≤◌, ◌^◌, ◌==◌, ◌&&◌, ◌||◌, not, Bool, true, false, cond, suc, List, [], ◌∷◌, ◌++◌, length, take, drop, map, Option, None, All, sym, ◌∙◌, ap, arith, refl, append_assoc}
use lib.Dec.{ltb as nat_lt}
use Rattle.std.specs.List.{range_with_len, filter}
use Rattle.std.proofs.lemmas.Bool.{le-ltb, eqb-false}
use Rattle.std.proofs.lemmas.List.Elements.{All-head, All-tail}
use Rattle.std.proofs.Math.Seq.{take-append_seam}
use Rattle.elf_image.specs.Layout.{elf32}
use Rattle.elf_image.specs.Headers.{program_header as program_header_read, file_header as file_header_read}
use Rattle.rp_base.specs.Faults.{fault_if, first_fault}
use Rattle.elf_image.specs.Segments.{SegmentAt, is_loaded, numbered_header, segment_at, segment_fault}
use Rattle.elf_image.specs.declared.faults.ElfFault.{ElfFault}
use Rattle.elf_writer.specs.Headers.{load_header}
use Rattle.elf_writer.specs.Loads.{Load, load_headers, loaded_segment, loaded_segments}
use Rattle.elf_writer.proofs.ReadFields.{behind, load_read}

-- a load of an image: its bytes stand at its place, its numbers have 32 bits, and its memory, if it has any, has room for its bytes
pub record IsLoadIn (bytes : List ℕ) (load : Load) : Type 0 where
  pub rest : List ℕ
  pub placed : drop load.offset bytes ≡ load.file ++ rest
  pub inside : load.offset + length load.file ≤ length bytes
  pub address : load.da < 2 ^ 32
  pub memory : load.memory_len < 2 ^ 32
  pub room : 0 < load.memory_len → length load.file ≤ load.memory_len

-- a header that passes a test or not, and what is made of those that do
mapped : {X Y : Type 0} (f : X → Y) (test b : Bool) (x : X) (xs : List X) (y : Y) → test ≡ not b → f x ≡ y → map f (cond test (x ∷ xs) xs) ≡ cond b [] (y ∷ []) ++ map f xs
mapped f test true x xs y e g = ap (λ t. map f (cond t (x ∷ xs) xs)) e
mapped f test false x xs y e g = ap (λ t. map f (cond t (x ∷ xs) xs)) e ∙ ap (λ z. z ∷ map f xs) g

unfaulted : {X : Type 0} (f : X → Option ElfFault) (test b : Bool) (x : X) (xs : List X) → test ≡ not b → (b ≡ false → f x ≡ None) → first_fault (map f xs) ≡ None → first_fault (map f (cond test (x ∷ xs) xs)) ≡ None
unfaulted f test true x xs e g h = ap (λ t. first_fault (map f (cond t (x ∷ xs) xs))) e ∙ h
unfaulted f test false x xs e g h = ap (λ t. first_fault (map f (cond t (x ∷ xs) xs))) e ∙ ap (λ o. first_fault (o ∷ map f xs)) (g refl) ∙ h

tested : (kind room m : ℕ) → kind ≡ 1 → room ≡ m → ((kind == 1) && not (room == 0)) ≡ not (m == 0)
tested kind room m k r = ap (λ n. (n == 1) && not (room == 0)) k ∙ ap (λ n. not (n == 0)) r

segment_is : (bytes file : List ℕ) (index place address size room da m : ℕ) → address ≡ da → room ≡ m → take size (drop place bytes) ≡ file
    → ◌≡◌ {A = SegmentAt} (record { index = index; da = address; memory_len = room; file = take size (drop place bytes) }) (record { index = index; da = da; memory_len = m; file = file })
segment_is bytes file index place address size room da m a r f = cc

pub passes : (a b : Bool) (first second : ElfFault) → a ≡ false → b ≡ false → first_fault (fault_if a first ∷ fault_if b second ∷ []) ≡ None
passes a b first second e f = ap (λ t. first_fault (fault_if t first ∷ fault_if b second ∷ [])) e ∙ ap (λ t. first_fault (fault_if t second ∷ [])) f

narrow : (address room a m : ℕ) → address ≡ a → room ≡ m → a < 2 ^ 32 → m < 2 ^ 32 → (nat_lt 0xffffffff address || nat_lt 0xffffffff room) ≡ false
narrow address room a m e f low short = ap (λ t. t || nat_lt 0xffffffff room) (le-ltb 0xffffffff address (omega arith)) ∙ le-ltb 0xffffffff room (omega arith)

sizes_pass : (len offset size room address o l m a : ℕ) (wide first second : ElfFault) → offset ≡ o → size ≡ l → room ≡ m → address ≡ a → a < 2 ^ 32 → m < 2 ^ 32 → l ≤ m → o + l ≤ len
    → first_fault (fault_if (nat_lt 0xffffffff address || nat_lt 0xffffffff room) wide ∷ fault_if (nat_lt room size) first ∷ fault_if (nat_lt len (offset + size)) second ∷ []) ≡ None
sizes_pass len offset size room address o l m a wide first second e f g h low short fits inside =
    ap (λ t. first_fault (fault_if t wide ∷ fault_if (nat_lt room size) first ∷ fault_if (nat_lt len (offset + size)) second ∷ [])) (narrow address room a m h g low short)
    ∙ passes (nat_lt room size) (nat_lt len (offset + size)) first second (le-ltb room size (omega arith)) (le-ltb len (offset + size) (omega arith))

-- one number more
range_suc : (index count n : ℕ) → count ≡ suc n → range_with_len index count ≡ index ∷ range_with_len (index + 1) n
range_suc index count n e = ap (range_with_len index) e

positive : (n : ℕ) → (n == 0) ≡ false → 0 < n
positive n e = let h = eqb-false n 0 e in omega arith

-- the place of the next header
next_header : (table index offset da len memory : ℕ) (bytes more : List ℕ) → drop (table + 32 * index) bytes ≡ load_header offset da len memory ++ more → drop (table + 32 * (index + 1)) bytes ≡ more
next_header table index offset da len memory bytes more e =
    let place : table + 32 * (index + 1) ≡ table + 32 * index + 32 = omega arith in
    ap (λ n. drop n bytes) place ∙ behind (table + 32 * index) 32 bytes _ e

-- the bytes of a load
pub file_is : (offset size len : ℕ) (bytes file rest : List ℕ) (place : ℕ) → size ≡ length file → place ≡ offset → drop offset bytes ≡ file ++ rest → take size (drop place bytes) ≡ file
file_is offset size len bytes file rest place e f g = ap (λ n. take n (drop place bytes)) e ∙ ap (λ n. take (length file) (drop n bytes)) f ∙ ap (take (length file)) g ∙ take-append_seam file rest

-- the segments that are read from a header on
pub loads_are : (loads : List Load) (index : ℕ) (bytes rest : List ℕ) → All (IsLoadIn bytes) loads → length bytes < 2 ^ 32
    → drop ((file_header_read elf32 bytes).program_table + 32 * index) bytes ≡ load_headers loads ++ rest
    → map (segment_at bytes) (filter is_loaded (map (numbered_header elf32 (file_header_read elf32 bytes) bytes) (range_with_len index (length loads)))) ≡ loaded_segments index loads
loads_are [] index bytes rest all small h = refl
loads_are (load ∷ more) index bytes rest all small h =
    let table = (file_header_read elf32 bytes).program_table in
    let start = table + 32 * index in
    let len = length load.file in
    let word = load_header load.offset load.da len load.memory_len in
    let is = All-head (IsLoadIn bytes) load more all in
    let here : drop start bytes ≡ word ++ (load_headers more ++ rest) = h ∙ append_assoc word (load_headers more) rest in
    let read = load_read start load.offset load.da len load.memory_len bytes (load_headers more ++ rest) (omega (arith, is.inside)) is.address (omega (arith, is.inside)) is.memory here in
    let header = program_header_read elf32 start bytes in
    let later = loads_are more (index + 1) bytes rest (All-tail (IsLoadIn bytes) load more all) small (next_header table index load.offset load.da len load.memory_len bytes _ here) in
    ap (λ numbers. map (segment_at bytes) (filter is_loaded (map (numbered_header elf32 (file_header_read elf32 bytes) bytes) numbers))) (range_suc index (length (load ∷ more)) (length more) refl)
    ∙ mapped (segment_at bytes) (is_loaded (numbered_header elf32 (file_header_read elf32 bytes) bytes index)) (load.memory_len == 0) (numbered_header elf32 (file_header_read elf32 bytes) bytes index) _ _
    (tested header.kind header.memory_len load.memory_len read.0 read.4)
    (segment_is bytes load.file index header.offset header.physical_address header.file_len header.memory_len load.da load.memory_len read.2 read.4
    (file_is load.offset header.file_len len bytes load.file is.rest header.offset read.3 read.1 is.placed))
    ∙ ap (λ z. loaded_segment index load ++ z) later

-- and these have no fault
pub loads_pass : (loads : List Load) (index : ℕ) (bytes rest : List ℕ) → All (IsLoadIn bytes) loads → length bytes < 2 ^ 32
    → drop ((file_header_read elf32 bytes).program_table + 32 * index) bytes ≡ load_headers loads ++ rest
    → first_fault (map (segment_fault (length bytes)) (filter is_loaded (map (numbered_header elf32 (file_header_read elf32 bytes) bytes) (range_with_len index (length loads))))) ≡ None
loads_pass [] index bytes rest all small h = refl
loads_pass (load ∷ more) index bytes rest all small h =
    let table = (file_header_read elf32 bytes).program_table in
    let start = table + 32 * index in
    let len = length load.file in
    let word = load_header load.offset load.da len load.memory_len in
    let is = All-head (IsLoadIn bytes) load more all in
    let here : drop start bytes ≡ word ++ (load_headers more ++ rest) = h ∙ append_assoc word (load_headers more) rest in
    let read = load_read start load.offset load.da len load.memory_len bytes (load_headers more ++ rest) (omega (arith, is.inside)) is.address (omega (arith, is.inside)) is.memory here in
    let header = program_header_read elf32 start bytes in
    let later = loads_pass more (index + 1) bytes rest (All-tail (IsLoadIn bytes) load more all) small (next_header table index load.offset load.da len load.memory_len bytes _ here) in
    ap (λ numbers. first_fault (map (segment_fault (length bytes)) (filter is_loaded (map (numbered_header elf32 (file_header_read elf32 bytes) bytes) numbers)))) (range_suc index (length (load ∷ more)) (length more) refl)
    ∙ unfaulted (segment_fault (length bytes)) (is_loaded (numbered_header elf32 (file_header_read elf32 bytes) bytes index)) (load.memory_len == 0) (numbered_header elf32 (file_header_read elf32 bytes) bytes index) _
    (tested header.kind header.memory_len load.memory_len read.0 read.4)
    (λ some. sizes_pass (length bytes) header.offset header.file_len header.memory_len header.physical_address load.offset len load.memory_len load.da _ _ _ read.1 read.3 read.4 read.2
    is.address is.memory (is.room (positive load.memory_len some)) is.inside)
    later
