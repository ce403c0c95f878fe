-- The headers and the loads of an image that was written are read back.
use Rattle.std.proofs.Common.{◌≡◌, ℕ, ◌+◌, ◌*◌, ◌-◌, ◌<◌, ◌≤◌, ◌^◌, ◌==◌, ◌&&◌, ◌||◌, not, Bool, false, cond, List, [], ◌++◌, ◌∷◌, length, drop, map, All, Option, Some, None, ◌∙◌, ap, arith, refl, length-append}
use lib.Dec.{ltb as nat_lt}
use Rattle.std.specs.List.{range_with_len, filter}
use Rattle.std.proofs.lemmas.Bool.{le-ltb, ne_eqb}
use Rattle.elf_image.specs.Layout.{elf32, layout_of}
use Rattle.elf_image.specs.Headers.{file_header as file_header_read}
use Rattle.rp_base.specs.Faults.{fault_if, first_fault}
use Rattle.elf_image.specs.Segments.{SegmentAt, segments_of, segment_at, is_loaded, numbered_header, segment_fault, segments_by}
use Rattle.elf_image.specs.Sections.{section_header_at, sections_fault}
use Rattle.elf_image.specs.Images.{identification_fault, header_fault, contents_fault, GoodImage, entry_of, entry_by}
use Rattle.elf_image.specs.declared.faults.ElfFault.{ElfFault}
use Rattle.elf_image.specs.declared.faults.ElfFault.TheVariants as fault
use Rattle.elf_writer.specs.Headers.{file_header}
use Rattle.elf_writer.specs.Loads.{Load, load_headers, loaded_segments}
use Rattle.elf_writer.proofs.ReadFields.{IsHeader}
use Rattle.elf_writer.proofs.ReadLoads.{IsLoadIn, loads_are, loads_pass}

or_two : (a b : Bool) → a ≡ false → b ≡ false → (a || b) ≡ false
or_two a b e f = ap (λ x. x || b) e ∙ f

or_three : (a b c : Bool) → a ≡ false → b ≡ false → c ≡ false → (a || b || c) ≡ false
or_three a b c e f g = or_two (a || b) c (or_two a b e f) g

five_pass : (a b c d e : Bool) (v w x y z : ElfFault) → a ≡ false → b ≡ false → c ≡ false → d ≡ false → e ≡ false → first_fault (fault_if a v ∷ fault_if b w ∷ fault_if c x ∷ fault_if d y ∷ fault_if e z ∷ []) ≡ None
five_pass a b c d e v w x y z f g h i j =
    ap (λ t. first_fault (fault_if t v ∷ fault_if b w ∷ fault_if c x ∷ fault_if d y ∷ fault_if e z ∷ [])) f
    ∙ ap (λ t. first_fault (fault_if t w ∷ fault_if c x ∷ fault_if d y ∷ fault_if e z ∷ [])) g ∙ ap (λ t. first_fault (fault_if t x ∷ fault_if d y ∷ fault_if e z ∷ [])) h
    ∙ ap (λ t. first_fault (fault_if t y ∷ fault_if e z ∷ [])) i ∙ ap (λ t. first_fault (fault_if t z ∷ [])) j

three_none : (a b c : Option ElfFault) → a ≡ None → b ≡ None → c ≡ None → first_fault (a ∷ b ∷ c ∷ []) ≡ None
three_none a b c e f g = ap (λ t. first_fault (t ∷ b ∷ c ∷ [])) e ∙ ap (λ t. first_fault (t ∷ c ∷ [])) f ∙ ap (λ t. first_fault (t ∷ [])) g

-- the header passes
header_pass : (bytes : List ℕ) (entry segments place size sections names total : ℕ) → IsHeader bytes entry segments place size sections names → entry < 2 ^ 32 → 0 < segments → segments < 65535 → names < 65535
    → (not (place == 0) && (sections == 0)) ≡ false → (not (place == 0) && not (size == 40)) ≡ false → 52 + 32 * segments ≤ total → header_fault elf32 (file_header_read elf32 bytes) total ≡ None
header_pass bytes entry segments place size sections names total h low some few last some_sections forty inside =
    five_pass _ _ _ _ _ fault.Numbering fault.NoSegments fault.EntrySize fault.HeadersPastEnd fault.WideEntry
    (or_three ((file_header_read elf32 bytes).program_count == 65535) ((file_header_read elf32 bytes).names_index == 65535) _ (ne_eqb (file_header_read elf32 bytes).program_count 65535 (λ e. absurd (omega arith))) (ne_eqb (file_header_read elf32 bytes).names_index 65535 (λ e. absurd (omega arith)))
    (ap (λ p. not (p == 0) && ((file_header_read elf32 bytes).section_count == 0)) h.place_is ∙ ap (λ s. not (place == 0) && (s == 0)) h.sections_are ∙ some_sections))
    (ne_eqb (file_header_read elf32 bytes).program_count 0 (λ e. absurd (omega arith)))
    (or_two (not ((file_header_read elf32 bytes).program_header_size == 32)) _ (ap (λ n. not (n == 32)) h.program_size)
    (ap (λ p. not (p == 0) && not ((file_header_read elf32 bytes).section_header_size == 40)) h.place_is ∙ ap (λ s. not (place == 0) && not (s == 40)) h.section_size ∙ forty))
    (le-ltb total ((file_header_read elf32 bytes).program_table + 32 * (file_header_read elf32 bytes).program_count) (omega arith))
    (le-ltb 0xffffffff (file_header_read elf32 bytes).entry (omega arith))

-- the identification passes, and says the layout
pub length_header : (kind entry segments place size sections names : ℕ) → length (file_header kind entry segments place size sections names) ≡ 52
unfolding file_header
length_header kind entry segments place size sections names = refl

pub identified : (kind entry segments place size sections names : ℕ) (rest : List ℕ) → identification_fault (file_header kind entry segments place size sections names ++ rest) ≡ None
unfolding file_header
identified kind entry segments place size sections names rest =
    let bytes = file_header kind entry segments place size sections names ++ rest in
    let long : nat_lt (length bytes) 52 ≡ false =
    le-ltb (length bytes) 52 (omega (arith, length-append (file_header kind entry segments place size sections names) rest, length_header kind entry segments place size sections names)) in
    ap (λ b. first_fault (fault_if b fault.Short ∷ fault_if false fault.Magic ∷ fault_if false fault.Class ∷ fault_if false fault.Order ∷ fault_if b fault.Short ∷ [])) long

pub layout_is : (kind entry segments place size sections names : ℕ) (rest : List ℕ) → layout_of (file_header kind entry segments place size sections names ++ rest) ≡ Some elf32
unfolding file_header
layout_is kind entry segments place size sections names rest = refl

-- an image without section headers has no fault of sections
pub no_sections : (bytes : List ℕ) (entry segments : ℕ) → IsHeader bytes entry segments 0 0 0 0 → not ((file_header_read elf32 bytes).section_table == 0) ≡ false
no_sections bytes entry segments h = ap (λ at. not (at == 0)) h.place_is

pub plain_pass : (bytes : List ℕ) (entry segments : ℕ) → IsHeader bytes entry segments 0 0 0 0 → sections_fault elf32 (file_header_read elf32 bytes) bytes ≡ None
plain_pass bytes entry segments h =
    let header = file_header_read elf32 bytes in
    let names = section_header_at elf32 header bytes header.names_index in
    ap (λ b. cond b (first_fault
    (fault_if (nat_lt (length bytes) (header.section_table + 40 * header.section_count)) fault.SectionsPastEnd
    ∷ fault_if (not (nat_lt header.names_index header.section_count) || nat_lt (length bytes) (names.offset + names.size)) fault.NamesMissing ∷ [])) None)
    (no_sections bytes entry segments h)

pub record IsRead (bytes : List ℕ) (entry : ℕ) (segments : List SegmentAt) : Type 0 where
  pub layout : layout_of bytes ≡ Some elf32
  pub good : GoodImage bytes
  pub entry_is : entry_of bytes ≡ entry
  pub segments_are : segments_of bytes ≡ segments

pub image_read : (loads : List Load) (entry place size sections names : ℕ) (bytes rest : List ℕ) → All (IsLoadIn bytes) loads → entry < 2 ^ 32 → 0 < length loads → length loads < 65535
    → names < 65535 → (not (place == 0) && (sections == 0)) ≡ false → (not (place == 0) && not (size == 40)) ≡ false → length bytes < 2 ^ 32 → 52 + 32 * length loads ≤ length bytes
    → IsHeader bytes entry (length loads) place size sections names → identification_fault bytes ≡ None → layout_of bytes ≡ Some elf32 → drop 52 bytes ≡ load_headers loads ++ rest
    → sections_fault elf32 (file_header_read elf32 bytes) bytes ≡ None → IsRead bytes entry (loaded_segments 0 loads)
image_read loads entry place size sections names bytes rest all low some few last some_sections forty short inside header identity layout headers no_fault =
    let read = file_header_read elf32 bytes in
    let at : drop (read.program_table + 32 * 0) bytes ≡ load_headers loads ++ rest = ap (λ t. drop (t + 32 * 0) bytes) header.table_is ∙ headers in
    let count : read.program_count - 0 ≡ length loads = omega (arith, header.count_is) in
    let segments_fine = ap (λ n. first_fault (map (segment_fault (length bytes)) (filter is_loaded (map (numbered_header elf32 read bytes) (range_with_len 0 n))))) count ∙ loads_pass loads 0 bytes rest all short at in
    let header_fine = header_pass bytes entry (length loads) place size sections names (length bytes) header low some few last some_sections forty inside in
    let contents : contents_fault (Some elf32) bytes ≡ None = three_none _ _ _ header_fine segments_fine no_fault in
    record {
      layout = layout;
      good = ap (λ o. first_fault (o ∷ contents_fault (layout_of bytes) bytes ∷ [])) identity ∙ ap (λ l. first_fault (contents_fault l bytes ∷ [])) layout ∙ ap (λ o. first_fault (o ∷ [])) contents;
      entry_is = ap (λ l. entry_by l bytes) layout ∙ header.entry_is;
      segments_are = ap (λ l. segments_by l bytes) layout ∙ ap (λ n. map (segment_at bytes) (filter is_loaded (map (numbered_header elf32 read bytes) (range_with_len 0 n)))) count ∙ loads_are loads 0 bytes rest all short at;
    }
