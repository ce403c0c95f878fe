-- The resource table of a recipe is the section of its image.
use Rattle.std.proofs.Common.{◌≡◌, ℕ, ◌+◌, ◌*◌, ◌-◌, ◌<◌, ◌≤◌, ◌^◌, ◌==◌, ◌||◌, not, Bool, true, false, cond, List, [], ◌∷◌, ◌++◌, length, drop, replicate, map, codes, Some, None, ◌∙◌, ap, arith, refl, lit<, length-append}
use lib.Dec.{ltb as nat_lt}
use Rattle.std.specs.Prelude.{option_map}
use Rattle.std.specs.List.{range_with_len, find, sum_by}
use Rattle.std.proofs.lemmas.Bool.{le-ltb, ne_eqb}
use Rattle.std.proofs.lemmas.List.{length-replicate}
use Rattle.std.proofs.lemmas.List.Sums.{sum_by-cons}
use Rattle.rp_base.specs.Texts.{padded_name}
use Rattle.elf_image.specs.Layout.{elf32}
use Rattle.elf_image.specs.Headers.{section_header as section_header_read, file_header as file_header_read}
use Rattle.rp_base.specs.Faults.{fault_if, first_fault}
use Rattle.elf_image.specs.Sections.{is_name, name_at, has_sections, section_header_at, sections_from, names_of, has_name, section_place, section_in, sections_fault}
use Rattle.elf_image.specs.declared.faults.ElfFault.TheVariants as fault
use Rattle.elf_image.specs.declared.sections.Section.{Section}
use Rattle.script_lang.specs.declared.recipes.RecipeLine.{RecipeLine}
use Rattle.script_lang.specs.declared.recipes.RecipeLine.TheVariants as recipe
use Rattle.script_lang.specs.Runnable.{IsLine, IsRecipe}
use Rattle.elf_writer.specs.Fields.{word_fields}
use Rattle.image_maker.specs.Tables.{entries_of, entry_bytes, entry_len, rings_in_front, entries, offset_of, offsets, entry_count, table_len, table_bytes}
use Rattle.image_maker.specs.Images.{section_names, section_headers}
use Rattle.elf_writer.proofs.ReadFields.{IsHeader, behind, section_read}
use Rattle.elf_writer.proofs.ReadLoads.{file_is, passes}

length_padded : (name : List ℕ) → length name ≤ 31 → length (padded_name name) ≡ 32
length_padded name h = omega (arith, length-append name (replicate (32 - length name) 0), length-replicate {A = ℕ} (32 - length name) 0)

one_offset : (offset : ℕ) (line : RecipeLine) → length (offset_of offset line) ≡ 4 * entries_of line
one_offset offset (recipe.Entry da) = refl
one_offset offset line = refl

length_offsets : (lines : List RecipeLine) (offset : ℕ) → length (offsets offset lines) ≡ 4 * entry_count lines
length_offsets [] offset = refl
length_offsets (line ∷ more) offset =
    omega (arith, length-append (offset_of offset line) (offsets (offset + entry_len line) more), one_offset offset line, length_offsets more (offset + entry_len line), sum_by-cons entries_of line more)

behind_words : (words name : List ℕ) → length name ≤ 31 → length (words ++ padded_name name) ≡ length words + 32
behind_words words name h = length-append words (padded_name name) ∙ ap (λ n. length words + n) (length_padded name h)

one_entry : (rings : ℕ) (line : RecipeLine) → IsLine line → length (entry_bytes rings line) ≡ entry_len line
one_entry rings (recipe.Carveout da len name) r = behind_words (word_fields (0 ∷ da ∷ 0 ∷ len ∷ 0 ∷ 0 ∷ [])) name r.2
one_entry rings (recipe.Devmem da pa len name) r = behind_words (word_fields (1 ∷ da ∷ pa ∷ len ∷ 0 ∷ 0 ∷ [])) name r.3
one_entry rings (recipe.Trace da len name) r = behind_words (word_fields (2 ∷ da ∷ len ∷ 0 ∷ [])) name r.2
one_entry rings line r = refl

length_entries : (lines : List RecipeLine) → IsRecipe lines → length (entries lines) ≡ sum_by entry_len lines
length_entries [] r = refl
length_entries (line ∷ more) r =
    omega (arith, length-append (entry_bytes (rings_in_front more) line) (entries more), one_entry (rings_in_front more) line r.0, length_entries more r.1, sum_by-cons entry_len line more)

pub length_table : (lines : List RecipeLine) → IsRecipe lines → length (table_bytes lines) ≡ table_len lines
length_table lines r =
    let front = word_fields (1 ∷ entry_count lines ∷ 0 ∷ 0 ∷ []) in
    let middle = offsets (16 + 4 * entry_count lines) lines in
    let four : length front ≡ 16 = refl in
    omega (arith, length-append (front ++ middle) (entries lines), length-append front middle, four, length_offsets lines (16 + 4 * entry_count lines), length_entries lines r)

found : {X : Type 0} (p : X → Bool) (a b : X) (rest : List X) → p a ≡ false → p b ≡ true → find p (a ∷ b ∷ rest) ≡ Some b
found p a b rest e f = ap (λ t. cond t (Some a) (find p (b ∷ rest))) e ∙ ap (λ t. cond t (Some b) (find p rest)) f

section_is : (address offset size da start len : ℕ) → address ≡ da → offset ≡ start → size ≡ len → ◌≡◌ {A = Section} (record { address = address; offset = offset; size = size }) (record { address = da; offset = start; size = len })
section_is address offset size da start len a o s = cc

-- an image with section headers at this place, which say this
pub record HasTable (bytes : List ℕ) (place da start len : ℕ) : Type 0 where
  pub headers : drop place bytes ≡ section_headers da start len
  pub names : (rest : List ℕ) × (drop (start + len) bytes ≡ section_names ++ rest)
  pub da_small : da < 2 ^ 32
  pub end_small : start + len < 2 ^ 32
  pub inside : place + 120 ≤ length bytes
  pub names_inside : start + len + 27 ≤ length bytes
  pub not_first : 0 < place

table_there : (bytes : List ℕ) (entry segments place da start len : ℕ) → IsHeader bytes entry segments place 40 3 2 → HasTable bytes place da start len → has_sections (file_header_read elf32 bytes) ≡ true
table_there bytes entry segments place da start len h t = ap (λ at. not (at == 0)) h.place_is ∙ ap not (ne_eqb place 0 (λ e. absurd (omega arith)))

-- the section header of the names, and the names
names_header : (bytes : List ℕ) (entry segments place da start len : ℕ) → IsHeader bytes entry segments place 40 3 2 → HasTable bytes place da start len
    → ((section_header_at elf32 (file_header_read elf32 bytes) bytes (file_header_read elf32 bytes).names_index).offset ≡ start + len)
    × ((section_header_at elf32 (file_header_read elf32 bytes) bytes (file_header_read elf32 bytes).names_index).size ≡ 27)
unfolding section_headers
names_header bytes entry segments place da start len h t =
    let table = (file_header_read elf32 bytes).section_table in
    let index = (file_header_read elf32 bytes).names_index in
    let here : drop (table + 40 * index) bytes ≡ word_fields (17 ∷ 3 ∷ 0 ∷ 0 ∷ (start + len) ∷ 27 ∷ 0 ∷ 0 ∷ 1 ∷ 0 ∷ []) ++ [] =
    ap (λ at. drop (at + 40 * index) bytes) h.place_is ∙ ap (λ i. drop (place + 40 * i) bytes) h.names_are ∙ behind place 80 bytes (section_headers da start len) t.headers in
    let read = section_read (table + 40 * index) 17 3 0 0 (start + len) 27 1 bytes [] (lit< tt) (lit< tt) t.end_small (lit< tt) here in
    (read.2, read.3)

names_read : (bytes : List ℕ) (entry segments place da start len : ℕ) → IsHeader bytes entry segments place 40 3 2 → HasTable bytes place da start len → names_of elf32 (file_header_read elf32 bytes) bytes ≡ section_names
names_read bytes entry segments place da start len h t =
    let header = names_header bytes entry segments place da start len h t in
    file_is (start + len) _ 27 bytes section_names t.names.0 _ header.1 header.0 t.names.1

pub section_found : (bytes : List ℕ) (entry segments place da start len : ℕ) → IsHeader bytes entry segments place 40 3 2 → HasTable bytes place da start len
    → section_in elf32 (file_header_read elf32 bytes) bytes (codes ".resource_table") ≡ Some (record { address = da; offset = start; size = len })
unfolding section_headers
section_found bytes entry segments place da start len h t =
    let table = (file_header_read elf32 bytes).section_table in
    let name = codes ".resource_table" in
    let names = names_read bytes entry segments place da start len h t in
    let test = has_name (names_of elf32 (file_header_read elf32 bytes) bytes) name in
    let none : drop (table + 0) bytes ≡ section_headers da start len = ap (λ at. drop (at + 0) bytes) h.place_is ∙ behind place 0 bytes (section_headers da start len) t.headers in
    let here : drop (table + 40) bytes ≡ drop 40 (section_headers da start len) = ap (λ at. drop (at + 40) bytes) h.place_is ∙ behind place 40 bytes (section_headers da start len) t.headers in
    let first = section_read (table + 0) 0 0 0 0 0 0 0 bytes (drop 40 (section_headers da start len)) (lit< tt) (lit< tt) (lit< tt) (lit< tt) none in
    let second = section_read (table + 40) 1 1 2 da start len 4 bytes (drop 80 (section_headers da start len)) (lit< tt) t.da_small (omega arith) (omega arith) here in
    let other : test (section_header_at elf32 (file_header_read elf32 bytes) bytes 0) ≡ false =
    ap (λ text. is_name (name_at text (section_header_read elf32 (table + 0) bytes).name) name) names ∙ ap (λ at. is_name (name_at section_names at) name) first.0 in
    let same : test (section_header_at elf32 (file_header_read elf32 bytes) bytes 1) ≡ true =
    ap (λ text. is_name (name_at text (section_header_read elf32 (table + 40) bytes).name) name) names ∙ ap (λ at. is_name (name_at section_names at) name) second.0 in
    ap (λ b. cond b (option_map section_place (find test (sections_from elf32 (file_header_read elf32 bytes) bytes 0))) None) (table_there bytes entry segments place da start len h t)
    ∙ ap (λ n. option_map section_place (find test (map (section_header_at elf32 (file_header_read elf32 bytes) bytes) (range_with_len 0 (n - 0))))) h.sections_are
    ∙ ap (option_map section_place) (found test (section_header_at elf32 (file_header_read elf32 bytes) bytes 0) (section_header_at elf32 (file_header_read elf32 bytes) bytes 1)
    (section_header_at elf32 (file_header_read elf32 bytes) bytes 2 ∷ []) other same) ∙ ap Some (section_is _ _ _ da start len second.1 second.2 second.3)

pub sections_pass : (bytes : List ℕ) (entry segments place da start len : ℕ) → IsHeader bytes entry segments place 40 3 2 → HasTable bytes place da start len → sections_fault elf32 (file_header_read elf32 bytes) bytes ≡ None
sections_pass bytes entry segments place da start len h t =
    let index = (file_header_read elf32 bytes).names_index in
    let count = (file_header_read elf32 bytes).section_count in
    let header = names_header bytes entry segments place da start len h t in
    let offset = (section_header_at elf32 (file_header_read elf32 bytes) bytes index).offset in
    let size = (section_header_at elf32 (file_header_read elf32 bytes) bytes index).size in
    let one_of : not (nat_lt index count) ≡ false = ap (λ i. not (nat_lt i count)) h.names_are ∙ ap (λ n. not (nat_lt 2 n)) h.sections_are in
    let inside : nat_lt (length bytes) (offset + size) ≡ false = le-ltb (length bytes) (offset + size) (omega (arith, header.0, header.1, t.names_inside)) in
    ap (λ b. cond b (first_fault
    (fault_if (nat_lt (length bytes) ((file_header_read elf32 bytes).section_table + 40 * count)) fault.SectionsPastEnd
    ∷ fault_if (not (nat_lt index count) || nat_lt (length bytes) (offset + size)) fault.NamesMissing ∷ [])) None) (table_there bytes entry segments place da start len h t)
    ∙ passes _ _ fault.SectionsPastEnd fault.NamesMissing (le-ltb (length bytes) ((file_header_read elf32 bytes).section_table + 40 * count) (omega (arith, h.place_is, h.sections_are, t.inside)))
    (ap (λ b. b || nat_lt (length bytes) (offset + size)) one_of ∙ inside)
