-- The fields of headers that were written are read back.
use Rattle.std.proofs.Common.{◌≡◌, ℕ, ◌+◌, ◌<◌, ◌^◌, List, [], ◌∷◌, ◌++◌, length, drop, sym, ◌∙◌, ap, refl, lit<, zero-add}
use Rattle.std.proofs.lemmas.List.{drop-drop}
use Rattle.std.proofs.Math.Seq.{drop-append_seam}
use Rattle.byteorder.specs.Endian.{little_number}
use Rattle.byteorder.specs.Numbers.{little_number-reads_back}
use Rattle.rp_base.specs.Fields.{number_at}
use Rattle.elf_image.specs.Layout.{elf32}
use Rattle.elf_image.specs.Headers.{program_header as program_header_read, section_header as section_header_read, file_header as file_header_read}
use Rattle.elf_writer.specs.Fields.{half_field, word_field, word_fields}
use Rattle.elf_writer.specs.Headers.{file_header, load_header}

-- what stands behind a part
pub behind : (a b : ℕ) (bytes rest : List ℕ) → drop a bytes ≡ rest → drop (a + b) bytes ≡ drop b rest
behind a b bytes rest e = sym (drop-drop b a bytes) ∙ ap (drop b) e

pub skip : (a n : ℕ) (bytes part rest : List ℕ) → drop a bytes ≡ part ++ rest → length part ≡ n → drop (a + n) bytes ≡ rest
skip a n bytes part rest e len = behind a n bytes (part ++ rest) e ∙ ap (λ k. drop k (part ++ rest)) (sym len) ∙ drop-append_seam part rest

word_read : (k v start : ℕ) (bytes all : List ℕ) → drop start bytes ≡ all → drop k all ≡ word_field v ++ drop (k + 4) all → v < 2 ^ 32 → number_at 4 (start + k) bytes ≡ v
word_read k v start bytes all e f small = ap (little_number 4) (behind start k bytes all e ∙ f) ∙ little_number-reads_back 4 v (drop (k + 4) all) small

-- the program header of a load: its type, its offset, its address, its bytes in the image and in memory
pub load_read : (start offset da len memory : ℕ) (bytes rest : List ℕ) → offset < 2 ^ 32 → da < 2 ^ 32 → len < 2 ^ 32 → memory < 2 ^ 32
    → drop start bytes ≡ load_header offset da len memory ++ rest
    → ((program_header_read elf32 start bytes).kind ≡ 1) × ((program_header_read elf32 start bytes).offset ≡ offset) × ((program_header_read elf32 start bytes).physical_address ≡ da)
    × ((program_header_read elf32 start bytes).file_len ≡ len) × ((program_header_read elf32 start bytes).memory_len ≡ memory)
unfolding program_header_read
load_read start offset da len memory bytes rest o d l m e =
    let all = load_header offset da len memory ++ rest in (
      word_read 0 1 start bytes all e refl (lit< tt),
      word_read 4 offset start bytes all e refl o,
      word_read 12 da start bytes all e refl d,
      word_read 16 len start bytes all e refl l,
      word_read 20 memory start bytes all e refl m,
    )

-- a section header: its name, its address, its offset and its size
pub section_read : (start name kind flags da offset size align : ℕ) (bytes rest : List ℕ) → name < 2 ^ 32 → da < 2 ^ 32 → offset < 2 ^ 32 → size < 2 ^ 32
    → drop start bytes ≡ word_fields (name ∷ kind ∷ flags ∷ da ∷ offset ∷ size ∷ 0 ∷ 0 ∷ align ∷ 0 ∷ []) ++ rest
    → ((section_header_read elf32 start bytes).name ≡ name) × ((section_header_read elf32 start bytes).address ≡ da)
    × ((section_header_read elf32 start bytes).offset ≡ offset) × ((section_header_read elf32 start bytes).size ≡ size)
unfolding section_header_read
section_read start name kind flags da offset size align bytes rest n d o s e =
    let all = word_fields (name ∷ kind ∷ flags ∷ da ∷ offset ∷ size ∷ 0 ∷ 0 ∷ align ∷ 0 ∷ []) ++ rest in
    (word_read 0 name start bytes all e refl n, word_read 12 da start bytes all e refl d, word_read 16 offset start bytes all e refl o, word_read 20 size start bytes all e refl s)

-- the ELF header
pub record IsHeader (bytes : List ℕ) (entry segments place size sections names : ℕ) : Type 0 where
  pub entry_is : (file_header_read elf32 bytes).entry ≡ entry
  pub table_is : (file_header_read elf32 bytes).program_table ≡ 52
  pub place_is : (file_header_read elf32 bytes).section_table ≡ place
  pub program_size : (file_header_read elf32 bytes).program_header_size ≡ 32
  pub count_is : (file_header_read elf32 bytes).program_count ≡ segments
  pub section_size : (file_header_read elf32 bytes).section_header_size ≡ size
  pub sections_are : (file_header_read elf32 bytes).section_count ≡ sections
  pub names_are : (file_header_read elf32 bytes).names_index ≡ names

half_read : (k v : ℕ) (bytes : List ℕ) → drop k bytes ≡ half_field v ++ drop (k + 2) bytes → v < 2 ^ 16 → number_at 2 (0 + k) bytes ≡ v
half_read k v bytes e small = ap (λ at. number_at 2 at bytes) (zero-add k) ∙ ap (little_number 2) e ∙ little_number-reads_back 2 v (drop (k + 2) bytes) small

pub header_read : (kind entry segments place size sections names : ℕ) (rest : List ℕ) → entry < 2 ^ 32 → segments < 2 ^ 16 → place < 2 ^ 32 → size < 2 ^ 16 → sections < 2 ^ 16 → names < 2 ^ 16
    → IsHeader (file_header kind entry segments place size sections names ++ rest) entry segments place size sections names
unfolding file_header_read file_header
header_read kind entry segments place size sections names rest e c p s n i =
    let all = file_header kind entry segments place size sections names ++ rest in
    record {
      entry_is = word_read 24 entry 0 all all refl refl e;
      table_is = word_read 28 52 0 all all refl refl (lit< tt);
      place_is = word_read 32 place 0 all all refl refl p;
      program_size = half_read 42 32 all refl (lit< tt);
      count_is = half_read 44 segments all refl c;
      section_size = half_read 46 size all refl s;
      sections_are = half_read 48 sections all refl n;
      names_are = half_read 50 names all refl i;
    }
