-- One header more of a table.
use Rattle.std.proofs.Common.{◌≡◌, ℕ, ◌+◌, ◌-◌, ◌<◌, ◌≤◌, ◌*◌, Bool, cond, suc, List, ◌∷◌, refl, ap, ◌∙◌, arith, map, Some}
use Rattle.std.specs.List.{range_with_len, filter, find}
use Rattle.elf_image.specs.Headers.{program_header}
use Rattle.elf_image.specs.Segments.{numbered_header, loaded_from, is_loaded}
use Rattle.elf_image.specs.Sections.{section_header_at, sections_from}
use Rattle.elf_image.specs.declared.headers.FileHeader.{FileHeader}
use Rattle.elf_image.specs.declared.headers.NumberedHeader.{NumberedHeader}
use Rattle.elf_image.specs.declared.headers.SectionHeader.{SectionHeader}
use Rattle.elf_image.specs.declared.layouts.Layout.{Layout}

-- the numbers from i on, below n, are i and those from i + 1 on
range_more : (i n : ℕ) → i < n → range_with_len i (n - i) ≡ i ∷ range_with_len (i + 1) (n - (i + 1))
range_more i n below =
    let e : n - i ≡ suc (n - (i + 1)) = omega arith in
    rw e refl

-- a header that is read is the first of those left, where its segment is loaded, and none of them otherwise
pub loaded_from_more : (layout : Layout) (header : FileHeader) (bytes : List ℕ) (i : ℕ) (read : NumberedHeader) (loaded : Bool)
    → i < header.program_count → read ≡ numbered_header layout header bytes i → loaded ≡ is_loaded read
    → loaded_from layout header bytes i
    ≡ cond loaded (read ∷ loaded_from layout header bytes (i + 1)) (loaded_from layout header bytes (i + 1))
loaded_from_more layout header bytes i read loaded below is test =
    rw (test, is) (ap (λ range. filter is_loaded (map (numbered_header layout header bytes) range)) (range_more i header.program_count below))

-- a section header that is read is found, where it passes the test, and the search goes on otherwise
pub find_more : (test : SectionHeader → Bool) (layout : Layout) (header : FileHeader) (bytes : List ℕ) (i : ℕ) (read : SectionHeader) (found : Bool)
    → i < header.section_count → read ≡ section_header_at layout header bytes i → found ≡ test read
    → find test (sections_from layout header bytes i) ≡ cond found (Some read) (find test (sections_from layout header bytes (i + 1)))
find_more test layout header bytes i read found below is passes =
    rw (passes, is) (ap (λ range. find test (map (section_header_at layout header bytes) range)) (range_more i header.section_count below))

-- a program header that was read at the place of its number
pub header_is : (layout : Layout) (header : FileHeader) (bytes : List ℕ) (i start : ℕ) (read : NumberedHeader) → read.index ≡ i → read.header ≡ program_header layout start bytes
    → start ≡ header.program_table + layout.program_header_size * i → read ≡ numbered_header layout header bytes i
header_is layout header bytes i start read index is at =
    let place = header.program_table + layout.program_header_size * i in
    let there : read.header ≡ program_header layout place bytes = is ∙ ap (λ at. program_header layout at bytes) at in
    let same : ◌≡◌ {A = NumberedHeader} (record { index = read.index; header = read.header }) (record { index = i; header = program_header layout place bytes }) = cc in
    same
