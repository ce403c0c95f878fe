-- The headers and the segments of a built image are read back.
use Rattle.std.proofs.Common.{◌≡◌, ℕ, ◌+◌, ◌*◌, ◌<◌, ◌≤◌, ◌^◌, ◌==◌, ◌&&◌, not, false, List, [], ◌∷◌, ◌++◌, length, drop, subst, ◌∙◌, ap, arith, refl, Some, None, append_assoc, length-append}
use Rattle.std.proofs.lemmas.List.Concat.{length-flat_map}
use Rattle.std.proofs.lemmas.List.Sums.{sum_by-cons}
use Rattle.elf_image.specs.Layout.{elf32, layout_of}
use Rattle.elf_image.specs.Headers.{file_header as file_header_read}
use Rattle.elf_image.specs.Sections.{sections_fault}
use Rattle.elf_image.specs.Images.{identification_fault}
use Rattle.elf_writer.proofs.ReadFields.{IsHeader, skip}
use Rattle.elf_writer.proofs.ReadImages.{IsRead, image_read}
use Rattle.script_lang.specs.declared.recipes.RecipeLine.{RecipeLine}
use Rattle.script_lang.specs.declared.recipes.RecipeLine.TheVariants as recipe
use Rattle.script_lang.specs.Runnable.{IsRecipe}
use Rattle.image_maker.specs.Segments.{data_of, code_of, segments_of, segment_count, data_len, program_header, program_headers, segment_bytes}
use Rattle.image_maker.specs.Images.{segments_part, data_start, data_end}
use Rattle.image_maker.specs.ReadBack.{segments_from, HaveRoom}
use Rattle.image_maker.proofs.ReadSegments.{count_same, headers_same, loads_from, loads_hold, segments_same}

-- where the parts of an image stand
one_header : (code offset : ℕ) (line : RecipeLine) → length (program_header code offset line) ≡ 32 * segments_of line
one_header code offset (recipe.Load da bytes memory) = refl
one_header code offset line = refl

length_headers : (lines : List RecipeLine) (offset : ℕ) → length (program_headers offset lines) ≡ 32 * segment_count lines
length_headers [] offset = refl
length_headers (line ∷ more) offset =
    omega (arith, length-append (program_header (length (code_of more)) offset line) (program_headers (offset + length (data_of line)) more), one_header (length (code_of more)) offset line, length_headers more (offset + length (data_of line)), sum_by-cons segments_of line more)

pub record HasParts (lines : List RecipeLine) (bytes tail : List ℕ) : Type 0 where
  pub headers : drop 52 bytes ≡ program_headers (data_start lines) lines ++ (segment_bytes lines ++ tail)
  pub files : drop (data_start lines) bytes ≡ segment_bytes lines ++ tail
  pub behind : drop (data_end lines) bytes ≡ tail
  pub total : length bytes ≡ data_end lines + length tail

pub parts_are : (lines : List RecipeLine) (header tail : List ℕ) → length header ≡ 52 → HasParts lines (header ++ (segments_part lines ++ tail)) tail
unfolding segments_part
parts_are lines header tail len =
    let bytes = header ++ (segments_part lines ++ tail) in
    let front = program_headers (data_start lines) lines in
    let files = segment_bytes lines in
    let front_len = length_headers lines (data_start lines) in
    let files_len = length-flat_map data_of lines in
    let at_headers : drop 52 bytes ≡ front ++ (files ++ tail) = skip 0 52 bytes header (segments_part lines ++ tail) refl len ∙ append_assoc front files tail in
    let at_files : drop (data_start lines) bytes ≡ files ++ tail = skip 52 (32 * segment_count lines) bytes front (files ++ tail) at_headers front_len in
    record {
      headers = at_headers;
      files = at_files;
      behind = skip (data_start lines) (data_len lines) bytes files tail at_files files_len;
      total = omega (arith, length-append header (segments_part lines ++ tail), length-append (segments_part lines) tail, length-append front files, len, front_len, files_len);
    }

pub lines_read : (lines : List RecipeLine) (entry place size sections names : ℕ) (bytes tail : List ℕ) → IsRecipe lines → HaveRoom lines → entry < 2 ^ 32 → 0 < segment_count lines → segment_count lines < 65535
    → names < 65535 → (not (place == 0) && (sections == 0)) ≡ false → (not (place == 0) && not (size == 40)) ≡ false → length bytes < 2 ^ 32
    → IsHeader bytes entry (segment_count lines) place size sections names → identification_fault bytes ≡ None → layout_of bytes ≡ Some elf32 → HasParts lines bytes tail
    → sections_fault elf32 (file_header_read elf32 bytes) bytes ≡ None → IsRead bytes entry (segments_from 0 lines)
lines_read lines entry place size sections names bytes tail recipe room low some few last some_sections forty short header identity layout parts no_fault =
    let start = data_start lines in
    let loads = loads_from start lines in
    let count = count_same lines start in
    let inside : start + data_len lines ≤ length bytes = omega (arith, parts.total) in
    subst (IsRead bytes entry) (segments_same lines 0 start)
    (image_read loads entry place size sections names bytes (segment_bytes lines ++ tail) (loads_hold lines start bytes tail recipe room short inside parts.files)
    low (omega (arith, count)) (omega (arith, count)) last some_sections forty short (omega (arith, count, inside))
    (subst (λ n. IsHeader bytes entry n place size sections names) count header) identity layout
    (parts.headers ∙ ap (λ headers. headers ++ (segment_bytes lines ++ tail)) (headers_same lines start)) no_fault)
