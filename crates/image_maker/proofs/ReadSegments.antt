-- The loads of a recipe are the loads of its image.
use Rattle.std.proofs.Common.{◌≡◌, ℕ, ◌+◌, ◌<◌, ◌≤◌, ◌^◌, List, [], ◌∷◌, ◌++◌, length, drop, All, sym, ◌∙◌, ap, arith, refl, append_assoc, add-zero}
use Rattle.std.proofs.lemmas.List.Elements.{All-nil, All-cons}
use Rattle.std.proofs.lemmas.List.Sums.{sum_by-cons}
use Rattle.std.proofs.Math.Seq.{drop-append_seam}
use Rattle.elf_writer.specs.Headers.{load_header}
use Rattle.elf_writer.specs.Loads.{Load, load_headers, loaded_segments}
use Rattle.elf_writer.proofs.ReadFields.{behind}
use Rattle.elf_writer.proofs.ReadLoads.{IsLoadIn}
use Rattle.script_lang.specs.declared.recipes.RecipeLine.{RecipeLine}
use Rattle.script_lang.specs.declared.recipes.RecipeLine.TheVariants as recipe
use Rattle.script_lang.specs.Runnable.{IsRecipe}
use Rattle.image_maker.specs.Segments.{data_of, code_of, segments_of, segment_count, data_len, program_headers, segment_bytes}
use Rattle.image_maker.specs.ReadBack.{segment_of, segments_from, HaveRoom}
use Rattle.image_maker.proofs.CodeBytes.{code_front, code_fits}

-- the loads of lines whose bytes stand from a place of the image on
abbrev pub load_of : List ℕ → ℕ → RecipeLine → List Load
load_of code offset (recipe.Load da bytes memory_len) = record { offset = offset; da = da; memory_len = memory_len; file = bytes } ∷ []
load_of code offset (recipe.Code da) = record { offset = offset; da = da; memory_len = length code; file = code } ∷ []
load_of code offset line = []

abbrev pub loads_from : ℕ → List RecipeLine → List Load
loads_from offset [] = []
loads_from offset (line ∷ more) = load_of (code_of more) offset line ++ loads_from (offset + length (data_of line)) more

-- they have the same headers, are as many, and are the same segments
pub headers_same : (lines : List RecipeLine) (offset : ℕ) → program_headers offset lines ≡ load_headers (loads_from offset lines)
headers_same [] offset = refl
headers_same (recipe.Load da bytes memory ∷ more) offset = ap (λ z. load_header offset da (length bytes) memory ++ z) (headers_same more (offset + length bytes))
headers_same (recipe.Code da ∷ more) offset = ap (λ z. load_header offset da (length (code_of more)) (length (code_of more)) ++ z) (headers_same more (offset + 0))
headers_same (line ∷ more) offset = headers_same more (offset + length (data_of line))

pub count_same : (lines : List RecipeLine) (offset : ℕ) → segment_count lines ≡ length (loads_from offset lines)
count_same [] offset = refl
count_same (recipe.Load da bytes memory ∷ more) offset = omega (arith, sum_by-cons segments_of (recipe.Load da bytes memory) more, count_same more (offset + length bytes))
count_same (recipe.Code da ∷ more) offset = omega (arith, sum_by-cons segments_of (recipe.Code da) more, count_same more (offset + 0))
count_same (line ∷ more) offset = omega (arith, sum_by-cons segments_of line more, count_same more (offset + length (data_of line)))

pub segments_same : (lines : List RecipeLine) (index offset : ℕ) → loaded_segments index (loads_from offset lines) ≡ segments_from index lines
segments_same [] index offset = refl
segments_same (recipe.Load da bytes memory ∷ more) index offset =
    ap (λ z. segment_of (code_of more) index (recipe.Load da bytes memory) ++ z) (segments_same more (index + 1) (offset + length bytes))
segments_same (recipe.Code da ∷ more) index offset = ap (λ z. segment_of (code_of more) index (recipe.Code da) ++ z) (segments_same more (index + 1) (offset + 0))
segments_same (line ∷ more) index offset = segments_same more index (offset + length (data_of line)) ∙ ap (λ i. segments_from i more) (sym (add-zero index))

next_file : (offset : ℕ) (bytes file more : List ℕ) → drop offset bytes ≡ file ++ more → drop (offset + length file) bytes ≡ more
next_file offset bytes file more e = behind offset (length file) bytes (file ++ more) e ∙ drop-append_seam file more

-- each stands in an image that has their bytes from there on
pub loads_hold : (lines : List RecipeLine) (offset : ℕ) (bytes files : List ℕ) → IsRecipe lines → HaveRoom lines → length bytes < 2 ^ 32 → offset + data_len lines ≤ length bytes
    → drop offset bytes ≡ segment_bytes lines ++ files → All (IsLoadIn bytes) (loads_from offset lines)
loads_hold [] offset bytes files r room small within f = All-nil (IsLoadIn bytes)
loads_hold (recipe.Load da file memory ∷ more) offset bytes files r room small within f =
    let there : drop offset bytes ≡ file ++ (segment_bytes more ++ files) = f ∙ append_assoc file (segment_bytes more) files in
    let data_more : data_len (recipe.Load da file memory ∷ more) ≡ length file + data_len more = sum_by-cons (λ line. length (data_of line)) (recipe.Load da file memory) more in
    All-cons (IsLoadIn bytes) _ _
    (record { rest = segment_bytes more ++ files; placed = there; inside = omega arith; address = omega arith; memory = omega arith; room = room.0 })
    (loads_hold more (offset + length file) bytes files r.1 room.1 small (omega arith) (next_file offset bytes file _ there))
loads_hold (recipe.Code da ∷ more) offset bytes files r room small within f =
    let front = code_front more in
    let fits = code_fits more (length (code_of more)) refl in
    let inside : offset + data_len more ≤ length bytes = within in
    All-cons (IsLoadIn bytes) _ _
    (record {
      rest = front.rest ++ files;
      placed = f ∙ ap (λ xs. xs ++ files) front.is ∙ append_assoc (code_of more) front.rest files;
      inside = omega (arith, fits.1);
      address = omega arith;
      memory = omega (arith, fits.1);
      room = λ some. omega arith;
    })
    (loads_hold more (offset + 0) bytes files r.1 room.1 small (omega arith) (ap (λ o. drop o bytes) (add-zero offset) ∙ f))
loads_hold (line ∷ more) offset bytes files r room small within f =
    let data_more : data_len (line ∷ more) ≡ length (data_of line) + data_len more = sum_by-cons (λ line. length (data_of line)) line more in
    loads_hold more (offset + length (data_of line)) bytes files r.1 room.1 small (omega arith)
    (next_file offset bytes (data_of line) (segment_bytes more ++ files) (f ∙ append_assoc (data_of line) (segment_bytes more) files))
