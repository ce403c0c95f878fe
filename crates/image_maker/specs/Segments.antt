-- The segments of a recipe: their program headers and their bytes (TIS ELF 1.2, figure 2-1).
use Rattle.std.specs.Prelude.{ℕ, ◌+◌, Bool, true, false, if◌then◌else◌, List, [], ◌∷◌, ◌++◌, length, sum_by}
use Rattle.std.specs.List.{flat_map, prefix_len}
use Rattle.script_lang.specs.declared.recipes.RecipeLine.{RecipeLine}
use Rattle.script_lang.specs.declared.recipes.RecipeLine.TheVariants as recipe
use Rattle.elf_writer.specs.Fields.{half_field, word_fields}
use Rattle.elf_writer.specs.Headers.{load_header}

-- a record of a worker's code has 16 bytes: the number of its kind, a length, and three operands (own)
abbrev pub record_fields : ℕ → ℕ → List ℕ → List ℕ
record_fields kind len operands = half_field kind ++ half_field len ++ word_fields operands

-- the bytes of a line in the image
abbrev pub data_of : RecipeLine → List ℕ
data_of (recipe.Load da bytes memory_len) = bytes
data_of recipe.Halt = record_fields 0 0 (0 ∷ 0 ∷ 0 ∷ [])
data_of (recipe.Announce address flags da) = record_fields 1 0 (address ∷ flags ∷ da ∷ [])
data_of (recipe.Bind address) = record_fields 2 0 (address ∷ 0 ∷ 0 ∷ [])
data_of (recipe.Send source destination da len) = record_fields 3 len (source ∷ destination ∷ da ∷ [])
data_of (recipe.Raw da len) = record_fields 4 len (0 ∷ 0 ∷ da ∷ [])
data_of recipe.Take = record_fields 5 0 (0 ∷ 0 ∷ 0 ∷ [])
data_of (recipe.Log to from len) = record_fields 6 len (to ∷ 0 ∷ from ∷ [])
data_of (recipe.Crash kind) = record_fields 7 0 (kind ∷ 0 ∷ 0 ∷ [])
data_of (recipe.Loop times target) = record_fields 8 0 (times ∷ target ∷ 0 ∷ [])
data_of line = []

-- a record belongs to the code before it
abbrev pub is_record : RecipeLine → Bool
is_record recipe.Halt = true
is_record (recipe.Announce address flags da) = true
is_record (recipe.Bind address) = true
is_record (recipe.Send source destination da len) = true
is_record (recipe.Raw da len) = true
is_record recipe.Take = true
is_record (recipe.Log to from len) = true
is_record (recipe.Crash kind) = true
is_record (recipe.Loop times target) = true
is_record line = false

-- how many records follow one another at the start of these lines
abbrev pub records_in_front : List RecipeLine → ℕ
records_in_front lines = prefix_len is_record lines

-- their bytes
abbrev pub code_of : List RecipeLine → List ℕ
code_of [] = []
code_of (line ∷ more) = if is_record line then data_of line ++ code_of more else []

-- how many segments a line is
abbrev pub segments_of : RecipeLine → ℕ
segments_of (recipe.Load da bytes memory_len) = 1
segments_of (recipe.Code da) = 1
segments_of line = 0

-- the program header of a line whose bytes are at a place of the image. A code has the bytes of the records after it, whose number is given
abbrev pub program_header : ℕ → ℕ → RecipeLine → List ℕ
program_header code offset (recipe.Load da bytes memory_len) = load_header offset da (length bytes) memory_len
program_header code offset (recipe.Code da) = load_header offset da code code
program_header code offset line = []

-- the program headers of these lines, whose bytes lie from a place of the image on, without gaps
abbrev pub program_headers : ℕ → List RecipeLine → List ℕ
program_headers offset [] = []
program_headers offset (line ∷ more) =
    program_header (length (code_of more)) offset line ++ program_headers (offset + length (data_of line)) more

-- the bytes of the segments
abbrev pub segment_bytes : List RecipeLine → List ℕ
segment_bytes lines = flat_map data_of lines

-- how many segments there are, and how many bytes
abbrev pub segment_count : List RecipeLine → ℕ
segment_count lines = sum_by segments_of lines

abbrev pub data_len : List RecipeLine → ℕ
data_len lines = sum_by (λ line. length (data_of line)) lines
