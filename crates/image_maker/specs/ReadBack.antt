-- What a reader of images finds in a built image (own).
use Rattle.std.specs.Prelude.{◌≡◌, ℕ, ◌+◌, ◌<◌, ◌≤◌, ◌^◌, ◌==◌, if◌then◌else◌, List, [], ◌∷◌, ◌++◌, length, take, drop, codes, option_map, IsSome, Option, Some, None}
use Rattle.script_lang.specs.declared.recipes.RecipeLine.{RecipeLine}
use Rattle.script_lang.specs.declared.recipes.RecipeLine.TheVariants as recipe
use Rattle.script_lang.specs.Runnable.{IsRecipe}
use Rattle.remote_code.specs.declared.records.Record.{Record}
use Rattle.remote_code.specs.declared.records.Record.TheVariants as worker
use Rattle.elf_image.specs.Segments.{SegmentAt, segments_of as segments_read}
use Rattle.elf_image.specs.Sections.{section_of}
use Rattle.elf_image.specs.Images.{GoodImage, entry_of}
use Rattle.elf_image.specs.declared.sections.Section.{Section}
use Rattle.image_maker.specs.Segments.{code_of, segments_of, segment_count}
use Rattle.image_maker.specs.Tables.{table_len, table_bytes}
use Rattle.image_maker.specs.Images.{entry_address, table_address, data_end, image_of}

-- the segment that a line is, by the bytes of the records after it and its number; one without memory is not loaded
abbrev pub segment_of : List ℕ → ℕ → RecipeLine → List SegmentAt
segment_of code index (recipe.Load da bytes memory_len) =
    if memory_len == 0 then [] else record { index = index; da = da; memory_len = memory_len; file = bytes } ∷ []
segment_of code index (recipe.Code da) =
    if length code == 0 then [] else record { index = index; da = da; memory_len = length code; file = code } ∷ []
segment_of code index line = []

-- the segments of these lines, the first of which has this number
abbrev pub segments_from : ℕ → List RecipeLine → List SegmentAt
segments_from index [] = []
segments_from index (line ∷ more) = segment_of (code_of more) index line ++ segments_from (index + segments_of line) more

-- the section of the resource table, which is for this device address
abbrev pub table_section : List RecipeLine → ℕ → Section
table_section lines da = record { address = da; offset = data_end lines; size = table_len lines }

-- the record that a line says
abbrev pub record_of_line : RecipeLine → Option Record
record_of_line recipe.Halt = Some worker.Halt
record_of_line (recipe.Announce address flags da) = Some (worker.Announce address flags da)
record_of_line (recipe.Bind address) = Some (worker.Bind address)
record_of_line (recipe.Send source destination da len) = Some (worker.Send len source destination da)
record_of_line (recipe.Raw da len) = Some (worker.Raw len da)
record_of_line recipe.Take = Some worker.Take
record_of_line (recipe.Log to from len) = Some (worker.Trace len to from)
record_of_line (recipe.Crash kind) = Some (worker.Crash kind)
record_of_line (recipe.Loop times target) = Some (worker.Loop times target)
record_of_line line = None

-- where a segment has memory, it holds the segment's bytes
abbrev pub HasRoom : RecipeLine → Type 0
HasRoom (recipe.Load da bytes memory_len) = 0 < memory_len → length bytes ≤ memory_len
HasRoom line = Unit {0}

abbrev pub HaveRoom : List RecipeLine → Type 0
HaveRoom [] = Unit {0}
HaveRoom (line ∷ more) = HasRoom line × HaveRoom more

-- a recipe as scripts have them, of 1 to 65,534 segments whose memory holds their bytes, and of an image below 4 GiB
pub record IsLoadable (lines : List RecipeLine) : Type 0 where
  pub recipe : IsRecipe lines
  pub room : HaveRoom lines
  pub some : 0 < segment_count lines
  pub few : segment_count lines < 65535
  pub short : length (image_of lines) < 2 ^ 32

-- the image is good, and has the recipe's entry, segments and resource table
pub record IsReadBack (lines : List RecipeLine) (image : List ℕ) : Type 0 where
  pub good : GoodImage image
  pub entry : entry_of image ≡ entry_address lines
  pub segments : segments_read image ≡ segments_from 0 lines
  pub section : section_of image (codes ".resource_table") ≡ option_map (table_section lines) (table_address lines)
  pub table : IsSome (table_address lines) → take (table_len lines) (drop (data_end lines) image) ≡ table_bytes lines
