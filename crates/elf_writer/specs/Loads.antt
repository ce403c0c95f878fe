-- Segments that an image is to load.
use Rattle.std.specs.Prelude.{ℕ, List, [], ◌∷◌, ◌++◌, length, if◌then◌else◌, ◌==◌, ◌+◌}
use Rattle.std.specs.List.{flat_map}
use Rattle.elf_image.specs.Segments.{SegmentAt}
use Rattle.elf_writer.specs.Headers.{load_header}

-- a segment to load: the place of its bytes in the image, its address, how many bytes it has in memory, and its bytes (own)
pub record Load : Type 0 where
  pub offset : ℕ
  pub da : ℕ
  pub memory_len : ℕ
  pub file : List ℕ

-- the program headers of segments, in order
abbrev pub load_headers : List Load → List ℕ
load_headers loads = flat_map (λ (load : Load). load_header load.offset load.da (length load.file) load.memory_len) loads

-- the loaded segments that these are, the first of which has this number; one without memory is not loaded (own)
abbrev pub loaded_segment : ℕ → Load → List SegmentAt
loaded_segment index load =
    if load.memory_len == 0 then [] else record { index = index; da = load.da; memory_len = load.memory_len; file = load.file } ∷ []

abbrev pub loaded_segments : ℕ → List Load → List SegmentAt
loaded_segments index [] = []
loaded_segments index (load ∷ more) = loaded_segment index load ++ loaded_segments (index + 1) more
