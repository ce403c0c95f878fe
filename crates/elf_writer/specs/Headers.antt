-- Headers of ELF32 images (TIS ELF 1.2, figures 1-3 and 2-1).
use Rattle.std.specs.Prelude.{ℕ, List, [], ◌∷◌, ◌++◌}
use Rattle.elf_writer.specs.Fields.{half_field, word_fields}

-- the identification: the magic number, ELFCLASS32, ELFDATA2LSB, EV_CURRENT, zeros
abbrev pub identification : List ℕ
identification = 0x7f ∷ 0x45 ∷ 0x4c ∷ 0x46 ∷ 1 ∷ 1 ∷ 1 ∷ 0 ∷ 0 ∷ 0 ∷ 0 ∷ 0 ∷ 0 ∷ 0 ∷ 0 ∷ 0 ∷ []

-- the ELF header: the type of the file, EM_ARM, the entry, program headers after this header, the place, size and number of
-- section headers, and the number of that of the names
unfoldable pub file_header : ℕ → ℕ → ℕ → ℕ → ℕ → ℕ → ℕ → List ℕ
file_header kind entry segments place size sections names =
    identification ++ half_field kind ++ half_field 40 ++ word_fields (1 ∷ entry ∷ 52 ∷ place ∷ 0 ∷ [])
    ++ half_field 52 ++ half_field 32 ++ half_field segments ++ half_field size ++ half_field sections ++ half_field names

-- the program header of a loaded segment: PT_LOAD, the place of its bytes in the image, its address, how many bytes it has there
-- and how many in memory, and that it is readable, writable and executable
abbrev pub load_header : ℕ → ℕ → ℕ → ℕ → List ℕ
load_header offset da len memory_len = word_fields (1 ∷ offset ∷ da ∷ da ∷ len ∷ memory_len ∷ 7 ∷ 4 ∷ [])
