-- The image of a recipe (TIS ELF 1.2: figure 1-9; section names of Linux remoteproc_elf_loader.c).
use Rattle.std.specs.Prelude.{ℕ, ◌+◌, ◌*◌, List, [], ◌∷◌, ◌++◌, codes, fold, Option, Some, None}
use Rattle.script_lang.specs.declared.recipes.RecipeLine.{RecipeLine}
use Rattle.script_lang.specs.declared.recipes.RecipeLine.TheVariants as recipe
use Rattle.elf_writer.specs.Fields.{word_fields}
use Rattle.elf_writer.specs.Headers.{file_header}
use Rattle.image_maker.specs.Segments.{program_headers, segment_bytes, segment_count, data_len}
use Rattle.image_maker.specs.Tables.{table_bytes, table_len}

-- the address of the first instruction: that of the last `entry` line, or 0
abbrev pub entry_after : ℕ → RecipeLine → ℕ
entry_after entry (recipe.Entry da) = da
entry_after entry line = entry

abbrev pub entry_address : List RecipeLine → ℕ
entry_address lines = fold entry_after 0 lines

-- the device address of the table, if there is one
abbrev pub table_after : Option ℕ → RecipeLine → Option ℕ
table_after table (recipe.Table da) = Some da
table_after table line = table

abbrev pub table_address : List RecipeLine → Option ℕ
table_address lines = fold table_after None lines

-- where the bytes of the segments begin and end
abbrev pub data_start : List RecipeLine → ℕ
data_start lines = 52 + 32 * segment_count lines

abbrev pub data_end : List RecipeLine → ℕ
data_end lines = data_start lines + data_len lines

-- the names of sections: none, `.resource_table` from 1, `.shstrtab` from 17
abbrev pub section_names : List ℕ
section_names = 0 ∷ (codes ".resource_table" ++ 0 ∷ (codes ".shstrtab" ++ 0 ∷ []))

-- three section headers: none, the table (SHT_PROGBITS, SHF_ALLOC), the names (SHT_STRTAB)
unfoldable pub section_headers : ℕ → ℕ → ℕ → List ℕ
section_headers da start len =
    word_fields (0 ∷ 0 ∷ 0 ∷ 0 ∷ 0 ∷ 0 ∷ 0 ∷ 0 ∷ 0 ∷ 0 ∷ []) ++ word_fields (1 ∷ 1 ∷ 2 ∷ da ∷ start ∷ len ∷ 0 ∷ 0 ∷ 4 ∷ 0 ∷ [])
    ++ word_fields (17 ∷ 3 ∷ 0 ∷ 0 ∷ (start + len) ∷ 27 ∷ 0 ∷ 0 ∷ 1 ∷ 0 ∷ [])

-- the headers and the segments
unfoldable pub segments_part : List RecipeLine → List ℕ
segments_part lines = program_headers (data_start lines) lines ++ segment_bytes lines

-- the image, of the type ET_EXEC, with its table where there is one
unfoldable pub image_with : List RecipeLine → Option ℕ → List ℕ
image_with lines None = file_header 2 (entry_address lines) (segment_count lines) 0 0 0 0 ++ segments_part lines
image_with lines (Some da) =
    file_header 2 (entry_address lines) (segment_count lines) (data_end lines + table_len lines + 27) 40 3 2 ++ segments_part lines
    ++ table_bytes lines ++ section_names ++ section_headers da (data_end lines) (table_len lines)

-- the image of a recipe
unfoldable pub image_of : List RecipeLine → List ℕ
image_of lines = image_with lines (table_address lines)
