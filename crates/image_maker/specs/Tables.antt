-- The resource table of a recipe (Linux include/linux/remoteproc.h). What the recipe doesn't say is 0.
use Rattle.std.specs.Prelude.{ℕ, ◌+◌, ◌*◌, ◌==◌, Bool, true, false, if◌then◌else◌, List, [], ◌∷◌, ◌++◌, sum_by}
use Rattle.std.specs.List.{prefix_len}
use Rattle.rp_base.specs.Texts.{padded_name}
use Rattle.script_lang.specs.declared.recipes.RecipeLine.{RecipeLine}
use Rattle.script_lang.specs.declared.recipes.RecipeLine.TheVariants as recipe
use Rattle.elf_writer.specs.Fields.{byte_field, word_field, word_fields}

-- a vring belongs to the device before it
abbrev pub is_vring : RecipeLine → Bool
is_vring (recipe.Vring da align entries) = true
is_vring line = false

-- how many entries of the table a line is
abbrev pub entries_of : RecipeLine → ℕ
entries_of (recipe.Carveout da len name) = 1
entries_of (recipe.Devmem da pa len name) = 1
entries_of (recipe.Trace da len name) = 1
entries_of (recipe.Vdev id features) = 1
entries_of (recipe.Vendor type) = 1
entries_of line = 0

-- the bytes of a line in the table, where so many vrings follow it: fw_rsc_carveout, fw_rsc_devmem, fw_rsc_trace, fw_rsc_vdev,
-- fw_rsc_vdev_vring, fw_rsc_hdr
abbrev pub entry_bytes : ℕ → RecipeLine → List ℕ
entry_bytes rings (recipe.Carveout da len name) = word_fields (0 ∷ da ∷ 0 ∷ len ∷ 0 ∷ 0 ∷ []) ++ padded_name name
entry_bytes rings (recipe.Devmem da pa len name) = word_fields (1 ∷ da ∷ pa ∷ len ∷ 0 ∷ 0 ∷ []) ++ padded_name name
entry_bytes rings (recipe.Trace da len name) = word_fields (2 ∷ da ∷ len ∷ 0 ∷ []) ++ padded_name name
entry_bytes rings (recipe.Vdev id features) = word_fields (3 ∷ id ∷ 0 ∷ features ∷ 0 ∷ 0 ∷ []) ++ 0 ∷ (byte_field rings ++ 0 ∷ 0 ∷ [])
entry_bytes rings (recipe.Vring da align entries) = word_fields (da ∷ align ∷ entries ∷ 0 ∷ 0 ∷ [])
entry_bytes rings (recipe.Vendor type) = word_fields (type ∷ [])
entry_bytes rings line = []

-- how many bytes these are
abbrev pub entry_len : RecipeLine → ℕ
entry_len (recipe.Carveout da len name) = 56
entry_len (recipe.Devmem da pa len name) = 56
entry_len (recipe.Trace da len name) = 48
entry_len (recipe.Vdev id features) = 28
entry_len (recipe.Vring da align entries) = 20
entry_len (recipe.Vendor type) = 4
entry_len line = 0

-- the vrings that follow one another at the start of these lines
abbrev pub rings_in_front : List RecipeLine → ℕ
rings_in_front lines = prefix_len is_vring lines

-- the entries, without gaps
abbrev pub entries : List RecipeLine → List ℕ
entries [] = []
entries (line ∷ more) = entry_bytes (rings_in_front more) line ++ entries more

-- the offset of a line that is an entry
abbrev pub offset_of : ℕ → RecipeLine → List ℕ
offset_of offset line = if entries_of line == 1 then word_field offset else []

-- the offsets of the entries, which lie from a place of the table on
abbrev pub offsets : ℕ → List RecipeLine → List ℕ
offsets offset [] = []
offsets offset (line ∷ more) = offset_of offset line ++ offsets (offset + entry_len line) more

-- how many entries there are, and how long the table is
abbrev pub entry_count : List RecipeLine → ℕ
entry_count lines = sum_by entries_of lines

abbrev pub table_len : List RecipeLine → ℕ
table_len lines = 16 + 4 * entry_count lines + sum_by entry_len lines

-- struct resource_table: version 1, the number of entries, two reserved words, the offsets, the entries
abbrev pub table_bytes : List RecipeLine → List ℕ
table_bytes lines =
    word_fields (1 ∷ entry_count lines ∷ 0 ∷ 0 ∷ []) ++ offsets (16 + 4 * entry_count lines) lines ++ entries lines
