-- The lines about the entries and the vrings of a resource table (own).
use Rattle.std.specs.Prelude.{List, [], ◌∷◌, codes}
use Rattle.word_kinds.specs.Texts.{Word, Fixed, Number, Digits, Escaped, Dotted}
use Rattle.journal.specs.declared.tables.TableLine.{TableLine}
use Rattle.journal.specs.declared.tables.TableLine.TheVariants as entry

-- the words of each, with the values of its fields
abbrev pub table_words : TableLine → List Word
table_words (entry.Carveout i da pa len name) =
    Fixed (codes "entry") ∷ Number i ∷ Fixed (codes "carveout") ∷ Digits da ∷ Digits pa ∷ Digits len ∷ Escaped name ∷ []
table_words (entry.Devmem i da pa len name) =
    Fixed (codes "entry") ∷ Number i ∷ Fixed (codes "devmem") ∷ Digits da ∷ Digits pa ∷ Digits len ∷ Escaped name ∷ []
table_words (entry.Trace i da len name) =
    Fixed (codes "entry") ∷ Number i ∷ Fixed (codes "trace") ∷ Digits da ∷ Digits len ∷ Escaped name ∷ []
table_words (entry.TraceUnavailable i da len name) =
    Fixed (codes "entry") ∷ Number i ∷ Fixed (codes "trace") ∷ Digits da ∷ Digits len ∷ Escaped name ∷ Fixed (codes "unavailable") ∷ []
table_words (entry.Skipped i kind) = Fixed (codes "entry") ∷ Number i ∷ Fixed (codes "skipped") ∷ Number kind ∷ []
table_words (entry.Vdev i id features status) =
    Fixed (codes "entry") ∷ Number i ∷ Fixed (codes "vdev") ∷ Number id ∷ Fixed (codes "features") ∷ Number features ∷ Fixed (codes "status") ∷ Number status ∷ []
table_words (entry.Vring i j da align num notify) =
    Fixed (codes "vring") ∷ Dotted i j ∷ Digits da ∷ Number align ∷ Number num ∷ Number notify ∷ []
