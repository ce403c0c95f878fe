-- The lines that are no events of a run (own).
use Rattle.std.specs.Prelude.{ℕ, List, [], ◌∷◌, codes, Some, None}
use Rattle.std.specs.List.{flat_map}
use Rattle.word_kinds.specs.Texts.{Word, Fixed, Name, Number, Digits}
use Rattle.word_kinds.specs.Lines.{line_of}
use Rattle.word_kinds.specs.declared.causes.Cause.{Cause}
use Rattle.word_kinds.specs.declared.causes.Cause.TheVariants as cause
use Rattle.journal.specs.TableLines.{table_words}
use Rattle.journal.specs.declared.notices.Notice.{Notice}
use Rattle.journal.specs.declared.notices.Notice.TheVariants as notice

-- the word of a cause
abbrev pub cause_text : Cause → List ℕ
cause_text cause.Size = codes "size"
cause_text cause.Lines = codes "lines"
cause_text cause.Byte = codes "byte"
cause_text cause.Block = codes "block"
cause_text cause.Command = codes "command"
cause_text cause.Words = codes "words"
cause_text cause.Value = codes "value"

-- the words of each notice, with the values of its fields
abbrev pub notice_words : Notice → List Word
notice_words notice.Usage = Fixed (codes "usage: rproc run | check NAME | demo N | storm H R N K | audit") ∷ []
notice_words notice.ReadFault = Fixed (codes "* read fault") ∷ []
notice_words notice.StoreFault = Fixed (codes "* store fault") ∷ []
notice_words notice.StepLimit = Fixed (codes "* step limit") ∷ []
notice_words (notice.Refused line why) = Fixed (codes "* refused") ∷ Number line ∷ Fixed (cause_text why) ∷ []
notice_words (notice.Missing name) = Fixed (codes "missing") ∷ Name name ∷ []
notice_words (notice.TooLarge name) = Fixed (codes "too-large") ∷ Name name ∷ []
notice_words (notice.Fault number None) = Fixed (codes "fault") ∷ Number number ∷ []
notice_words (notice.Fault number (Some index)) = Fixed (codes "fault") ∷ Number number ∷ Number index ∷ []
notice_words (notice.Start entry) = Fixed (codes "start") ∷ Digits entry ∷ []
notice_words (notice.Segment index da file_len memory_len) =
    Fixed (codes "segment") ∷ Number index ∷ Digits da ∷ Number file_len ∷ Number memory_len ∷ []
notice_words (notice.Table line) = table_words line
notice_words notice.Loads = Fixed (codes "ok") ∷ []
notice_words (notice.Demo sessions to_host to_remote) =
    Fixed (codes "demo") ∷ Number sessions ∷ Fixed (codes "sessions") ∷ Number sessions
    ∷ Fixed (codes "to-host") ∷ Number to_host ∷ Fixed (codes "to-remote") ∷ Number to_remote ∷ []
notice_words (notice.Sound lines) = Fixed (codes "audit ok") ∷ Number lines ∷ []
notice_words (notice.Broken line rule) = Fixed (codes "audit broken") ∷ Number line ∷ Number rule ∷ []

-- the line of a notice
unfoldable pub notice_line : Notice → List ℕ
notice_line notice = line_of (notice_words notice)

-- the lines of notices, one after the other
abbrev pub report_text : List Notice → List ℕ
report_text notices = flat_map notice_line notices
