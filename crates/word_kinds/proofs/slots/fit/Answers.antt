use Rattle.std.proofs.Common.{sym}
use Rattle.word_kinds.specs.Rows.{kind_in}
use Rattle.word_kinds.proofs.Rows.{other_row}
use Rattle.word_kinds.proofs.slots.fit.Goals as goal

pub returns-then-slots-words : goal.returns-then-slots-words
returns-then-slots-words c = sym (other_row kind_in (λ word. word.now) c.args.slots.now c.args.words.now c.if-slots-words.true)
