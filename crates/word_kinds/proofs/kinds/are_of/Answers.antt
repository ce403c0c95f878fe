use Rattle.std.proofs.Common.{sym}
use Rattle.word_kinds.proofs.Matches.{other_length}
use Rattle.word_kinds.proofs.kinds.are_of.Goals as goal

pub returns-then-kinds-words : goal.returns-then-kinds-words
returns-then-kinds-words c = sym (other_length (λ word. word.now) c.args.kinds.now c.args.words.now c.if-kinds-words.true)
