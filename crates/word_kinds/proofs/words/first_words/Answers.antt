use Rattle.std.proofs.Common.{sym}
use Rattle.word_kinds.proofs.Firsts.{no_word, no_more_words}
use Rattle.word_kinds.proofs.words.first_words.Goals as goal

pub returns-else-not-is_empty-clause-words : goal.returns-else-not-is_empty-clause-words
returns-else-not-is_empty-clause-words c =
    let inv = c.loop-count.invariant in
    no_more_words (λ word. word.now) c.loop-count.words c.loop-count.count _ _ inv.places inv.most (no_word c.loop-count.rest.now _ _ c.in_default.ensures.none (sym c.if-not-is_empty.ensures)) inv.words
