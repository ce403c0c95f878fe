use Rattle.word_kinds.proofs.Joins.{joined_here}
use Rattle.word_kinds.proofs.pieces.push_joined.Goals as goal

pub returns-in_ok-push_more-in-len1-up-clause-whole : goal.returns-in_ok-push_more-in-len1-up-clause-whole
returns-in_ok-push_more-in-len1-up-clause-whole c =
    joined_here c.args.words.now c.first-item.result c.args.out.now.items c.push_word.new.out.items c.push_more.new.out.items c.in-len1-up.len_at_least c.first-item.is c.in_ok-push_word-in-len1-up.ensures.whole c.in_ok-push_more-in-len1-up.ensures.whole
