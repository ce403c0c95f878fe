use Rattle.link_words.proofs.ManagerTold.{index_place_is, entry_reset_is}
use Rattle.link_words.proofs.reopens.reset_place.Goals as goal

pub returns-then-number-lt4 : goal.returns-then-number-lt4
returns-then-number-lt4 c = index_place_is c.args.number c.if-number-lt4.true

pub returns-else-number-lt4 : goal.returns-else-number-lt4
returns-else-number-lt4 c = entry_reset_is c.args.number c.if-number-lt4.false
