use Rattle.word_kinds.proofs.Joins.{filled_here}
use Rattle.word_kinds.proofs.pieces.push_joined_places.Goals as goal

pub returns-in_ok-push_more_places-in-len1-up-clause-whole : goal.returns-in_ok-push_more_places-in-len1-up-clause-whole
returns-in_ok-push_more_places-in-len1-up-clause-whole c =
    filled_here c.args.slots.now _ _ _ c.args.out.now.items c.push_place.new.out.items c.push_more_places.new.out.items c.in-len1-up.len_at_least c.in_ok-push_place-in-len1-up.ensures.whole c.left_by.ensures c.in_ok-push_more_places-in-len1-up.ensures.whole
