use Rattle.std.proofs.Common.{not, rules}
use Rattle.std.proofs.lemmas.Fn.{filter_same}
use Rattle.managed_link.proofs.HandLists.{is_hand, listed_without, some_stay}
use Rattle.managed_link.proofs.hands.drop_hand.Goals as goal

pub returns-clause-listed : goal.returns-clause-listed
returns-clause-listed c =
    listed_without c.args.hands.now.items _ c.args.number c.args.caller
    (filter_same _ (λ hand. not (is_hand c.args.number c.args.caller hand)) _ (λ x b f' k. search rules) _ _ c.retain.ensures.filtered)

pub returns-clause-some : goal.returns-clause-some
returns-clause-some c =
    some_stay c.args.hands.now.items _ (λ hand. not (is_hand c.args.number c.args.caller hand))
    (filter_same _ (λ hand. not (is_hand c.args.number c.args.caller hand)) _ (λ x b f' k. search rules) _ _ c.retain.ensures.filtered)
