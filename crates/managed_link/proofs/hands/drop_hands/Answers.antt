use Rattle.std.proofs.Common.{◌==◌, not, rules, tests}
use Rattle.std.proofs.lemmas.Fn.{filter_same}
use Rattle.managed_link.specs.declared.hands.Hand.{Hand}
use Rattle.managed_link.proofs.HandLists.{listed_others, others_stay}
use Rattle.managed_link.proofs.hands.drop_hands.Goals as goal

pub returns-clause-listed : goal.returns-clause-listed
returns-clause-listed c =
    listed_others c.args.hands.now.items _ c.args.caller
    (filter_same _ (λ (hand : Hand). not (hand.caller == c.args.caller)) _ (λ x b f' k. search (rules, tests)) _ _ c.retain.ensures.filtered)

pub returns-clause-others : goal.returns-clause-others
returns-clause-others c =
    others_stay c.args.hands.now.items _ c.args.caller
    (filter_same _ (λ (hand : Hand). not (hand.caller == c.args.caller)) _ (λ x b f' k. search (rules, tests)) _ _ c.retain.ensures.filtered)
