use Rattle.std.proofs.Common.{rules, tests}
use Rattle.std.proofs.lemmas.Iterator.{YieldsList-from_slice}
use Rattle.std.proofs.lemmas.Iterator.Search.{position_from_yields_List}
use Rattle.managed_link.proofs.HandLists.{is_hand, at_place_found, never_lost}
use Rattle.managed_link.proofs.hands.place_of.Goals as goal

pub unreachable-requires : goal.unreachable-requires
unreachable-requires c =
    never_lost c.args.hands.now c.args.number c.args.caller _ c.requires
    (position_from_yields_List (is_hand c.args.number c.args.caller) _ _ c.position.result c.position.ensures.ran (YieldsList-from_slice c.args.hands.now cc) (λ x b q k. search (rules, tests)))
    c.in-None.is

pub returns : goal.returns
returns c =
    at_place_found c.args.hands.now c.args.number c.args.caller _ _ c.requires
    (position_from_yields_List (is_hand c.args.number c.args.caller) _ _ c.position.result c.position.ensures.ran (YieldsList-from_slice c.args.hands.now cc) (λ x b q k. search (rules, tests)))
    c.in-Some.is
