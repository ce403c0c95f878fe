use Rattle.std.proofs.Common.{◌==◌, ◌&&◌, rules, tests, sym, ◌∙◌}
use Rattle.std.proofs.lemmas.Iterator.{YieldsList-from_slice}
use Rattle.std.proofs.lemmas.Iterator.Search.{any_from_yields_List}
use Rattle.managed_link.specs.Hands.{holding_of}
use Rattle.managed_link.specs.declared.hands.Hand.{Hand}
use Rattle.managed_link.proofs.ListParts.{any_of_map}
use Rattle.managed_link.proofs.hands.holds.Goals as goal

pub returns : goal.returns
returns c =
    any_from_yields_List (λ (hand : Hand). (hand.number == c.args.number) && (hand.caller == c.args.caller)) _ _ c.any.result c.any.ensures.ran (YieldsList-from_slice c.args.hands.now cc) (λ x b q k. search (rules, tests))
    ∙ sym (any_of_map (λ holding. (holding.number == c.args.number) && (holding.caller == c.args.caller)) holding_of c.args.hands.now)
