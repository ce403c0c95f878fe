use Rattle.std.proofs.Common.{ap, eqb, rules, Some, None}
use Rattle.std.specs.Option.{option_map_or}
use Rattle.std.proofs.lemmas.Iterator.{YieldsList-from_slice}
use Rattle.std.proofs.lemmas.Iterator.Search.{find_from_yields_List}
use Rattle.ring_core.specs.declared.states.Hand.{Hand}
use Rattle.link_words.proofs.sides.held_buffer.Goals as goal

pub returns-in-Some : goal.returns-in-Some
returns-in-Some c = ap (λ found. option_map_or (λ (hand : Hand). hand.buffer) found 0)
    (find_from_yields_List (λ (hand : Hand). eqb hand.number c.args.number) c.find.new.self _ (Some c.in-Some.hand) c.in-Some.ensures.ran (YieldsList-from_slice c.args.hands.now cc) (λ x b q k. search rules))

pub returns-in-None : goal.returns-in-None
returns-in-None c = ap (λ found. option_map_or (λ (hand : Hand). hand.buffer) found 0)
    (find_from_yields_List (λ (hand : Hand). eqb hand.number c.args.number) c.find.new.self _ None c.in-None.ensures.ran (YieldsList-from_slice c.args.hands.now cc) (λ x b q k. search rules))
