use Rattle.std.proofs.Common.{rules, tests, is_none}
use Rattle.std.proofs.lemmas.Iterator.{YieldsList-from_slice}
use Rattle.std.proofs.lemmas.Iterator.Search.{position_from_yields_List}
use Rattle.split_ring.proofs.callers.least_free.Goals as goal

pub returns-in-None-clause-number : goal.returns-in-None-clause-number
returns-in-None-clause-number c =
    position_from_yields_List (λ found. is_none found) _ _ _ c.in-None.ensures.ran (YieldsList-from_slice c.args.users.now cc) (λ x b q k. search (rules, tests))

pub returns-in-Some-clause-number : goal.returns-in-Some-clause-number
returns-in-Some-clause-number c =
    position_from_yields_List (λ found. is_none found) _ _ _ c.in-Some.ensures.ran (YieldsList-from_slice c.args.users.now cc) (λ x b q k. search (rules, tests))
