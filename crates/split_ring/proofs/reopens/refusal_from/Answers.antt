use Rattle.std.proofs.Common.{sym, ◌∙◌}
use Rattle.split_ring.proofs.Reopening.{none_least, if_none}
use Rattle.split_ring.proofs.reopens.refusal_from.Goals as goal

pub returns-in-None-least_hand-clause-none : goal.returns-in-None-least_hand-clause-none
returns-in-None-least_hand-clause-none c =
    if_none c.spent.result (λ more. (none_least c.args.host.now.hands (sym c.least_hand.ensures ∙ c.in-None.is), none_least c.args.remote.now.hands (sym c.least_hand-in-None.ensures ∙ c.in-None-least_hand.is), more)) c.spent.ensures.none
