use Rattle.std.proofs.Common.{sym, ap, ◌∙◌}
use Rattle.journal_check.proofs.SideFacts.{least_here}
use Rattle.journal_check.proofs.sides.Side.broken_rule.Goals as goal

pub returns-in-Sent : goal.returns-in-Sent
returns-in-Sent c = λ here kept. c.rule_of_sent.ensures c.in-Sent.field-0 here kept ∙ ap (λ line. least_here c.args.is_closed line here) (sym c.in-Sent.is)
