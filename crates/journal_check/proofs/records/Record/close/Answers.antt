use Rattle.std.proofs.Common.{sym, ◌∙◌}
use Rattle.journal_check.proofs.RecordFacts.{more_close, same_inc}
use Rattle.journal_check.proofs.records.Record.close.Goals as goal

pub returns-clause-kept : goal.returns-clause-kept
returns-clause-kept c = λ past kept none. more_close past c.args.self.now c.args.inc kept (same_inc c.args.self.now.incarnation c.args.inc (sym c.ne.ensures ∙ c.if-ne.false))
