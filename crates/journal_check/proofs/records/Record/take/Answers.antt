use Rattle.std.proofs.Common.{refl}
use Rattle.journal_check.proofs.RecordFacts.{more_core, more_caller}
use Rattle.journal_check.proofs.records.Record.take.Goals as goal

pub returns-in-Core-clause-kept : goal.returns-in-Core-clause-kept
returns-in-Core-clause-kept c = λ past kept none. more_core c.args.line.now past c.args.self.now _ c.in-Core.is kept refl

pub returns-in_ok-insert-in-Caller-clause-kept : goal.returns-in_ok-insert-in-Caller-clause-kept
returns-in_ok-insert-in-Caller-clause-kept c = λ past kept none.
    more_caller c.args.line.now past c.args.self.now _ c.in-Caller.caller c.in-Caller.end c.in-Caller.is kept refl c.in_ok-insert-in-Caller.ensures.updates.0
