use Rattle.std.proofs.Common.{◌+◌, ◌≤◌, length}
use Rattle.journal_check.specs.Lines.{lines_of}
use Rattle.journal_check.proofs.AuditFacts.{IsSeen}
use Rattle.journal_check.proofs.audits.audit.Given as goal

abbrev pub invariant-loop-rest : goal.invariant-loop-rest
invariant-loop-rest l = record { seen : IsSeen (lines_of l.bytes) l.rest l.count l.book; within : l.count + length l.rest ≤ length l.bytes }

abbrev pub decreases-loop-rest : goal.decreases-loop-rest
decreases-loop-rest l = length l.rest
