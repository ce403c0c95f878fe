use Rattle.journal_check.proofs.OneReading.{one_reading, one_audit}
use Rattle.journal_check.proofs.laws.one_audit.Goals as goal

pub returns-clause-reading : goal.returns-clause-reading
returns-clause-reading c = one_reading

pub returns-clause-audit : goal.returns-clause-audit
returns-clause-audit c = one_audit
