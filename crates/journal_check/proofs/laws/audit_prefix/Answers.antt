use Rattle.journal_check.proofs.DeliveryFacts.{hands_in_order}
use Rattle.journal_check.proofs.laws.audit_prefix.Goals as goal

pub returns : goal.returns
returns c = hands_in_order
