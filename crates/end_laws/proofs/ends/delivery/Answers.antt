use Rattle.end_laws.proofs.ServiceChanges.{message_leaves}
use Rattle.end_laws.proofs.ends.delivery.Goals as goal

pub returns : goal.returns
returns c = message_leaves
