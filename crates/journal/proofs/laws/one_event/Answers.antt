use Rattle.journal.proofs.ReadBack.{one_event}
use Rattle.journal.proofs.laws.one_event.Goals as goal

pub returns : goal.returns
returns c = one_event
