use Rattle.core_laws.proofs.HandedMessages.{handed_once}
use Rattle.core_laws.proofs.laws.handed_once.Goals as goal

pub returns : goal.returns
returns c = handed_once
