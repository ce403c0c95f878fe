use Rattle.core_laws.proofs.HandedMessages.{got_front, got_whole}
use Rattle.core_laws.proofs.laws.handed_due.Goals as goal

pub returns : goal.returns
returns c = record { front = λ link reached end bound sender was. got_front link reached end bound was sender; while_bound = got_whole }
