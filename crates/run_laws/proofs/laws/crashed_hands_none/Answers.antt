use Rattle.run_laws.proofs.CrashedCores.{stays_crashed}
use Rattle.run_laws.proofs.laws.crashed_hands_none.Goals as goal

pub returns : goal.returns
returns c = λ answer run asked place on runs found reached crashed shut other. stays_crashed answer run place on found reached crashed shut asked runs other
