use Rattle.run_laws.proofs.ClosedLinks.{stays_closed}
use Rattle.run_laws.proofs.laws.closed_hands_none.Goals as goal

pub returns : goal.returns
returns c = λ answer run asked place on runs found reached shut other. stays_closed run place on found reached shut answer asked runs other
