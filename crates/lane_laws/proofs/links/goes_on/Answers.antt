use Rattle.lane_model.proofs.GoesOn.{goes_on}
use Rattle.lane_laws.proofs.links.goes_on.Goals as goal

pub returns : goal.returns
returns g c = λ link caller follows wished may. goes_on g.D.Desk.meaning link caller follows wished may
