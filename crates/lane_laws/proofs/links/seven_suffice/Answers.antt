use Rattle.lane_model.proofs.GoesOn.{seven_suffice}
use Rattle.lane_laws.proofs.links.seven_suffice.Goals as goal

pub returns : goal.returns
returns g c = λ link caller follows wished may. seven_suffice g.D.Desk.meaning link caller follows wished may
