use Rattle.lane_laws.proofs.LinkRuns.{judged_after}
use Rattle.lane_laws.proofs.links.once.Goals as goal

pub returns : goal.returns
returns g c = λ start moves end new may. (judged_after g.D.Desk.meaning g.met.D.Desk.laws start moves end new may).fact.once
