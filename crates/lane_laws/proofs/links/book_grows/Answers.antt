use Rattle.lane_laws.proofs.LinkRuns.{moves_grow}
use Rattle.lane_laws.proofs.links.book_grows.Goals as goal

pub returns : goal.returns
returns g c = λ start moves end sound may. moves_grow g.D.Desk.meaning g.met.D.Desk.laws start moves end sound may
