use Rattle.lane_laws.proofs.Told.{way_told}
use Rattle.lane_laws.proofs.WayFacts.{leads}
use Rattle.lane_laws.proofs.ways.takes_are_told.Goals as goal

pub returns : goal.returns
returns g c = record { leads = λ way. leads g.D.Desk.meaning way; told = λ way end is. way_told g.D.Desk.meaning way end is }
