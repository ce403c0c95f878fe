use Rattle.lane_laws.proofs.WayFacts.{told_due, told_once}
use Rattle.lane_laws.proofs.ways.takes_in_order.Goals as goal

pub returns : goal.returns
returns g c = record {
  once = λ way end is. told_once g.D.Desk.meaning g.met.D.Desk.laws way is end;
  due = λ way end bound sender is was. told_due g.D.Desk.meaning g.met.D.Desk.laws way is end bound was sender;
}
