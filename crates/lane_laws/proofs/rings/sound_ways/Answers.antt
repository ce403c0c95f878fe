use Rattle.lane_laws.proofs.RingWays.{way_over}
use Rattle.lane_laws.proofs.rings.sound_ways.Goals as goal

pub returns : goal.returns
returns g c = record {
  rings = λ way is. (way_over g.D.Desk.meaning way is).rings;
  lists = λ way is. (way_over g.D.Desk.meaning way is).lists;
}
