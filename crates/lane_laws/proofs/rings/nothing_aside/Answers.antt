use Rattle.lane_laws.proofs.RingLinks.{link_aside}
use Rattle.lane_laws.proofs.RingWays.{way_over}
use Rattle.lane_laws.proofs.rings.nothing_aside.Goals as goal

pub returns : goal.returns
returns g c = record {
  rings = λ link rings lists live. link_aside g.D.Desk.meaning link rings lists live;
  way = λ way is live. let over = way_over g.D.Desk.meaning way is in link_aside g.D.Desk.meaning _ over.rings over.lists live;
}
