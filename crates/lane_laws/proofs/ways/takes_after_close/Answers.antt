use Rattle.lane_laws.proofs.WayFacts.{shut_begins, shut_hands_none, shut_most}
use Rattle.lane_laws.proofs.ways.takes_after_close.Goals as goal

pub returns : goal.returns
returns g c = record {
  hands = λ way since end shut. shut_hands_none g.D.Desk.meaning way since end shut;
  front = λ way since end shut before is. shut_begins g.D.Desk.meaning way since end shut before is;
  one = λ way since end shut before is. shut_most g.D.Desk.meaning way since end shut before is;
}
