use Rattle.lane_laws.proofs.WayFacts.{opened, reopened}
use Rattle.lane_laws.proofs.ways.openings_are_new.Goals as goal

pub returns : goal.returns
returns g c = record {
  new = λ config host remote fresh_host fresh_remote. opened g.D.Desk.meaning config host remote fresh_host fresh_remote;
  reopened = λ link. reopened g.D.Desk.meaning g.met.D.Desk.laws link;
}
