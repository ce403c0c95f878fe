use Rattle.lane_laws.proofs.Traces.{traced_front, traced_one}
use Rattle.lane_laws.proofs.LinkRuns.{traced_after, got_after}
use Rattle.lane_laws.proofs.links.prefix.Goals as goal

pub returns : goal.returns
returns g c = record {
  handed = λ start before since end bound sender was.
      traced_front g.D.Desk.meaning bound _ _ _ _ sender (traced_after g.D.Desk.meaning g.met.D.Desk.laws start before since end bound was).fact;
  while_bound = λ start before since end bound sender was is.
      (traced_after g.D.Desk.meaning g.met.D.Desk.laws start before since end bound was).fact.judged.whole bound sender is;
  unbound = λ start before since later end bound sender was gone may.
      got_after g.D.Desk.meaning g.met.D.Desk.laws _ later end bound sender (traced_after g.D.Desk.meaning g.met.D.Desk.laws start before since end bound was) gone may;
  same = λ start before since end bound other was is equal.
      traced_one g.D.Desk.meaning bound other _ _ _ _ (traced_after g.D.Desk.meaning g.met.D.Desk.laws start before since end bound was).fact is equal;
}
