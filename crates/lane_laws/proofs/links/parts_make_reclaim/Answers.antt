use Rattle.lane_laws.proofs.ReclaimParts.{reclaim_may, reclaim_whole}
use Rattle.lane_laws.proofs.links.parts_make_reclaim.Goals as goal

pub returns : goal.returns
returns g c = record {
  may = λ link end caller used none. reclaim_may g.D.Desk.meaning link end caller used none;
  whole = λ link end caller used none. reclaim_whole g.D.Desk.meaning link end caller used none;
}
