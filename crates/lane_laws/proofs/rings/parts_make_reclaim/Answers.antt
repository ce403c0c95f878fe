use Rattle.lane_laws.proofs.RingParts.{part_stands, part_sound, parts_whole}
use Rattle.lane_laws.proofs.rings.parts_make_reclaim.Goals as goal

pub returns : goal.returns
returns g c = record {
  lists = λ link end caller which. part_stands g.D.Desk.meaning link end caller which;
  sound = λ link end caller which may sound. part_sound g.D.Desk.meaning link end caller which may sound;
  whole = λ link end caller sound used none. parts_whole g.D.Desk.meaning link end caller sound used none;
}
