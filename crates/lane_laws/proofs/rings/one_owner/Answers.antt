use Rattle.ring_core.proofs.OneOwner.{owner_once}
use Rattle.lane_laws.proofs.RingLinks.{sound_at}
use Rattle.lane_laws.proofs.RingWays.{way_over}
use Rattle.lane_laws.proofs.rings.one_owner.Goals as goal

pub returns : goal.returns
returns g c = record {
  rings = λ s id sound. owner_once s id sound;
  way = λ way end id is. owner_once _ id (sound_at _ end (way_over g.D.Desk.meaning way is).rings);
}
