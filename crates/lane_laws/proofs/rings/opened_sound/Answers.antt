use Rattle.lane_laws.proofs.RingLinks.{opened_link_sound}
use Rattle.lane_laws.proofs.rings.opened_sound.Goals as goal

pub returns : goal.returns
returns g c = opened_link_sound
