use Rattle.lane_laws.proofs.SoundKept.{opened_sound}
use Rattle.lane_laws.proofs.links.opened_sound.Goals as goal

pub returns : goal.returns
returns g c = λ config host remote. opened_sound config host remote
