use Rattle.core_laws.proofs.CrashReclaims.{reached_sound}
use Rattle.core_laws.proofs.laws.reached_sound.Goals as goal

pub returns : goal.returns
returns c = reached_sound
