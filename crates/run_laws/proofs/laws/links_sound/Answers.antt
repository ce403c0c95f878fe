use Rattle.run_laws.proofs.RunsReached.{cores_sound, links_sound}
use Rattle.run_laws.proofs.laws.links_sound.Goals as goal

pub returns : goal.returns
returns c = record { links = links_sound; cores = cores_sound }
