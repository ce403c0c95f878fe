use Rattle.run_laws.proofs.RegionsSound.{effect_sound, runs_sound}
use Rattle.run_laws.proofs.laws.regions_sound.Goals as goal

pub returns : goal.returns
returns c = record { command = effect_sound; run = runs_sound }
