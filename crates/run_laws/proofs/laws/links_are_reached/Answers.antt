use Rattle.run_laws.proofs.RunsReached.{effect_reached, runs_reached}
use Rattle.run_laws.proofs.laws.links_are_reached.Goals as goal

pub returns : goal.returns
returns c = record { command = effect_reached; run = runs_reached }
