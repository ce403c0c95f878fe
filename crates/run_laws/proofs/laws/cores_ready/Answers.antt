use Rattle.run_laws.proofs.RunsReached.{effect_ready, runs_ready}
use Rattle.run_laws.proofs.laws.cores_ready.Goals as goal

pub returns : goal.returns
returns c = record { command = effect_ready; run = runs_ready }
