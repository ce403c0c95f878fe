use Rattle.run_laws.proofs.CoresKept.{effect_kept, runs_kept}
use Rattle.run_laws.proofs.laws.cores_are_kept.Goals as goal

pub returns : goal.returns
returns c = record { command = effect_kept; run = runs_kept }
