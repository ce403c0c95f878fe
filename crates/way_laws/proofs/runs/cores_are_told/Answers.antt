use Rattle.way_laws.proofs.RunCoreTales.{cores_are_told}
use Rattle.way_laws.proofs.runs.cores_are_told.Goals as goal

pub returns : goal.returns
returns c = λ end told commands place on runs found. cores_are_told end told commands place on runs found
