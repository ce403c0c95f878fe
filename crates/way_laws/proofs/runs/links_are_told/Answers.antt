use Rattle.way_laws.proofs.RunTales.{links_are_told}
use Rattle.way_laws.proofs.runs.links_are_told.Goals as goal

pub returns : goal.returns
returns c = λ end told commands place on runs found. links_are_told end told commands place on runs found
