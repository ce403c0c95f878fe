use Rattle.way_laws.proofs.RunCoreRungs.{cores_sound}
use Rattle.way_laws.proofs.RunTales.{links_sound}
use Rattle.way_laws.proofs.runs.links_own.Goals as goal

pub returns : goal.returns
returns c = record {
  rings = λ told commands place on runs found. links_sound told commands place on runs found;
  core_rings = λ told commands place on runs found. cores_sound told commands place on runs found;
}
