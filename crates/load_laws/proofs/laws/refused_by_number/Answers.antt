use Rattle.load_laws.proofs.NumberParts.{load_numbered, region_numbered}
use Rattle.load_laws.proofs.laws.refused_by_number.Goals as goal

pub returns-clause-image : goal.returns-clause-image
returns-clause-image c = λ image regions. load_numbered image regions

pub returns-clause-region : goal.returns-clause-region
returns-clause-region c = λ regions region. region_numbered regions region
