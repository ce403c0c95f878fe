use Rattle.load_laws.proofs.LoadParts.{parts_fit, whole_loads}
use Rattle.load_laws.proofs.laws.loads_by_parts.Goals as goal

pub returns-clause-parts : goal.returns-clause-parts
returns-clause-parts c = λ image regions sound loads. parts_fit image regions loads

pub returns-clause-whole : goal.returns-clause-whole
returns-clause-whole c = λ image regions sound fits. whole_loads image regions sound fits
