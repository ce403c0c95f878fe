use Rattle.core_laws.proofs.Beginnings.{reopened_empty}
use Rattle.core_laws.proofs.laws.reopens_next.Goals as goal

pub returns : goal.returns
returns c = reopened_empty
