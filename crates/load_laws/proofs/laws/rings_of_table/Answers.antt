use Rattle.load_laws.proofs.RingParts.{loaded_blocks}
use Rattle.load_laws.proofs.laws.rings_of_table.Goals as goal

pub returns : goal.returns
returns c = λ image regions loaded sound loads is. loaded_blocks image regions loaded sound loads is
