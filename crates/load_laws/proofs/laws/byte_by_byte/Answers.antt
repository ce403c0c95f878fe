use Rattle.load_laws.proofs.ByteParts.{byte_there}
use Rattle.load_laws.proofs.laws.byte_by_byte.Goals as goal

pub returns : goal.returns
returns c = λ image regions placed da place sound loads is byte. byte_there image regions placed da place sound loads is byte
