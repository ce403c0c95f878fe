use Rattle.endpoint_map.proofs.Lookups.{unbinding}
use Rattle.endpoint_map.proofs.laws.unbinding.Goals as goal

pub returns : goal.returns
returns c = λ bindings address. unbinding bindings address
