use Rattle.endpoint_map.proofs.Lookups.{binding, refused}
use Rattle.endpoint_map.proofs.laws.binding.Goals as goal

pub returns-clause-made : goal.returns-clause-made
returns-clause-made c = λ bindings asked since endpoint e. binding bindings asked since endpoint e

pub returns-clause-refused : goal.returns-clause-refused
returns-clause-refused c = λ bindings asked since fault e. refused bindings asked since fault e
