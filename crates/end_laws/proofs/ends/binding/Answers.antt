use Rattle.end_laws.proofs.EndChanges.{binding_adds, binding_keeps}
use Rattle.end_laws.proofs.ends.binding.Goals as goal

pub returns : goal.returns
returns c = record { endpoints = binding_adds; rest = binding_keeps }
