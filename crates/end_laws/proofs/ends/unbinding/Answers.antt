use Rattle.end_laws.proofs.EndChanges.{unbinding_removes, unbinding_keeps}
use Rattle.end_laws.proofs.ends.unbinding.Goals as goal

pub returns : goal.returns
returns c = record { endpoints = unbinding_removes; rest = unbinding_keeps }
