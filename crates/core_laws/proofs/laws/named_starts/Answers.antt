use Rattle.core_laws.proofs.NamedFaults.{boots_named, handovers_named, recoveries_named}
use Rattle.core_laws.proofs.laws.named_starts.Goals as goal

pub returns : goal.returns
returns c = record {
  boot = boots_named;
  handover = handovers_named;
  recovery = recoveries_named;
}
