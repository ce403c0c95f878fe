use Rattle.run_laws.proofs.StartsInRuns.{boot_leaves, crash_leaves, detach_leaves, handover_leaves, recovery_leaves, shutdown_leaves}
use Rattle.run_laws.proofs.laws.calls_of_cores.Goals as goal

pub returns : goal.returns
returns c = record {
  boot = boot_leaves;
  handover = handover_leaves;
  recovery = recovery_leaves;
  shutdown = shutdown_leaves;
  detach = detach_leaves;
  crash = crash_leaves;
}
