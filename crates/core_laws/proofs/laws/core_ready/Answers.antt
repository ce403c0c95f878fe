use Rattle.crash_recover.specs.Cores.{IsReadyCore}
use Rattle.core_laws.proofs.Outcomes.{boot_stays, detach_stays, handover_stays, recovery_stays, report_stays, shutdown_stays}
use Rattle.crash_recover.proofs.ReadyCores.{readied_ready}
use Rattle.core_laws.proofs.ReadyLives.{drive_ready, ready_stays}
use Rattle.core_laws.proofs.CoreActs.{core_act_ready}
use Rattle.core_laws.proofs.laws.core_ready.Goals as goal

pub returns : goal.returns
returns c = record {
  new = λ regions kinds book. record { begun = tt; calls = λ _. tt };
  boot = boot_stays IsReadyCore ready_stays;
  handover = handover_stays IsReadyCore ready_stays;
  shutdown = shutdown_stays IsReadyCore ready_stays;
  detach = detach_stays IsReadyCore ready_stays;
  report = report_stays IsReadyCore ready_stays;
  readied = readied_ready;
  recovery = recovery_stays IsReadyCore ready_stays;
  drive = drive_ready;
  act = core_act_ready;
}
