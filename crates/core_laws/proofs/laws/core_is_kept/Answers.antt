use Rattle.core_laws.proofs.KeptCores.{core_driven, kept_stays}
use Rattle.crash_recover.proofs.KeptBenches.{core_readied, core_reopened}
use Rattle.crash_recover.specs.Cores.{IsKeptCore}
use Rattle.core_laws.proofs.Outcomes.{boot_stays, detach_stays, handover_stays, recovery_stays, report_stays, shutdown_stays}
use Rattle.core_laws.proofs.CoreActs.{core_act_kept}
use Rattle.core_laws.proofs.laws.core_is_kept.Goals as goal

pub returns : goal.returns
returns c = record {
  new = λ regions kinds book. tt;
  boot = boot_stays IsKeptCore kept_stays;
  handover = handover_stays IsKeptCore kept_stays;
  shutdown = shutdown_stays IsKeptCore kept_stays;
  detach = detach_stays IsKeptCore kept_stays;
  report = report_stays IsKeptCore kept_stays;
  readied = core_readied;
  reopened = core_reopened;
  recovery = recovery_stays IsKeptCore kept_stays;
  drive = core_driven;
  act = core_act_kept;
}
