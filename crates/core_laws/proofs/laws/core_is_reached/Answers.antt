use Rattle.core_laws.proofs.CoreMoves.{core_driven, core_readied, core_reopened, crashed, made_reached, new_core_reached, reached_stays, readied}
use Rattle.core_laws.specs.BenchMoves.{IsReachedCore}
use Rattle.core_laws.proofs.Outcomes.{boot_stays, detach_stays, handover_stays, recovery_stays, report_stays, shutdown_stays}
use Rattle.core_laws.proofs.CoreActs.{core_act_reached}
use Rattle.core_laws.proofs.laws.core_is_reached.Goals as goal

pub returns : goal.returns
returns c = record {
  new = new_core_reached;
  link = made_reached;
  crash = crashed;
  ready = readied;
  boot = boot_stays IsReachedCore reached_stays;
  handover = handover_stays IsReachedCore reached_stays;
  shutdown = shutdown_stays IsReachedCore reached_stays;
  detach = detach_stays IsReachedCore reached_stays;
  report = report_stays IsReachedCore reached_stays;
  readied = core_readied;
  reopened = core_reopened;
  recovery = recovery_stays IsReachedCore reached_stays;
  drive = core_driven;
  act = core_act_reached;
}
