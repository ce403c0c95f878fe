use Rattle.drive_laws.proofs.RecordFacts.{runs_at, run_goes_on, fault_stays, ended_stays, runs_record, call_stays, host_stays}
use Rattle.drive_laws.proofs.drives.records.Goals as goal

pub returns : goal.returns
returns c = record {
  at = runs_at;
  run = runs_record;
  on = run_goes_on;
  fault = fault_stays;
  ended = ended_stays;
  call = call_stays;
  host = host_stays;
}
