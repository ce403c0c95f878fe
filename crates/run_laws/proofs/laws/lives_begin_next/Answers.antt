use Rattle.run_laws.proofs.Beginnings.{boot_begins_in_run, recovery_begins_in_run, recovery_reopens_in_run}
use Rattle.run_laws.proofs.laws.lives_begin_next.Goals as goal

pub returns : goal.returns
returns c = record {
  boot = boot_begins_in_run;
  recovery = λ answer run name place on at are did begins is. recovery_begins_in_run answer run name place on at are did begins is;
  reopening = recovery_reopens_in_run;
}
