use Rattle.run_laws.proofs.StartsInRuns.{attaches_in_run, boots_in_run, hands_over_in_run}
use Rattle.run_laws.proofs.laws.starts_just_where.Goals as goal

pub returns : goal.returns
returns c = record {
  boot = boots_in_run;
  handover = hands_over_in_run;
  attach = attaches_in_run;
}
