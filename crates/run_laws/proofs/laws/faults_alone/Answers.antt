use Rattle.command_run.specs.Runs.{new_run}
use Rattle.command_run.proofs.Shelves.{held_failed}
use Rattle.run_laws.proofs.laws.faults_alone.Goals as goal

pub returns : goal.returns
returns c images told commands is = held_failed images told new_run commands is
