use Rattle.command_run.specs.Runs.{new_run}
use Rattle.command_run.proofs.Shelves.{held_run}
use Rattle.run_laws.proofs.laws.images_and_commands.Goals as goal

pub returns : goal.returns
returns c images told commands is = held_run images told new_run commands is
