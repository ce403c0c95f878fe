use Rattle.run_laws.proofs.Beginnings.{reopens_in_run}
use Rattle.run_laws.proofs.laws.links_reopen_next.Goals as goal

pub returns : goal.returns
returns c = reopens_in_run
