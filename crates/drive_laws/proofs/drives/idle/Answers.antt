use Rattle.drive_laws.proofs.TurnFacts.{idle_only}
use Rattle.drive_laws.proofs.drives.idle.Goals as goal

pub returns : goal.returns
returns c = idle_only
