use Rattle.drive_laws.proofs.TurnFacts.{alone_acts, two_steps}
use Rattle.drive_laws.proofs.drives.no_wait.Goals as goal

pub returns : goal.returns
returns c = record { alone = alone_acts; two = two_steps }
