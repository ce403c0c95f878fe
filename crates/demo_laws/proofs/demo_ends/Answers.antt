use Rattle.demo_laws.proofs.DemoBoots.{demo_goes_on, demo_writes}
use Rattle.demo_laws.proofs.demo_ends.Goals as goal

pub returns : goal.returns
returns c = record { run = demo_goes_on; output = demo_writes }
