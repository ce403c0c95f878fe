use Rattle.image_maker.proofs.DemoSizes.{demo_is_said}
use Rattle.image_maker.proofs.laws.demo_says.Goals as goal

pub returns : goal.returns
returns c = demo_is_said
