use Rattle.image_maker.proofs.DemoRunnable.{demo_is_runnable}
use Rattle.image_maker.proofs.laws.demo_runnable.Goals as goal

pub returns : goal.returns
returns c = demo_is_runnable
