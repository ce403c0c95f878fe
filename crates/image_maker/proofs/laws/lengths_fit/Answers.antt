use Rattle.image_maker.proofs.Lengths.{short_image}
use Rattle.image_maker.proofs.laws.lengths_fit.Goals as goal

pub returns : goal.returns
returns c = short_image
