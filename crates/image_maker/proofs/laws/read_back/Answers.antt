use Rattle.image_maker.proofs.ReadRecipes.{recipe_read}
use Rattle.image_maker.proofs.laws.read_back.Goals as goal

pub returns : goal.returns
returns c = recipe_read
