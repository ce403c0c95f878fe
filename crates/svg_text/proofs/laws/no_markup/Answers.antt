use Rattle.svg_text.proofs.Contents.{content}
use Rattle.svg_text.proofs.laws.no_markup.Goals as goal

pub returns : goal.returns
returns c = content
