use Rattle.chart.proofs.LawFacts.{first_found}
use Rattle.chart.proofs.laws.first_ends.Goals as goal

pub returns : goal.returns
returns c = λ rows end. first_found rows end
