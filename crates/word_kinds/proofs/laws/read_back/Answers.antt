use Rattle.word_kinds.proofs.Numbers.{word_back}
use Rattle.word_kinds.proofs.laws.read_back.Goals as goal

pub returns : goal.returns
returns c = word_back
