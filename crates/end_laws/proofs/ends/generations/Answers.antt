use Rattle.end_laws.proofs.Generations.{change_counted, none_counted, generation_rises}
use Rattle.end_laws.proofs.ends.generations.Goals as goal

pub returns : goal.returns
returns c = record { fresh = none_counted; kept = change_counted; rise = generation_rises }
