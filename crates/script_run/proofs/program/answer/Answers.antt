use Rattle.std.proofs.Common.{refl}
use Rattle.script_run.proofs.YardEnds.{memory_ends}
use Rattle.script_run.proofs.program.answer.Goals as goal

pub returns-in_default-clause-ends : goal.returns-in_default-clause-ends
returns-in_default-clause-ends g c = memory_ends _ _ _ _ (record { source = refl; store = refl }) refl refl
