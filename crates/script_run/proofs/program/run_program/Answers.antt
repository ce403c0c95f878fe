use Rattle.std.proofs.Common.{ap, ◌∙◌}
use Rattle.program_status.specs.Statuses.{status_of}
use Rattle.script_run.proofs.Ends.{status_back}
use Rattle.script_run.proofs.YardEnds.{program_ends}
use Rattle.script_run.proofs.program.run_program.Goals as goal

pub returns-clause-ends : goal.returns-clause-ends
returns-clause-ends g c = program_ends _ _ _ _ _ c.answer.result _ (ap status_of c.number.ensures ∙ status_back c.answer.result) c.answer.ensures.ends
