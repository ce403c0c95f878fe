use Rattle.std.proofs.Common.{ap, ◌∙◌}
use Rattle.program_status.specs.Statuses.{status_of}
use Rattle.script_run.proofs.Ends.{status_back}
use Rattle.script_run.proofs.program.run_script.Goals as goal

pub returns-clause-answer : goal.returns-clause-answer
returns-clause-answer g c = rw (ap status_of c.number.ensures ∙ status_back c.run_and_write.result) c.run_and_write.ensures.leaves.ends

pub returns-clause-yard : goal.returns-clause-yard
returns-clause-yard g c = rw (ap status_of c.number.ensures ∙ status_back c.run_and_write.result) c.run_and_write.ensures.leaves
