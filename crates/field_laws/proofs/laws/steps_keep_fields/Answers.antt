use Rattle.field_laws.proofs.Steps.{step_fields}
use Rattle.field_laws.proofs.laws.steps_keep_fields.Goals as goal

pub returns-clause-kept : goal.returns-clause-kept
returns-clause-kept c = λ link caller follows wished sound is wishes. (step_fields link caller follows wished sound is wishes).state

pub returns-clause-told : goal.returns-clause-told
returns-clause-told c = λ link caller follows wished sound is wishes. (step_fields link caller follows wished sound is wishes).outcome
