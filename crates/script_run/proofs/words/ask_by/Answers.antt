use Rattle.std.proofs.Common.{rules}
use Rattle.script_run.proofs.WordForms.{alone_form, few_form, four_form, many_form, pair_form}
use Rattle.script_run.proofs.words.ask_by.Goals.{in_default-via-in-empty-2+else-eq-2, in_default-via-in-len1-2+else-eq-4, in_default-via-else-args-lt1+else-args-lt2+then-args-lt4, in_default-via-in-len4+else-eq-5, in_default-via-else-args-lt1+else-args-lt2+else-args-lt4+else-args-lt5}
use Rattle.script_run.proofs.words.ask_by.Goals as goal

pub returns-in_default-clause-form : goal.returns-in_default-clause-form
returns-in_default-clause-form c =
    let job = c.args.job.now in let args = c.args.args.now in
    elim c.in_default.branch [
      | in_default-via-in-empty-2+else-eq-2 w ↦ alone_form (λ word. word.now) job args (search rules) (search rules) (search rules)
      | in_default-via-in-len1-2+else-eq-4 w ↦ pair_form (λ word. word.now) job args (search rules) (search rules) (search rules)
      | in_default-via-else-args-lt1+else-args-lt2+then-args-lt4 w ↦ few_form (λ word. word.now) job args (search rules) (search rules)
      | in_default-via-in-len4+else-eq-5 w ↦ four_form (λ word. word.now) job args (search rules) (search rules)
      | in_default-via-else-args-lt1+else-args-lt2+else-args-lt4+else-args-lt5 w ↦ many_form (λ word. word.now) job args (search rules)
    ]
