use Rattle.std.proofs.Common.{◌≡◌, Ok, sym, ap, subst, ◌∙◌}
use Rattle.proc_state.specs.Lives.{CoreLife, life_after_crash}
use Rattle.proc_state.specs.declared.answers.LifeFault.{LifeFault}
use Rattle.proc_state.specs.declared.answers.Report.TheVariants as report
use Rattle.crash_recover.specs.declared.core_answers.Crash.{Crash}
use Rattle.crash_recover.specs.CoreCrashes.{crashed_core}
use Rattle.crash_recover.specs.Cores.{CoreOutcome}
use Rattle.crash_recover.specs.contracts.cores.Core.{the_view}
use Rattle.crash_recover.proofs.FirstReports.{report_closes}
use Rattle.crash_recover.proofs.cores.Core.crash_worker.Goals as goal

pub returns-clause-answer : goal.returns-clause-answer
returns-clause-answer c =
    let core = the_view c.self.inside in
    let first : (life_after_crash core.life).answer ≡ Ok report.First = subst (λ (life : CoreLife). (life_after_crash life).answer ≡ Ok report.First) c.copy-life.ensures c.crash_first.ensures.first in
    rw (c.close.ensures.closed) (rw (← c.self.view_is) (ap (λ (out : CoreOutcome Crash LifeFault). out.answer) (report_closes core first)))

pub returns-clause-left : goal.returns-clause-left
returns-clause-left c =
    let core = the_view c.self.inside in
    let first : (life_after_crash core.life).answer ≡ Ok report.First = subst (λ (life : CoreLife). (life_after_crash life).answer ≡ Ok report.First) c.copy-life.ensures c.crash_first.ensures.first in
    let life_is : c.crash_first.new.self ≡ (life_after_crash core.life).life = c.crash_first.ensures.crashed ∙ ap (λ (life : CoreLife). (life_after_crash life).life) c.copy-life.ensures in
    c.close.ensures.left ∙ rw (← c.self.view_is) (ap (λ (life : CoreLife). crashed_core life core) life_is ∙ ap (λ (out : CoreOutcome Crash LifeFault). out.core) (sym (report_closes core first)))
