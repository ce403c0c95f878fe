use Rattle.std.proofs.Common.{◌≡◌, Err, sym, ap, ◌∙◌}
use Rattle.std.proofs.lemmas.Result.{err_from_is_err_and}
use Rattle.rp_io.specs.declared.faults.NoImage.TheVariants as no_image
use Rattle.proc_state.specs.Lives.{life_after_handover}
use Rattle.crash_recover.specs.Cores.{CoreOutcome}
use Rattle.crash_recover.specs.declared.core_answers.Start.{Start}
use Rattle.crash_recover.specs.declared.core_faults.CoreFault.{CoreFault}
use Rattle.crash_recover.specs.declared.core_faults.StartFault.{StartFault}
use Rattle.crash_recover.specs.CoreBoots.{as_unit, core_fault_of_start, in_short}
use Rattle.crash_recover.proofs.RefusedLives.{refused_handover}
use Rattle.crash_recover.proofs.SameLives.{unhanded}
use Rattle.crash_recover.proofs.cores.Core.handover.Goals as goal

pub returns-in_err-life-clause-done : goal.returns-in_err-life-clause-done
returns-in_err-life-clause-done g c = λ had_memory failed.
    let core = c.args.self.now in
    let name = c.args.name.now in
    let why = c.in_err-life.field-0.0 in
    let refused : (life_after_handover core.life).answer ≡ Err why = sym c.in_err-life.ensures.answer in
    let told = err_from_is_err_and c.from_residual.result c.from_residual.ensures.1 in
    let is = ap (λ (out : CoreOutcome Start StartFault). in_short (as_unit {A = Start}) core_fault_of_start out) (refused_handover core name (Err no_image.Missing) why refused) in
    record {
      found = Err no_image.Missing;
      had = λ off. absurd (unhanded core.life why refused off);
      core = sym (ap (λ out. out.core) is);
      answers = told.1 ∙ ap (λ (e : CoreFault). Err e) told.2 ∙ sym (ap (λ out. out.answer) is);
    }
