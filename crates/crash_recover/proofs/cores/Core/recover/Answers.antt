use Rattle.std.proofs.Common.{◌≡◌, Option, Some, Err, is_some, sym, ap, ◌∙◌}
use Rattle.std.proofs.lemmas.Bool.{true≢false}
use Rattle.rp_io.specs.declared.faults.NoImage.TheVariants as no_image
use Rattle.proc_state.specs.declared.answers.LifeFault.{LifeFault}
use Rattle.crash_recover.specs.declared.core_answers.Start.{Start}
use Rattle.crash_recover.specs.declared.core_faults.StartFault.{StartFault}
use Rattle.crash_recover.specs.Cores.{CoreOutcome}
use Rattle.crash_recover.specs.CoreBoots.{as_unit, core_fault_of_start, in_short}
use Rattle.proc_state.specs.Lives.{recovery_fault}
use Rattle.crash_recover.proofs.RefusedLives.{refused_recovery}
use Rattle.crash_recover.proofs.cores.Core.recover.Goals as goal

pub returns-in-Some-clause-recovered : goal.returns-in-Some-clause-recovered
returns-in-Some-clause-recovered g c = λ had_memory failed.
    let core = c.args.self.now in
    let refused : recovery_fault core.life ≡ Some c.in-Some.fault = sym c.recovery_fault.ensures ∙ c.in-Some.is in
    let is = ap (λ (out : CoreOutcome Start StartFault). in_short (as_unit {A = Start}) core_fault_of_start out) (refused_recovery core (Err no_image.Missing) c.in-Some.fault refused) in
    record {
      found = Err no_image.Missing;
      had = λ none. absurd (true≢false (ap (λ (found : Option LifeFault). is_some found) (sym refused ∙ none)));
      core = sym (ap (λ out. out.core) is);
      answers = sym (ap (λ out. out.answer) is);
    }
