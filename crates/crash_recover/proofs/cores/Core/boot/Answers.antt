use Rattle.std.proofs.Common.{◌≡◌, OnErr, Result, Ok, Err, sym, ap, subst, ◌∙◌}
use Rattle.std.proofs.lemmas.Bool.{true≢false}
use Rattle.std.specs.Result.{result_map_both}
use Rattle.rp_io.specs.declared.faults.NoImage.TheVariants as no_image
use Rattle.proc_state.specs.declared.answers.Power.{Power}
use Rattle.crash_recover.specs.Cores.{CoreOutcome}
use Rattle.crash_recover.specs.declared.core_answers.Boot.TheVariants as boot
use Rattle.crash_recover.specs.declared.core_answers.Start.{Start}
use Rattle.crash_recover.specs.declared.core_faults.CoreFault.{CoreFault}
use Rattle.crash_recover.specs.declared.core_faults.StartFault.{StartFault}
use Rattle.crash_recover.specs.CoreBoots.{BeginsBoot, core_fault_of_start, in_short, power_of}
use Rattle.crash_recover.proofs.cores.Core.boot.Goals as goal

-- a refusal stays one in short
refused_still : (answer : Result Start StartFault) (P : Type 0) → OnErr answer P → OnErr (result_map_both power_of core_fault_of_start answer) P
refused_still (Ok did) P is = tt
refused_still (Err why) P is = is

pub returns-in-Done-clause-booted : goal.returns-in-Done-clause-booted
returns-in-Done-clause-booted g c = λ had_memory told.
    let core = c.args.self.now in
    let name = c.args.name.now in
    let begun : BeginsBoot core c.begin_boot.new.self (boot.Done c.in-Done.answer) = subst (BeginsBoot core c.begin_boot.new.self) c.in-Done.is c.in_ok-answer.ensures.begun in
    let is = ap (λ (out : CoreOutcome Start StartFault). in_short power_of core_fault_of_start out) (begun.2 name (Err no_image.Missing)) in
    record {
      found = Err no_image.Missing;
      had = λ needs. absurd (true≢false (sym needs ∙ begun.0));
      core = sym (ap (λ out. out.core) is);
      answers = c.power_of.ensures.answer ∙ sym (ap (λ out. out.answer) is);
    }

pub returns-in-Done-clause-unchanged : goal.returns-in-Done-clause-unchanged
returns-in-Done-clause-unchanged g c =
    let core = c.args.self.now in
    let left = c.begin_boot.new.self in
    let begun : BeginsBoot core left (boot.Done c.in-Done.answer) = subst (BeginsBoot core left) c.in-Done.is c.in_ok-answer.ensures.begun in
    subst (λ (answer : Result Power CoreFault). OnErr answer (left ≡ core)) (sym c.power_of.ensures.answer) (refused_still c.in-Done.answer (left ≡ core) begun.1)
