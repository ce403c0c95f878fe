-- The lines of a device that failed, which need no memory.
use Rattle.std.proofs.Common.{◌≡◌, ◌++◌, ℕ, List, Option, Result, Err, codes, refl, sym, ap, subst, ◌∙◌, IsErrAnd}
use Rattle.std.proofs.lemmas.Result.{err_from_is_err_and}
use Rattle.rp_io.specs.Causes.{Rose}
use Rattle.rp_io.specs.Contents.{AppendsFront}
use Rattle.word_kinds.specs.Lines.{line_of}
use Rattle.journal.specs.Notices.{notice_line}
use Rattle.command_run.specs.declared.faults.OutputFault.{OutputFault}
use Rattle.command_run.specs.declared.faults.OutputFault.TheVariants as output_fault
use Rattle.program_status.specs.declared.statuses.Status.{Status}
use Rattle.program_status.specs.declared.statuses.Status.TheVariants as status
use Rattle.script_run.specs.Outputs.{Output, read_fault_output, store_fault_output}
use Rattle.script_run.specs.Delivery.{EndsRun}

-- of the store
pub store_fault_line : store_fault_output ≡ record { status = status.StoreFault; text = codes "* store fault\n" }
unfolding notice_line line_of
store_fault_line = refl

-- of the source
pub read_fault_line : read_fault_output ≡ record { status = status.ReadFault; text = codes "* read fault\n" }
unfolding notice_line line_of
read_fault_line = refl

-- a sink that failed
pub sink_failed : (result : Result Status OutputFault) (last : Output) (lines : List ℕ) (old new : Option (List ℕ)) (before now : ℕ) → IsErrAnd result (λ fault. fault ≡ output_fault.Failed)
    → AppendsFront old new (lines ++ last.text) → Rose before now → EndsRun result last lines old new before now
sink_failed result last lines old new before now is front rose =
    let found = err_from_is_err_and result is in
    subst (λ (r : Result Status OutputFault). EndsRun r last lines old new before now) (sym (found.1 ∙ ap (λ (fault : OutputFault). Err fault) found.2)) (tt, (front, rose))
