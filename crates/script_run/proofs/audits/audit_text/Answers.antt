use Rattle.std.proofs.Common.{Err, refl, ap}
use Rattle.rp_io.specs.declared.faults.ReadFault.{ReadFault}
use Rattle.script_run.specs.Outputs.{audit as audit_form, read_fault_output}
use Rattle.script_run.proofs.Ends.{ends_audit, ends_fault, ends_no_memory, memory_well, read_well}
use Rattle.script_run.proofs.FaultLines.{read_fault_line}
use Rattle.script_run.proofs.audits.audit_text.Goals as goal

pub returns-in-Ok-clause-ends : goal.returns-in-Ok-clause-ends
returns-in-Ok-clause-ends g c images faults =
    ends_audit c.audit_bytes.result _ _ c.deref.result.now (rw (c.deref.ensures.value) c.in-Ok.ensures.bytes)
    (record { source = c.in-Ok.ensures.same (read_well c.in-Ok.bytes); store = refl }) c.audit_bytes.ensures.ends

pub returns-in-Err-Failed-clause-ends : goal.returns-in-Err-Failed-clause-ends
returns-in-Err-Failed-clause-ends g c images faults =
    ends_fault c.end_with_text.result audit_form _ _ _ read_fault_output read_fault_line c.end_with_text.ensures.found
    (refl, c.in-Err-Failed.ensures.failed (ap (λ (fault : ReadFault). Err fault) c.in-Err-Failed.field-0-is), refl) c.end_with_text.ensures.written

pub returns-in-Err-NoMemory-clause-ends : goal.returns-in-Err-NoMemory-clause-ends
returns-in-Err-NoMemory-clause-ends g c images faults =
    ends_no_memory audit_form _ _ (record { source = c.in-Err-NoMemory.ensures.same (memory_well c.in-Err-NoMemory.field-0 c.in-Err-NoMemory.field-0-is); store = refl }) refl refl
