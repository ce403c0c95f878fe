use Rattle.std.proofs.Common.{refl, subst}
use Rattle.rp_io.specs.Images.{IsStoreFault}
use Rattle.rp_io.specs.declared.faults.StoreFault.{StoreFault}
use Rattle.script_run.specs.Outputs.{check, store_fault_output}
use Rattle.script_run.proofs.Ends.{ends_fault, ends_no_memory}
use Rattle.script_run.proofs.FaultLines.{store_fault_line}
use Rattle.script_run.proofs.reports.check.Goals as goal

pub returns-in-Err-Failed : goal.returns-in-Err-Failed
returns-in-Err-Failed g c left faults =
    let store = g.F.FirmwareStore in
    ends_fault c.end_with_text.result (check c.args.name) _ _ _ store_fault_output store_fault_line c.end_with_text.ensures.found
    (refl, subst (λ (fault : StoreFault). IsStoreFault fault (store.faults c.args.store.now) (store.faults c.fetch_report.new.store)) c.in-Err-Failed.field-0-is c.in-Err-Failed.ensures.fault, refl) c.end_with_text.ensures.written

pub returns-in-Err-NoMemory : goal.returns-in-Err-NoMemory
returns-in-Err-NoMemory g c left faults =
    let store = g.F.FirmwareStore in
    ends_no_memory (check c.args.name) _ _
    (record { source = refl; store = subst (λ (fault : StoreFault). IsStoreFault fault (store.faults c.args.store.now) (store.faults c.fetch_report.new.store)) c.in-Err-NoMemory.field-0-is c.in-Err-NoMemory.ensures.fault }) refl refl
