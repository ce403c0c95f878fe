use Rattle.std.proofs.Common.{◌≡◌, ◌<◌, List, ℕ, length, Err, refl, sym, ap, subst}
use Rattle.rp_io.specs.declared.faults.ReadFault.{ReadFault}
use Rattle.rp_base.specs.declared.limits.TheConstants.{SCRIPT_MOST}
use Rattle.script_lang.specs.Grammar.{script_of}
use Rattle.script_run.specs.Endings.{TextAsksNone}
use Rattle.script_run.proofs.Ends.{memory_well, read_asks, read_well}
use Rattle.script_run.proofs.FaultLines.{read_fault_line}
use Rattle.script_run.proofs.YardEnds.{fault_ends, memory_ends, read_ends, unended}
use Rattle.script_run.proofs.program.run_text.Goals as goal

pub returns-in-Ok-clause-ends : goal.returns-in-Ok-clause-ends
returns-in-Ok-clause-ends g c =
    read_ends _ _ _ _ c.run_bytes.result c.deref.result.now (rw (c.deref.ensures.value) c.in-Ok.ensures.bytes) (c.in-Ok.ensures.same (read_well c.in-Ok.bytes))
    c.run_bytes.ensures.ends c.run_bytes.ensures.leaves

pub returns-in-Err-Failed-clause-ends : goal.returns-in-Err-Failed-clause-ends
returns-in-Err-Failed-clause-ends g c =
    fault_ends c.end_with_text.result _ _ _ _ read_fault_line c.end_with_text.ensures.found (c.in-Err-Failed.ensures.failed (ap (λ (fault : ReadFault). Err fault) c.in-Err-Failed.field-0-is)) refl
    c.end_with_text.ensures.written

pub returns-in-Err-NoMemory-clause-ends : goal.returns-in-Err-NoMemory-clause-ends
returns-in-Err-NoMemory-clause-ends g c =
    memory_ends _ _ _ _ (record { source = c.in-Err-NoMemory.ensures.same (memory_well c.in-Err-NoMemory.field-0 c.in-Err-NoMemory.field-0-is); store = refl }) refl refl

pub returns-in-Ok-clause-unasked : goal.returns-in-Ok-clause-unasked
returns-in-Ok-clause-unasked g c none =
    c.run_bytes.ensures.unasked (subst (λ (bytes : List ℕ). TextAsksNone (script_of bytes)) (sym c.deref.ensures.value)
    (read_asks (g.S.Source.left c.args.script.now) c.in-Ok.bytes.items c.in-Ok.ensures.bytes none))

pub returns-in-Ok-clause-unfilled : goal.returns-in-Ok-clause-unfilled
returns-in-Ok-clause-unfilled g c not_ended =
    unended (g.S.Source.left c.read_front.new.source) c.in-Ok.bytes.items (c.run_bytes.new.yard ≡ c.args.yard.now) c.in-Ok.ensures.end not_ended
    (λ long. c.run_bytes.ensures.unfilled (subst (λ (bytes : List ℕ). SCRIPT_MOST < length bytes) (sym c.deref.ensures.value) long))
