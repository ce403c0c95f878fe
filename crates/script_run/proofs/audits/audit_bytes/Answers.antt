use Rattle.std.proofs.Common.{[], ◌∷◌, inl, refl}
use Rattle.journal.specs.Notices.{report_text}
use Rattle.script_run.specs.Outputs.{too_long_output}
use Rattle.script_run.proofs.Ends.{audit_written, unaudited_ends}
use Rattle.script_run.proofs.audits.audit_bytes.Goals as goal

pub returns-then-bytes-gt-TRANSCRIPT_MOST-clause-ends : goal.returns-then-bytes-gt-TRANSCRIPT_MOST-clause-ends
returns-then-bytes-gt-TRANSCRIPT_MOST-clause-ends g c =
    record { output = too_long_output; is = inl (c.if-bytes-gt-TRANSCRIPT_MOST.true, refl); written = c.end_with.ensures }

pub returns-in-Ok-clause-ends : goal.returns-in-Ok-clause-ends
returns-in-Ok-clause-ends g c =
    audit_written c.end_with-in-Ok.result (record { status = c.audit_status.result; text = report_text (c.audit_notice.result ∷ []) }) _ c.in-Ok.answer _ _ _ _
    c.audit_status.ensures.status c.audit_notice.ensures c.if-bytes-gt-TRANSCRIPT_MOST.false c.in-Ok.ensures.exact c.end_with-in-Ok.ensures

pub returns-in-Err-clause-ends : goal.returns-in-Err-clause-ends
returns-in-Err-clause-ends g c = unaudited_ends _ _ _
