use Rattle.std.proofs.Common.{Err, refl, subst}
use Rattle.script_lang.specs.declared.commands.ParseFault.{ParseFault}
use Rattle.script_lang.specs.Grammar.{IsParsed, bad_line, script_of}
use Rattle.script_run.specs.Endings.{TextAsksNone}
use Rattle.script_run.proofs.Ends.{refused_ends, script_fits, unread_ends}
use Rattle.script_run.proofs.YardEnds.{long_leaves, memory_leaves}
use Rattle.script_run.proofs.program.run_bytes.Goals as goal

pub returns-in-Ok-clause-ends : goal.returns-in-Ok-clause-ends
returns-in-Ok-clause-ends g c = rw (c.in-Ok.ensures) c.run_and_write.ensures.leaves.ends

pub returns-in-Ok-clause-fits : goal.returns-in-Ok-clause-fits
returns-in-Ok-clause-fits g c ended = script_fits c.args.bytes.now c.in-Ok.parsed.commands.items c.in-Ok.ensures

pub returns-in-Err-Refused-clause-ends : goal.returns-in-Err-Refused-clause-ends
returns-in-Err-Refused-clause-ends g c =
    refused_ends _ _ (bad_line c.in-Err-Refused.line c.in-Err-Refused.cause) c.end_with.result _ _ _ _ _
    (subst (λ (fault : ParseFault). IsParsed (script_of c.args.bytes.now) (Err fault)) c.in-Err-Refused.field-0-is c.in-Err-Refused.ensures) c.end_with.ensures

pub returns-in-Err-NoMemory-clause-ends : goal.returns-in-Err-NoMemory-clause-ends
returns-in-Err-NoMemory-clause-ends g c = unread_ends _ _ _ _ _

pub returns-in-Ok-clause-unasked : goal.returns-in-Ok-clause-unasked
returns-in-Ok-clause-unasked g c none = c.run_and_write.ensures.unasked (subst TextAsksNone c.in-Ok.ensures none)

pub returns-in-Ok-clause-leaves : goal.returns-in-Ok-clause-leaves
returns-in-Ok-clause-leaves g c = rw (c.in-Ok.ensures) c.run_and_write.ensures.leaves

pub returns-in-Ok-clause-unfilled : goal.returns-in-Ok-clause-unfilled
returns-in-Ok-clause-unfilled g c long = long_leaves c.run_and_write.result _ c.args.bytes.now _ _ _ _ _ _ _ _ long (returns-in-Ok-clause-leaves g c)

pub returns-in-Err-Refused-clause-leaves : goal.returns-in-Err-Refused-clause-leaves
returns-in-Err-Refused-clause-leaves g c =
    rw (subst (λ (fault : ParseFault). IsParsed (script_of c.args.bytes.now) (Err fault)) c.in-Err-Refused.field-0-is c.in-Err-Refused.ensures) refl

pub returns-in-Err-NoMemory-clause-leaves : goal.returns-in-Err-NoMemory-clause-leaves
returns-in-Err-NoMemory-clause-leaves g c = memory_leaves _ (script_of c.args.bytes.now) _ _ _ _
