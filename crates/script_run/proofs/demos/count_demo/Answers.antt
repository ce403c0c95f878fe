use Rattle.std.proofs.Common.{List, Err, length, ◌≤◌, sym, ap, subst, ◌∙◌}
use Rattle.rp_base.specs.declared.limits.TheConstants.{SCRIPT_LINES_MOST}
use Rattle.script_lang.specs.declared.commands.Command.{Command}
use Rattle.script_lang.specs.declared.commands.ParseFault.{ParseFault}
use Rattle.script_lang.specs.Grammar.{IsParsed, bad_line, script_of}
use Rattle.script_lang.specs.Runnable.{AreRunnable}
use Rattle.script_run.specs.DemoRuns.{IsCounted}
use Rattle.script_run.proofs.DemoSums.{counted, demo_count, not_refused, said_commands, script_runnable}
use Rattle.script_run.proofs.demos.count_demo.Goals as goal

pub count_messages-requires : goal.count_messages-requires
count_messages-requires c =
    let sessions = c.args.sessions in
    let same = said_commands sessions c.as_slice.result.now c.in-Ok.script.commands.items c.requires.most (c.as_slice.ensures.value ∙ c.in_ok-text.ensures) c.in-Ok.ensures in
    record {
      runnable = subst (λ (commands : List Command). AreRunnable commands) (sym c.as_slice-in-Ok.ensures.value)
          (script_runnable c.as_slice.result.now c.in-Ok.script.commands.items c.in-Ok.ensures);
      few = subst (λ (commands : List Command). length commands ≤ SCRIPT_LINES_MOST) (sym (c.as_slice-in-Ok.ensures.value ∙ same)) (demo_count sessions c.requires.most);
    }

pub returns-in-Ok : goal.returns-in-Ok
returns-in-Ok c =
    counted c.args.sessions c.in-Ok.script.commands.items c.count_messages.result
    (ap script_of (sym (c.as_slice.ensures.value ∙ c.in_ok-text.ensures)) ∙ c.in-Ok.ensures)
    (subst (λ (commands : List Command). IsCounted commands c.count_messages.result) c.as_slice-in-Ok.ensures.value c.count_messages.ensures)

pub unreachable-requires : goal.unreachable-requires
unreachable-requires c =
    not_refused c.args.sessions c.as_slice.result.now (bad_line c.in-Err-Refused.field-0-0 c.in-Err-Refused.field-0-1) c.requires.most
    (c.as_slice.ensures.value ∙ c.in_ok-text.ensures)
    (subst (λ (fault : ParseFault). IsParsed (script_of c.as_slice.result.now) (Err fault)) c.in-Err-Refused.field-0-is c.in-Err-Refused.ensures)
