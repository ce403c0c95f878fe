use Rattle.std.proofs.Common.{◌++◌, ◌∷◌, [], codes, sym, ap, subst, arith}
use Rattle.std.specs.Prelude.{Err}
use Rattle.journal_check.specs.Lines.{lines_of}
use Rattle.chart.specs.Readings.{AreLines}
use Rattle.rproc_chart.specs.declared.statuses.Status.TheVariants as ended
use Rattle.rproc_chart.specs.Outputs.{IsOutput, large, long, other, refusal_line}
use Rattle.rproc_chart.proofs.OutputFacts.{as_told, of_events}
use Rattle.rproc_chart.proofs.program.output_of.Goals as goal

pub returns-then-bytes-gt-TRANSCRIPT_MOST : goal.returns-then-bytes-gt-TRANSCRIPT_MOST
returns-then-bytes-gt-TRANSCRIPT_MOST c =
    record { output = as_told (IsOutput c.args.bytes.now) (codes "* refused 0 size" ++ 10 ∷ []) ended.Refused c.refusal.result (large (omega arith)) c.refusal.ensures }

pub returns-in-Ok : goal.returns-in-Ok
returns-in-Ok c =
    record {
      output = of_events c.args.bytes.now c.deref.result.now c.chart_output.result (subst (AreLines (lines_of c.args.bytes.now)) (sym c.deref.ensures.value) c.in-Ok.ensures.lines) c.chart_output.ensures;
    }

pub returns-in-Err-NotALine : goal.returns-in-Err-NotALine
returns-in-Err-NotALine c =
    let line = c.in-Err-NotALine.line in
    record {
      output = as_told (IsOutput c.args.bytes.now) (refusal_line line) ended.Unsound c.refused_line.result (other line (c.in-Err-NotALine.ensures.first line (ap Err c.in-Err-NotALine.field-0-is))) c.refused_line.ensures;
    }

pub returns-in-Err-TooLong : goal.returns-in-Err-TooLong
returns-in-Err-TooLong c =
    record {
      output = as_told (IsOutput c.args.bytes.now) (codes "* refused 0 lines" ++ 10 ∷ []) ended.Refused c.refusal-in-Err-TooLong.result (long (c.in-Err-TooLong.ensures.long (ap Err c.in-Err-TooLong.field-0-is))) c.refusal-in-Err-TooLong.ensures;
    }
