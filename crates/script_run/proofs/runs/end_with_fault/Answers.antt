use Rattle.std.proofs.Common.{ℕ, refl, sym, subst, ◌∙◌}
use Rattle.std.specs.Io.KnownBytes.{Appends}
use Rattle.rp_io.specs.Causes.{Rose}
use Rattle.rp_io.specs.Contents.{AppendsFront}
use Rattle.script_run.specs.Outputs.{Output, store_fault_output}
use Rattle.command_run.proofs.HandedLines.{appends_more, front_after, front_of_more}
use Rattle.script_run.proofs.FaultLines.{sink_failed, store_fault_line}
use Rattle.script_run.proofs.runs.end_with_fault.Goals as goal

pub returns-in_err-flush-clause-written : goal.returns-in_err-flush-clause-written
returns-in_err-flush-clause-written g c =
    let sink = g.K.Sink in
    sink_failed c.from_residual.result store_fault_output c.args.log.now.lines (sink.written c.args.out.now) (sink.written c.flush.new.out)
    (sink.faults c.args.out.now) (sink.faults c.flush.new.out) c.from_residual.ensures.1
    (front_of_more (sink.written c.args.out.now) (sink.written c.flush.new.out) c.args.log.now.lines store_fault_output.text c.in_err-flush.ensures.front) c.in_err-flush.ensures.failed

pub returns-in_err-write_whole-clause-written : goal.returns-in_err-write_whole-clause-written
returns-in_err-write_whole-clause-written g c =
    let sink = g.K.Sink in
    sink_failed c.from_residual-in_err-write_whole.result store_fault_output c.args.log.now.lines (sink.written c.args.out.now) (sink.written c.write_whole.new.sink)
    (sink.faults c.args.out.now) (sink.faults c.write_whole.new.sink) c.from_residual-in_err-write_whole.ensures.1
    (front_after (sink.written c.args.out.now) (sink.written c.flush.new.out) (sink.written c.write_whole.new.sink) c.args.log.now.lines store_fault_output.text c.in_ok-flush.ensures.whole
    (subst (λ (o : Output). AppendsFront (sink.written c.flush.new.out) (sink.written c.write_whole.new.sink) o.text) (sym store_fault_line) c.in_err-write_whole.ensures.err))
    (subst (λ (n : ℕ). Rose n (sink.faults c.write_whole.new.sink)) c.in_ok-flush.ensures.same c.in_err-write_whole.ensures.failed)

pub returns-clause-written : goal.returns-clause-written
returns-clause-written g c =
    let sink = g.K.Sink in (
      refl,
      (
        appends_more (sink.written c.args.out.now) (sink.written c.flush.new.out) (sink.written c.write_whole.new.sink) c.args.log.now.lines store_fault_output.text c.in_ok-flush.ensures.whole
            (subst (λ (o : Output). Appends (sink.written c.flush.new.out) (sink.written c.write_whole.new.sink) o.text) (sym store_fault_line) c.in_ok-write_whole.ensures.ok),
        c.in_ok-write_whole.ensures.same ∙ c.in_ok-flush.ensures.same,
      ),
    )
