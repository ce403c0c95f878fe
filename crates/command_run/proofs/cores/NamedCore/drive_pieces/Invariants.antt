use Rattle.std.proofs.Common.{◌≡◌}
use Rattle.run_log.specs.Logs.{KeepsLess}
use Rattle.command_run.specs.Outcomes.{DrivesHanding}
use Rattle.command_run.proofs.cores.NamedCore.drive_pieces.Given as goal

-- what is left of the drive does the rest, behind what was kept or handed on
abbrev pub invariant-loop-left : goal.invariant-loop-left
invariant-loop-left g l =
    let sink = g.K.Sink in
    record {
      name : l.self.name ≡ l.fn.self.name;
      on : DrivesHanding l.fn.self.name l.fn.is_quiet l.fn.count l.fn.self.core l.fn.log (sink.written l.fn.out) l.left l.self.core l.log (sink.written l.out);
      same : sink.faults l.out ≡ sink.faults l.fn.out;
      less : KeepsLess l.fn.log → KeepsLess l.log;
    }

abbrev pub decreases-loop-left : goal.decreases-loop-left
decreases-loop-left g l = l.left
