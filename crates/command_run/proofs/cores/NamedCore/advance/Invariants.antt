use Rattle.std.proofs.Common.{◌≡◌, ◌-◌}
use Rattle.command_run.specs.Outcomes.{DrivesOn}
use Rattle.command_run.proofs.cores.NamedCore.advance.Given as goal

-- what is left of the drive does the rest
abbrev pub invariant-loop-done : goal.invariant-loop-done
invariant-loop-done l = record {
  name : l.self.name ≡ l.fn.self.name;
  on : DrivesOn l.fn.self.name l.fn.is_quiet l.fn.count l.fn.self.core l.fn.log (l.fn.count - l.done) l.self.core l.log;
}
