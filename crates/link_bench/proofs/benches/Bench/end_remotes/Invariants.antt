use Rattle.std.proofs.Common.{◌≡◌, ◌-◌}
use Rattle.link_bench.specs.Benches.{link_in}
use Rattle.link_bench.specs.BenchEnds.{without_others, without_remotes}
use Rattle.link_bench.proofs.RemoteEnds.{IsQuiet}
use Rattle.link_bench.proofs.benches.Bench.end_remotes.Given as goal

-- the callers that are left lead where all of them do, and nobody has the receiver's turn
abbrev pub invariant-loop-caller : goal.invariant-loop-caller
invariant-loop-caller l = record {
  walk : without_others l.first l.self l.caller (64 - l.caller) ≡ without_remotes l.fn.self;
  quiet : IsQuiet (link_in l.self);
}
