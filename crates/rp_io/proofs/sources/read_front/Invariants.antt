use Rattle.std.proofs.Common.{◌≡◌, ◌≤◌, ◌+◌, ◌-◌, length}
use Rattle.std.specs.Io.KnownBytes.{Consumes}
use Rattle.rp_io.proofs.sources.read_front.Given as goal

abbrev pub invariant-loop-piece : goal.invariant-loop-piece
invariant-loop-piece g l = record {
  bound : length l.bytes.items ≤ l.limit + 1;
  rest : Consumes (g.S.Source.left l.fn.source) (g.S.Source.left l.source) l.bytes.items;
  same : g.S.Source.faults l.source ≡ g.S.Source.faults l.fn.source;
}

abbrev pub decreases-loop-piece : goal.decreases-loop-piece
decreases-loop-piece g l = l.limit + 1 - length l.bytes.items
