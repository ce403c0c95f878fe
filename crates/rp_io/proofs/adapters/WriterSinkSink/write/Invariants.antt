use Rattle.std.proofs.Common.{◌≡◌}
use Rattle.std.specs.Io.KnownBytes.{Keeps}
use Rattle.rp_io.proofs.adapters.WriterSinkSink.write.Given as goal

abbrev pub invariant-loop : goal.invariant-loop
invariant-loop g l = record {
  content : Keeps l.fn.self.content (g.W.Write.contents l.self-inside.writer);
  faults : l.self-inside.faults ≡ l.fn.self.faults;
}
