use Rattle.std.proofs.Common.{◌≡◌, length}
use Rattle.std.specs.Io.KnownBytes.{Keeps}
use Rattle.rp_io.proofs.adapters.ReaderSourceSource.read.Given as goal

abbrev pub invariant-loop : goal.invariant-loop
invariant-loop g l = record {
  room : length l.into ≡ length l.fn.into;
  content : Keeps l.fn.self.content (g.R.Read.remaining l.self-inside.reader);
  faults : l.self-inside.faults ≡ l.fn.self.faults;
}
