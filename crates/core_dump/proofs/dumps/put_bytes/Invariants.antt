use Rattle.std.proofs.Common.{◌≡◌, ◌++◌, take}
use Rattle.core_dump.specs.Dumps.{part_bytes}
use Rattle.core_dump.proofs.dumps.put_bytes.Given as goal

abbrev pub invariant-loop-part : goal.invariant-loop-part
invariant-loop-part l = l.dump.items ≡ l.fn.dump.items ++ part_bytes (take l.part-index l.parts)
