use Rattle.std.proofs.Common.{◌≡◌, ◌++◌, length}
use Rattle.word_kinds.specs.Readings.{without_escapes}
use Rattle.word_kinds.proofs.readings.unescaped_bytes.Given as goal

abbrev pub invariant-loop-byte : goal.invariant-loop-byte
invariant-loop-byte l = l.bytes.items ++ without_escapes l.rest ≡ without_escapes l.word

abbrev pub decreases-loop-byte : goal.decreases-loop-byte
decreases-loop-byte l = length l.rest
