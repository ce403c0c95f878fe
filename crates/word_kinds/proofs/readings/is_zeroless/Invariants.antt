use Rattle.std.proofs.Common.{◌≡◌, length}
use Rattle.word_kinds.specs.Readings.{is_zeroless, without_escapes}
use Rattle.word_kinds.proofs.readings.is_zeroless.Given as goal

abbrev pub invariant-loop-byte : goal.invariant-loop-byte
invariant-loop-byte l = is_zeroless (without_escapes l.rest) ≡ is_zeroless (without_escapes l.word)

abbrev pub decreases-loop-byte : goal.decreases-loop-byte
decreases-loop-byte l = length l.rest
