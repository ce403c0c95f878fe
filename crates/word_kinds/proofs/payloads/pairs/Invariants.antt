use Rattle.std.proofs.Common.{◌≡◌, ◌++◌, length}
use Rattle.word_kinds.specs.Payloads.{bytes_of_pairs}
use Rattle.word_kinds.proofs.payloads.pairs.Given as goal

abbrev pub invariant-loop-rest : goal.invariant-loop-rest
invariant-loop-rest l = l.bytes.items ++ bytes_of_pairs l.rest ≡ bytes_of_pairs l.word

abbrev pub decreases-loop-rest : goal.decreases-loop-rest
decreases-loop-rest l = length l.rest
