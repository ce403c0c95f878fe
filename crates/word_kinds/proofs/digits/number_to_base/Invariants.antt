use Rattle.std.proofs.Common.{◌≡◌, ◌≤◌, drop}
use Rattle.word_kinds.specs.Spellings.{digits_from}
use Rattle.word_kinds.proofs.digits.number_to_base.Given as goal

abbrev pub invariant-loop-byte : goal.invariant-loop-byte
invariant-loop-byte l = record {
  left : digits_from l.base l.value (drop l.byte-index l.word) ≡ digits_from l.base 0 l.word;
  small : l.value ≤ 4294967295;
}
