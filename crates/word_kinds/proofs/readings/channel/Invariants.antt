use Rattle.std.proofs.Common.{◌≡◌, ◌≤◌, ◌++◌, length, take}
use Rattle.word_kinds.specs.Readings.{without_escapes}
use Rattle.word_kinds.proofs.readings.channel.Given as goal

abbrev pub invariant-loop-byte : goal.invariant-loop-byte
invariant-loop-byte l = record {
  read : take l.count l.bytes ++ without_escapes l.rest ≡ without_escapes l.word;
  most : l.count ≤ 31;
  room : length l.bytes ≡ 31;
}

abbrev pub decreases-loop-byte : goal.decreases-loop-byte
decreases-loop-byte l = length l.rest
