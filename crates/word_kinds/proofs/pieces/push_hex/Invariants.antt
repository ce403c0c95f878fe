use Rattle.std.proofs.Common.{◌≡◌, ◌++◌, take}
use Rattle.std.specs.List.{flat_map}
use Rattle.word_kinds.specs.Texts.{hex_byte}
use Rattle.word_kinds.proofs.pieces.push_hex.Given as goal

-- what the bytes so far print as
abbrev pub invariant-loop-byte : goal.invariant-loop-byte
invariant-loop-byte l = l.out.items ≡ l.fn.out.items ++ flat_map hex_byte (take l.byte-index l.bytes)
