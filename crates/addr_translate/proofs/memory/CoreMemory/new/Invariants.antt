use Rattle.std.proofs.Common.{◌≡◌, ◌*◌, replicate}
use Rattle.addr_translate.proofs.memory.CoreMemory.new.Given as goal

-- so many pieces of zeros
abbrev pub invariant-loop : goal.invariant-loop
invariant-loop l = l.bytes.items ≡ replicate (l.counter * 2048) 0
