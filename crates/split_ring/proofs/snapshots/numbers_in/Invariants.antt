use Rattle.std.proofs.Common.{◌≡◌, ◌%◌, map, take}
use Rattle.split_ring.proofs.snapshots.numbers_in.Given as goal

-- the entries read so far
abbrev pub invariant-loop-entry : goal.invariant-loop-entry
invariant-loop-entry l = l.numbers.items ≡ map (λ entry. entry.id % 65536) (take l.entry-index l.ring)
