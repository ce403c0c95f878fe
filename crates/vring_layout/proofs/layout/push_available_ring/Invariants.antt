use Rattle.std.proofs.Common.{◌≡◌, ◌++◌, take}
use Rattle.std.specs.List.{flat_map}
use Rattle.byteorder.specs.Endian.{little_bytes}
use Rattle.vring_layout.proofs.layout.push_available_ring.Given as goal

-- the front of the ring, with the entries so far
abbrev pub invariant-loop-entry : goal.invariant-loop-entry
invariant-loop-entry l =
    l.bytes.items ≡ l.fn.bytes.items ++ (little_bytes 2 0 ++ little_bytes 2 l.words.avail_idx ++ flat_map (little_bytes 2) (take l.entry-index l.words.avail))
