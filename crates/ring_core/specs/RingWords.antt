-- The words that a lane shows in memory (VIRTIO 1.2 sections 2.7.6 and 2.7.8): which of its rings is the available ring.
use Rattle.std.specs.Prelude.{ℕ, ◌==◌, ◌%◌, Bool, true, false, not, List, map, slice_index_or}
use Rattle.vring_layout.specs.declared.words.RingWords.{RingWords}
use Rattle.vring_layout.specs.declared.words.UsedWord.{UsedWord}
use Rattle.ring_core.specs.declared.states.RingSizes.{RingSizes}
use Rattle.ring_core.specs.declared.states.Rings.{Rings}
use Rattle.ring_core.specs.Rings.{entry_of}

-- the device sends on the lane, and so writes its buffers
abbrev pub device_sends : RingSizes → Bool
device_sends sizes = sizes.own == 0

-- the index of the return ring or of the forward ring
abbrev pub index_of : Rings → Bool → ℕ
index_of rings true = rings.return_index
index_of rings false = rings.forward_index

-- the entries of the return ring or of the forward ring
abbrev pub ring_of : Rings → Bool → List UsedWord
ring_of rings true = rings.returns
ring_of rings false = rings.forward

-- an entry of the return ring or of the forward ring, by its place
abbrev pub entry_in : Rings → Bool → ℕ → UsedWord
entry_in rings returns place = slice_index_or (ring_of rings returns) place (entry_of 0)

-- the words of a lane whose buffers begin at an address: where the device sends, its used ring is the forward ring and the
-- return ring is the available one; where the driver sends, the other way. An entry of an available ring has 16 bits
abbrev pub words_of : Rings → ℕ → RingWords
words_of rings base = record {
  num = rings.sizes.entries;
  capacity = rings.sizes.capacity;
  base = base;
  device_writes = device_sends rings.sizes;
  avail_idx = index_of rings (device_sends rings.sizes);
  used_idx = index_of rings (not (device_sends rings.sizes));
  avail = map (λ entry. entry.id % 65536) (ring_of rings (device_sends rings.sizes));
  used = ring_of rings (not (device_sends rings.sizes));
}
