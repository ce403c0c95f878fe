-- Where the words of a lane are in its rings (VIRTIO 1.2 sections 2.7.6 and 2.7.8; which entry and which buffer is own).
use Rattle.std.specs.Prelude.{ℕ, ◌+◌, ◌-◌, ◌%◌, ◌==◌, Bool, nat_lt, if◌then◌else◌, List, [], ◌++◌, map, replicate, slice_index_or}
use Rattle.std.specs.List.{range_with_len}
use Rattle.rp_base.specs.Limits.{ring_capacity}
use Rattle.vring_layout.specs.declared.words.UsedWord.{UsedWord}
use Rattle.ring_core.specs.declared.states.RingSizes.{RingSizes}
use Rattle.ring_core.specs.declared.states.Rings.{Rings}

-- the sizes of the rings of a lane that have so many entries, whether the device sends on it or the driver
abbrev pub sizes_of : ℕ → Bool → RingSizes
sizes_of entries device_sends = record {
  entries = entries;
  capacity = ring_capacity entries;
  own = if device_sends then 0 else ring_capacity entries;
}

-- an entry of a ring that holds nothing but the number of a buffer
abbrev pub entry_of : ℕ → UsedWord
entry_of id = record { id = id; len = 0 }

-- the buffer that an entry of a ring of so many entries names, by a count of entries: indexes are taken modulo the ring's size
abbrev pub buffer_at : ℕ → List UsedWord → ℕ → ℕ
buffer_at entries ring count = (slice_index_or ring (count % entries) (entry_of 0)).id

-- the buffer that send `number` takes: the first ones from the sender's own list, in order, the others from the return ring
abbrev pub source_buffer : ℕ → ℕ → List UsedWord → ℕ → ℕ
source_buffer entries own returns number = if nat_lt number own then number else buffer_at entries returns (number - own)

-- how many entries of the return ring were published when so many buffers are back: those that were there at the opening count too
abbrev pub return_count : RingSizes → ℕ → ℕ
return_count sizes returned = sizes.capacity - sizes.own + returned

-- the length in a forward entry: of the message where the device sends, in a used entry, and 0 in an available entry
abbrev pub entry_length : RingSizes → ℕ → ℕ
entry_length sizes length = if sizes.own == 0 then length else 0

-- the return ring at the opening: the buffers that no send takes from the sender's own list, in order
abbrev pub opened_returns : RingSizes → List UsedWord
opened_returns sizes =
    map entry_of (range_with_len sizes.own (sizes.capacity - sizes.own)) ++ replicate (sizes.entries - (sizes.capacity - sizes.own)) (entry_of 0)

-- the rings of a new incarnation, over buffers in which anything may be
abbrev pub opened_rings : RingSizes → List (List ℕ) → Rings
opened_rings sizes buffers = record {
  sizes = sizes;
  forward_index = 0;
  return_index = return_count sizes 0;
  forward = replicate sizes.entries (entry_of 0);
  returns = opened_returns sizes;
  sending = 0;
  taking = 0;
  hands = [];
  aside = [];
  buffers = buffers;
}
