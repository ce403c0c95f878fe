-- Sizes of split virtqueues (VIRTIO 1.2, 2.7; `vring_size` of Linux include/uapi/linux/virtio_ring.h).
use Rattle.std.specs.Prelude.{ℕ, ◌+◌, ◌*◌, ◌≤◌, IsTrue}
use Rattle.std.specs.Int.{is_power_of_two, next_multiple_of}

-- an alignment of the used ring: a power of two from 4 (VIRTIO 1.2, 2.7) to 65,536 (own)
abbrev pub IsRingAlign : ℕ → Type 0
IsRingAlign align = IsTrue (is_power_of_two align) × (4 ≤ align) × (align ≤ 65536)

-- the end of the available ring (2.7): 16 bytes a descriptor, then three words and num entries of two bytes
abbrev pub available_end : ℕ → ℕ
available_end num = 16 * num + 2 * (3 + num)

-- the place of the used ring, counted from the ring's start: the next multiple of align (`vring_init` of virtio_ring.h)
abbrev pub used_start : ℕ → ℕ → ℕ
used_start num align = next_multiple_of (available_end num) align

-- the bytes of a ring (`vring_size` of virtio_ring.h): the used ring has three words of two bytes and num entries of eight
abbrev pub ring_size : ℕ → ℕ → ℕ
ring_size num align = used_start num align + 6 + 8 * num
