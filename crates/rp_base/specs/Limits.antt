-- The numbers that a ring may have (VIRTIO 1.2 section 2.7: the queue size is a power of two, at most 32,768; the capacity is own).
use Rattle.std.specs.Prelude.{ℕ, ◌≤◌, ◌&&◌, nat_le, min, Bool, IsTrue}
use Rattle.std.specs.Int.{is_power_of_two}
use Rattle.rp_base.specs.declared.limits.TheConstants.{RING_MOST, CAPACITY_MOST}

-- a number of entries of a ring: a power of two up to 32,768
abbrev pub is_ring_size : ℕ → Bool
is_ring_size entries = is_power_of_two entries && nat_le entries RING_MOST

-- a ring may have so many entries
abbrev pub IsRingSize : ℕ → Type 0
IsRingSize entries = IsTrue (is_power_of_two entries) × (entries ≤ RING_MOST)

-- how many buffers a lane has, by the entries of its ring (own)
abbrev pub ring_capacity : ℕ → ℕ
ring_capacity entries = min entries CAPACITY_MOST
