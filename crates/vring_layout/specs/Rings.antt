-- The layout of a split virtqueue (VIRTIO 1.2, 2.7).
use Rattle.std.specs.Prelude.{ℕ, ◌+◌, ◌*◌, ◌-◌, Bool, if◌then◌else◌, List, ◌++◌, replicate}
use Rattle.std.specs.List.{flat_map, range_with_len}
use Rattle.byteorder.specs.Endian.{little_bytes}
use Rattle.rp_base.specs.declared.limits.TheConstants.{MESSAGE_MOST}
use Rattle.vring_layout.specs.Sizes.{available_end, used_start}
use Rattle.vring_layout.specs.declared.words.RingWords.{RingWords}
use Rattle.vring_layout.specs.declared.words.UsedWord.{UsedWord}

-- a descriptor (2.7.5): addr le64, len le32, flags le16 with VIRTQ_DESC_F_WRITE = 2, next le16; a buffer has the bytes of the longest message (own)
abbrev pub descriptor_bytes : ℕ → Bool → List ℕ
descriptor_bytes addr device_writes =
    little_bytes 8 addr ++ little_bytes 4 MESSAGE_MOST ++ little_bytes 2 (if device_writes then 2 else 0) ++ little_bytes 2 0

-- the descriptor table (2.7.5): one for each buffer, which are one after the other, and zeros (own)
abbrev pub descriptor_table : RingWords → List ℕ
descriptor_table words =
    flat_map (λ i. descriptor_bytes (words.base + MESSAGE_MOST * i) words.device_writes) (range_with_len 0 words.capacity) ++ replicate (16 * (words.num - words.capacity)) 0

-- the available ring (2.7.6): flags le16, idx le16, ring le16 each, used_event le16
abbrev pub available_ring : RingWords → List ℕ
available_ring words =
    little_bytes 2 0 ++ little_bytes 2 words.avail_idx ++ flat_map (little_bytes 2) words.avail ++ little_bytes 2 0

-- an entry of the used ring (2.7.8): id le32, len le32
abbrev pub used_entry_bytes : UsedWord → List ℕ
used_entry_bytes entry = little_bytes 4 entry.id ++ little_bytes 4 entry.len

-- the used ring (2.7.8): flags le16, idx le16, the entries, avail_event le16
abbrev pub used_ring : RingWords → List ℕ
used_ring words =
    little_bytes 2 0 ++ little_bytes 2 words.used_idx ++ flat_map used_entry_bytes words.used ++ little_bytes 2 0

-- the whole ring (2.7): the used ring is at the next multiple of align
abbrev pub ring_layout : ℕ → RingWords → List ℕ
ring_layout align words =
    descriptor_table words ++ available_ring words ++ replicate (used_start words.num align - available_end words.num) 0 ++ used_ring words
