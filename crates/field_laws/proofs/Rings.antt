-- The bytes of a ring are bytes.
use Rattle.std.proofs.Common.{ℕ, ◌+◌, ◌*◌, ◌-◌, Bool, cond, ◌++◌, replicate}
use Rattle.std.specs.List.{flat_map, range_with_len, slice_index_or}
use Rattle.byteorder.specs.Endian.{little_bytes}
use Rattle.vring_layout.specs.declared.words.RingWords.{RingWords}
use Rattle.vring_layout.specs.declared.words.UsedWord.{UsedWord}
use Rattle.vring_layout.specs.Sizes.{available_end, used_start}
use Rattle.vring_layout.specs.Rings.{available_ring, descriptor_bytes, descriptor_table, ring_layout, used_entry_bytes, used_ring}
use Rattle.field_laws.specs.Fields.{AreBytes}
use Rattle.field_laws.proofs.Bytes.{both_bytes, each_bytes, number_bytes, zero_bytes}

descriptor_are : (addr : ℕ) (device_writes : Bool) → AreBytes (descriptor_bytes addr device_writes)
descriptor_are addr device_writes =
    both_bytes (little_bytes 8 addr ++ little_bytes 4 512 ++ little_bytes 2 (cond device_writes 2 0)) (little_bytes 2 0)
    (both_bytes (little_bytes 8 addr ++ little_bytes 4 512) (little_bytes 2 (cond device_writes 2 0)) (both_bytes (little_bytes 8 addr) (little_bytes 4 512) (number_bytes 8 addr) (number_bytes 4 512))
    (number_bytes 2 (cond device_writes 2 0))) (number_bytes 2 0)

table_are : (words : RingWords) → AreBytes (descriptor_table words)
table_are words =
    both_bytes (flat_map (λ i. descriptor_bytes (words.base + 512 * i) words.device_writes) (range_with_len 0 words.capacity)) (replicate (16 * (words.num - words.capacity)) 0)
    (each_bytes (λ i. descriptor_bytes (words.base + 512 * i) words.device_writes) (range_with_len 0 words.capacity) (λ at other within. descriptor_are _ words.device_writes)) (zero_bytes (16 * (words.num - words.capacity)))

available_are : (words : RingWords) → AreBytes (available_ring words)
available_are words =
    both_bytes (little_bytes 2 0 ++ little_bytes 2 words.avail_idx ++ flat_map (little_bytes 2) words.avail) (little_bytes 2 0)
    (both_bytes (little_bytes 2 0 ++ little_bytes 2 words.avail_idx) (flat_map (little_bytes 2) words.avail) (both_bytes (little_bytes 2 0) (little_bytes 2 words.avail_idx) (number_bytes 2 0) (number_bytes 2 words.avail_idx))
    (each_bytes (little_bytes 2) words.avail (λ at other within. number_bytes 2 _))) (number_bytes 2 0)

used_entry_are : (entry : UsedWord) → AreBytes (used_entry_bytes entry)
used_entry_are entry = both_bytes (little_bytes 4 entry.id) (little_bytes 4 entry.len) (number_bytes 4 entry.id) (number_bytes 4 entry.len)

used_are : (words : RingWords) → AreBytes (used_ring words)
used_are words =
    both_bytes (little_bytes 2 0 ++ little_bytes 2 words.used_idx ++ flat_map used_entry_bytes words.used) (little_bytes 2 0)
    (both_bytes (little_bytes 2 0 ++ little_bytes 2 words.used_idx) (flat_map used_entry_bytes words.used) (both_bytes (little_bytes 2 0) (little_bytes 2 words.used_idx) (number_bytes 2 0) (number_bytes 2 words.used_idx))
    (each_bytes used_entry_bytes words.used (λ at other within. used_entry_are (slice_index_or words.used at other)))) (number_bytes 2 0)

pub ring_are : (align : ℕ) (words : RingWords) → AreBytes (ring_layout align words)
ring_are align words =
    let gap = replicate (used_start words.num align - available_end words.num) 0 in
    both_bytes (descriptor_table words ++ available_ring words ++ gap) (used_ring words)
    (both_bytes (descriptor_table words ++ available_ring words) gap (both_bytes (descriptor_table words) (available_ring words) (table_are words) (available_are words))
    (zero_bytes (used_start words.num align - available_end words.num))) (used_are words)
