-- The entries of a resource table that is bytes have their numbers and names within their types.
use Rattle.std.proofs.Common.{ℕ, ◌+◌, ◌<◌, ◌^◌, ◌==◌, List, length, take, drop, arith}
use Rattle.std.specs.Prelude.{All, nat_lt}
use Rattle.std.specs.List.{range_with_len, slice_index_or}
use Rattle.std.proofs.lemmas.Bool.{cond_both}
use Rattle.std.proofs.lemmas.List.Elements.{All-map}
use Rattle.std.proofs.lemmas.List.FromFn.{length-map-range_with_len}
use Rattle.rp_base.specs.Fields.{number_at}
use Rattle.resource_table.specs.Entries.{device_at, entries_of, entry_at, entry_count, entry_of_type, name_at, no_ring, ring_count, ring_of, start_of, vring_at, vring_start}
use Rattle.resource_table.specs.Layout.{field, fw_rsc_hdr}
use Rattle.field_laws.specs.Fields.{AreBytes, IsChannelName}
use Rattle.field_laws.specs.FieldTables.{IsFieldDevice, IsFieldEntry, IsFieldRing}
use Rattle.field_laws.proofs.Bytes.{dropped_bytes, name_short, number_small, taken_bytes, text_bytes, word_small}

wide : (number : ℕ) → number < 2 ^ 32 → number < 2 ^ 64
wide number small = omega (arith, small)

byte_small : (at : ℕ) (bytes : List ℕ) → AreBytes bytes → number_at 1 at bytes < 2 ^ 64
byte_small at bytes are = let small = number_small 1 at bytes are in omega (arith, small)

named_fields : (place : ℕ) (bytes : List ℕ) → AreBytes bytes → IsChannelName (name_at place bytes)
named_fields place bytes are = (name_short (drop place bytes), text_bytes (take 31 (drop place bytes)) (taken_bytes 31 (drop place bytes) (dropped_bytes place bytes are)))

vring_fields : (bytes : List ℕ) (start : ℕ) → AreBytes bytes → IsFieldRing (vring_at bytes start)
unfolding vring_at
vring_fields bytes start are = record {
  da = word_small (start + 0) bytes are;
  align = wide _ (word_small (start + 4) bytes are);
  num = wide _ (word_small (start + 8) bytes are);
  notify = wide _ (word_small (start + 12) bytes are);
}

no_ring_fields : IsFieldRing no_ring
no_ring_fields = record { da = omega arith; align = omega arith; num = omega arith; notify = omega arith }

ring_fields : (bytes : List ℕ) (start ring : ℕ) → AreBytes bytes → IsFieldRing (ring_of bytes start ring)
ring_fields bytes start ring are =
    cond_both (nat_lt ring (ring_count bytes start)) (vring_at bytes (vring_start start ring)) no_ring IsFieldRing (λ _. vring_fields bytes (vring_start start ring) are) (λ _. no_ring_fields)

device_fields : (bytes : List ℕ) (start : ℕ) → AreBytes bytes → IsFieldDevice (device_at bytes start)
unfolding device_at
device_fields bytes start are = record {
  id = wide _ (word_small (start + 4) bytes are);
  guest = wide _ (word_small (start + 16) bytes are);
  status = byte_small (start + 24) bytes are;
  first = ring_fields bytes start 0 are;
  second = ring_fields bytes start 1 are;
}

at_fields : (bytes : List ℕ) (start : ℕ) → AreBytes bytes → IsFieldEntry (entry_at bytes start)
at_fields bytes start are =
    let number = field fw_rsc_hdr.type start bytes in
    cond_both (number == 0) _ _ (λ kind. IsFieldEntry (entry_of_type kind bytes start)) (λ _. (word_small (start + 4) bytes are, word_small (start + 8) bytes are, word_small (start + 12) bytes are, named_fields (start + 24) bytes are))
    (λ _. cond_both (number == 1) _ _ (λ kind. IsFieldEntry (entry_of_type kind bytes start)) (λ _. (word_small (start + 4) bytes are, word_small (start + 8) bytes are, word_small (start + 12) bytes are, named_fields (start + 24) bytes are))
    (λ _. cond_both (number == 2) _ _ (λ kind. IsFieldEntry (entry_of_type kind bytes start)) (λ _. (word_small (start + 4) bytes are, word_small (start + 8) bytes are, named_fields (start + 16) bytes are))
    (λ _. cond_both (number == 3) _ _ (λ kind. IsFieldEntry (entry_of_type kind bytes start)) (λ _. device_fields bytes start are) (λ _. wide _ (word_small (start + 0) bytes are)))))

pub entries_fields : (bytes : List ℕ) → AreBytes bytes → All IsFieldEntry (entries_of bytes)
entries_fields bytes are =
    All-map IsFieldEntry (λ index. entry_at bytes (start_of bytes index)) (range_with_len 0 (entry_count bytes)) (λ at other within. at_fields bytes (start_of bytes (slice_index_or (range_with_len 0 (entry_count bytes)) at other)) are)

pub entries_few : (bytes : List ℕ) → AreBytes bytes → length (entries_of bytes) < 2 ^ 32
entries_few bytes are =
    let len = length-map-range_with_len (λ index. entry_at bytes (start_of bytes index)) 0 (entry_count bytes) in
    let few = word_small 4 bytes are in
    omega (arith, len, few)
