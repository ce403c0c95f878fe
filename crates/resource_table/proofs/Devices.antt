-- The devices of a good table.
use Rattle.std.proofs.Common.{◌≡◌, ℕ, ◌<◌, ◌&&◌, Bool, true, false, List, length, refl, sym, subst, arith, None, nat_lt}
use Rattle.std.proofs.lemmas.Bool.{ltb-false, lt-ltb, eqb-true, eq-eqb, not-false, false≢true}
use Rattle.resource_table.specs.Entries.{entry_count, entries_of, entry_at, start_of, type_at, ring_count, ring_of, vring_start, vring_at, device_at, entry_of_type}
use Rattle.resource_table.specs.Tables.{varying_fault, device_fault, rings_fault, ring_fault, ring_fault_at, GoodTable, IsSoundRing, IsSoundDevice, IsSoundEntry}
use Rattle.resource_table.specs.declared.kinds.ResourceType.{ResourceType}
use Rattle.resource_table.specs.declared.kinds.ResourceType.TheVariants as type
use Rattle.resource_table.specs.declared.entries.Ring.{Ring}
use Rattle.resource_table.proofs.Ranges.{neither, none_in_range}
use Rattle.resource_table.proofs.Sound.{passes, both_false, sound_table, length-entries_of}

sound_ring : (index : ℕ) (ring : Ring) → ring_fault index ring ≡ None → IsSoundRing ring
sound_ring index ring e =
    let size = neither _ _ e in
    let align = neither _ _ size.1 in
    record { size = not-false _ (passes _ _ size.0); align = not-false _ (passes _ _ align.0) }

-- of two tests that are not both true, the second fails where the first passes
second_false : (a b : Bool) → (a && b) ≡ false → a ≡ true → b ≡ false
second_false true b e is = e
second_false false b e is = absurd (false≢true is)

-- a ring that a device has
pub ring_there : (bytes : List ℕ) (start ring : ℕ) → ring < ring_count bytes start → ring_of bytes start ring ≡ vring_at bytes (vring_start start ring)
ring_there bytes start ring below = let e : nat_lt ring (ring_count bytes start) ≡ true = lt-ltb _ _ below in rw e refl

sound_ring_at : (bytes : List ℕ) (index start ring : ℕ) → rings_fault bytes index start ≡ None → ring < ring_count bytes start → IsSoundRing (ring_of bytes start ring)
sound_ring_at bytes index start ring e below =
    let sound = sound_ring index (vring_at bytes (vring_start start ring)) (none_in_range (ring_fault_at bytes index start) 0 (ring_count bytes start) ring ring e below (omega arith)) in
    subst IsSoundRing (sym (ring_there bytes start ring below)) sound

sound_device : (bytes : List ℕ) (index start : ℕ) → device_fault bytes index start ≡ None → IsSoundDevice (device_at bytes start)
unfolding device_at
sound_device bytes index start e =
    let counts = neither _ _ e in
    let rings = (neither _ _ (neither _ _ counts.1).1).0 in
    let count = both_false _ _ (passes _ _ counts.0) in
    record {
      count = ltb-false _ _ count.0;
      rpmsg = λ is. eqb-true _ _ (not-false _ (second_false _ _ count.1 (eq-eqb _ _ is)));
      first = λ below. sound_ring_at bytes index start 0 rings below;
      second = λ below. sound_ring_at bytes index start 1 rings below;
    }

-- the entry of a type that has passed its tests
pub sound_of_type : (kind : ResourceType) (bytes : List ℕ) (index start : ℕ) → varying_fault kind bytes index start ≡ None → IsSoundEntry (entry_of_type kind bytes start)
sound_of_type type.Carveout bytes index start e = tt
sound_of_type type.Devmem bytes index start e = tt
sound_of_type type.Trace bytes index start e = tt
sound_of_type type.Vdev bytes index start e = sound_device bytes index start e
sound_of_type type.Other bytes index start e = tt

-- the entries of a good table have passed their tests
pub sound_entry : (bytes : List ℕ) (index : ℕ) → GoodTable bytes → index < length (entries_of bytes) → IsSoundEntry (entry_at bytes (start_of bytes index))
sound_entry bytes index good below =
    let start = start_of bytes index in
    let among : index < entry_count bytes = subst (λ n. index < n) (length-entries_of bytes) below in
    let varying = (neither _ _ (neither _ _ (neither _ _ ((sound_table bytes good).form index among)).1).1).0 in
    sound_of_type (type_at bytes start) bytes index start varying
