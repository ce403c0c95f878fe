-- What sound entries ask for is sound.
use Rattle.std.proofs.Common.{◌≡◌, ℕ, ◌+◌, ◌*◌, ◌≤◌, true, false, not, List, [], ◌∷◌, refl, arith, lit≤, eqb, ltb}
use Rattle.std.specs.Prelude.{◌&&◌, nat_le}
use Rattle.std.specs.List.{All, filter}
use Rattle.std.specs.Int.{is_power_of_two}
use Rattle.std.specs.Int.RustNames.{count_ones}
use Rattle.std.proofs.lemmas.Nat.{ones_le_self}
use Rattle.rp_base.specs.declared.limits.TheConstants.{MESSAGE_MOST, RING_MOST}
use Rattle.std.proofs.lemmas.Bool.{cond_both, eqb-true, eqb-false, ltb-true, leb-true, and_parts}
use Rattle.std.proofs.lemmas.List.Elements.{All-nil, All-cons, All-head, All-tail, All-append, All-filter}
use Rattle.rp_base.specs.Limits.{is_ring_size, ring_capacity}
use Rattle.vring_layout.specs.Sizes.{ring_size}
use Rattle.resource_table.specs.declared.entries.Ring.{Ring}
use Rattle.resource_table.specs.declared.entries.Vdev.{Vdev}
use Rattle.resource_table.specs.declared.entries.Entry.{Entry}
use Rattle.resource_table.specs.declared.entries.Entry.TheVariants as entry
use Rattle.resource_table.specs.Tables.{IsSoundEntry, IsSoundDevice, IsSoundRing, is_ring_align}
use Rattle.memory_pool.specs.Wanted.{memory_wanted, ring_wanted, rings_wanted, buffers_wanted, wanted_by, wanted_from, in_order, is_anywhere}
use Rattle.memory_pool.specs.Places.{is_window_use}
use Rattle.memory_pool.specs.OrderedBlocks.{IsSoundWanted}
use Rattle.memory_pool.specs.declared.blocks.Use.{Use}
use Rattle.memory_pool.specs.declared.blocks.Use.TheVariants as usage
use Rattle.memory_pool.specs.declared.wanted.Wanted.{Wanted}
use Rattle.memory_pool.specs.declared.wanted.Wanted.TheVariants as wanted

memory_sound : (purpose : Use) (da len align : ℕ) → 1 ≤ len → 1 ≤ align → is_window_use purpose ≡ false → IsSoundWanted (memory_wanted purpose da len align)
memory_sound purpose da len align some aligned memory =
    cond_both (eqb da 0xffffffff) (wanted.Any purpose len align) (wanted.Given purpose da len) IsSoundWanted
    (λ e. (some, aligned, memory)) (λ e. (some, memory))

one_sound : (one : Wanted) → IsSoundWanted one → All IsSoundWanted (one ∷ [])
one_sound one sound = All-cons IsSoundWanted one [] sound (All-nil IsSoundWanted)

align_some : (align : ℕ) → is_ring_align align ≡ true → 1 ≤ align
align_some align sound =
    let outer = and_parts (is_power_of_two align && nat_le 4 align) (nat_le align 65536) sound in
    let inner = and_parts (is_power_of_two align) (nat_le 4 align) outer.0 in
    omega (arith, leb-true 4 align inner.1)

ring_sound : (index number : ℕ) (ring : Ring) → IsSoundRing ring → IsSoundWanted (ring_wanted index number ring)
ring_sound index number ring sound =
    memory_sound (usage.Ring index number) ring.da (ring_size ring.num ring.align) ring.align (omega arith) (align_some ring.align sound.align) refl

-- a ring that may have entries has one
ring_some : (num : ℕ) → is_ring_size num ≡ true → 1 ≤ ring_capacity num
ring_some num sound =
    let parts = and_parts (is_power_of_two num) (nat_le num RING_MOST) sound in
    omega (arith, eqb-true (count_ones num) 1 parts.0, ones_le_self num)

rings_sound : (index : ℕ) (device : Vdev) → IsSoundDevice device → All IsSoundWanted (rings_wanted index device)
rings_sound index device sound =
    All-append IsSoundWanted _ _
    (cond_both (ltb 0 device.count) (ring_wanted index 0 device.first ∷ []) [] (All IsSoundWanted)
    (λ e. one_sound (ring_wanted index 0 device.first) (ring_sound index 0 device.first (sound.first (ltb-true 0 device.count e))))
    (λ e. All-nil IsSoundWanted))
    (cond_both (ltb 1 device.count) (ring_wanted index 1 device.second ∷ []) [] (All IsSoundWanted)
    (λ e. one_sound (ring_wanted index 1 device.second) (ring_sound index 1 device.second (sound.second (ltb-true 1 device.count e))))
    (λ e. All-nil IsSoundWanted))

buffers_sound : (index : ℕ) (device : Vdev) → IsSoundDevice device → All IsSoundWanted (buffers_wanted index device)
buffers_sound index device sound =
    let len = MESSAGE_MOST * (ring_capacity device.first.num + ring_capacity device.second.num) in
    cond_both (eqb device.id 7) (wanted.Any (usage.Buffers index) len 4096 ∷ []) [] (All IsSoundWanted)
    (λ e.
    let two = sound.rpmsg (eqb-true device.id 7 e) in
    let first = ring_some device.first.num (sound.first (omega arith)).size in
    let some : 1 ≤ len = omega arith in
    one_sound (wanted.Any (usage.Buffers index) len 4096) (some, lit≤ tt, refl))
    (λ e. All-nil IsSoundWanted)

pub entry_sound : (index : ℕ) (one : Entry) → IsSoundEntry one → All IsSoundWanted (wanted_by index one)
entry_sound index (entry.Carveout da pa len name) sound =
    cond_both (eqb len 0) [] (memory_wanted (usage.Carveout index) da len 4096 ∷ []) (All IsSoundWanted)
    (λ e. All-nil IsSoundWanted)
    (λ e.
    let some : 1 ≤ len = omega (arith, eqb-false len 0 e) in
    one_sound (memory_wanted (usage.Carveout index) da len 4096) (memory_sound (usage.Carveout index) da len 4096 some (lit≤ tt) refl))
entry_sound index (entry.Devmem da pa len name) sound =
    cond_both (eqb len 0) [] (wanted.Window index da pa len ∷ []) (All IsSoundWanted)
    (λ e. All-nil IsSoundWanted)
    (λ e.
    let some : 1 ≤ len = omega (arith, eqb-false len 0 e) in
    one_sound (wanted.Window index da pa len) some)
entry_sound index (entry.Trace da len name) sound = All-nil IsSoundWanted
entry_sound index (entry.Device device) sound =
    All-append IsSoundWanted (rings_wanted index device) (buffers_wanted index device) (rings_sound index device sound) (buffers_sound index device sound)
entry_sound index (entry.Skipped type) sound = All-nil IsSoundWanted

-- what sound entries ask for is sound
pub wanted_sound : (index : ℕ) (entries : List Entry) → All IsSoundEntry entries → All IsSoundWanted (wanted_from index entries)
wanted_sound index [] sound = All-nil IsSoundWanted
wanted_sound index (one ∷ more) sound =
    All-append IsSoundWanted (wanted_by index one) (wanted_from (index + 1) more)
    (entry_sound index one (All-head IsSoundEntry one more sound))
    (wanted_sound (index + 1) more (All-tail IsSoundEntry one more sound))

-- the order of what is wanted keeps it sound
pub order_sound : (all : List Wanted) → All IsSoundWanted all → All IsSoundWanted (in_order all)
order_sound all sound =
    All-append IsSoundWanted (filter (λ one. not (is_anywhere one)) all) (filter is_anywhere all)
    (All-filter (λ one. not (is_anywhere one)) IsSoundWanted all sound) (All-filter is_anywhere IsSoundWanted all sound)
