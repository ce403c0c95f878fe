-- The buffers of the rings of a sound placement end within the addresses.
use Rattle.std.proofs.Common.{◌≡◌, ℕ, ◌+◌, ◌*◌, ◌^◌, ◌≤◌, Bool, true, cond, List, [], ◌∷◌, drop, Option, Some, IfSome, Ok, inl, inr, refl, ap, sym, ◌∙◌, arith, eqb, add-one, subst}
use Rattle.std.specs.Prelude.{slice_get}
use Rattle.std.specs.List.{All, find}
use Rattle.std.specs.Int.RustNames.{bit_and}
use Rattle.std.proofs.lemmas.Bool.{cases_Bool, cond_both, eqb-true}
use Rattle.std.proofs.lemmas.List.Elements.{All-head, All-tail}
use Rattle.rp_base.specs.Limits.{ring_capacity}
use Rattle.resource_table.specs.declared.entries.Entry.{Entry}
use Rattle.resource_table.specs.declared.entries.Entry.TheVariants as entry
use Rattle.resource_table.specs.declared.entries.Ring.{Ring}
use Rattle.resource_table.specs.declared.entries.Vdev.{Vdev}
use Rattle.resource_table.specs.declared.fixes.Fix.{Fix}
use Rattle.resource_table.specs.PatchedEntries.{fixed_entry, patched_entries, patched_from, placed_ring, ring_with, set_up, with_fix}
use Rattle.memory_pool.specs.Placements.{placement}
use Rattle.memory_pool.specs.Soundness.{IsRange, SoundPlacement}
use Rattle.memory_pool.specs.declared.blocks.Block.{Block}
use Rattle.memory_pool.specs.declared.blocks.Use.{Use}
use Rattle.memory_pool.specs.declared.blocks.Use.TheVariants as usage
use Rattle.memory_pool.specs.declared.regions.Region.{Region}
use Rattle.memory_pool.proofs.Meant.{OfUses, buffers_len, get_of_drop, placement_uses}
use Rattle.memory_pool.proofs.Sound.{option_cases}
use Rattle.fw_load.specs.Rings.{HasBuffers, buffers_at, is_buffers, pair_from, pair_of}
use Rattle.fw_load.specs.declared.rings.RingPair.{RingPair}

-- so many bytes are those of the buffers of an entry, where it is a device
abbrev IsLenOf : ℕ → Option Entry → Type 0
IsLenOf len (Some (entry.Device device)) = len ≡ buffers_len device
IsLenOf len _ = Unit {0}

-- a block for buffers has as many bytes as its device asks for
abbrev IsFull : List Entry → Use → ℕ → Type 0
IsFull entries (usage.Buffers index) len = IsLenOf len (slice_get entries index)
IsFull entries _ len = Unit {0}

asked : (entries : List Entry) (index : ℕ) (one : Entry) → slice_get entries index ≡ Some one → OfUses (IsFull entries) index one
asked entries index (entry.Carveout da pa len name) is = tt
asked entries index (entry.Devmem da pa len name) is = tt
asked entries index (entry.Trace da len name) is = tt
asked entries index (entry.Device device) is = (λ first. tt, λ second. tt, subst (IsLenOf (buffers_len device)) (sym is) refl)
asked entries index (entry.Skipped type) is = tt

found_is : (P : Block → Type 0) (p : Block → Bool) (blocks : List Block) (block : Block) → All P blocks → find p blocks ≡ Some block → P block × (p block ≡ true)
found_is P p [] block all is = absurd (cc)
found_is P p (first ∷ more) block all is =
    elim (cases_Bool (p first)) [
      | inl here ↦
          let e : Some first ≡ Some block = rw here at is in
          let same : first ≡ block = cc in
          (subst P same (All-head P first more all), ap p (sym same) ∙ here)
      | inr later ↦
          let e : find p more ≡ Some block = rw later at is in
          found_is P p more block (All-tail P first more all) e
    ]

buffers_is : (index : ℕ) (what : Use) → is_buffers index what ≡ true → what ≡ usage.Buffers index
buffers_is index (usage.Carveout other) is = absurd (cc)
buffers_is index (usage.Window other) is = absurd (cc)
buffers_is index (usage.Ring other number) is = absurd (cc)
buffers_is index (usage.Buffers other) is = ap usage.Buffers (eqb-true other index is)

capacity_most : (entries : ℕ) → ring_capacity entries ≤ 256
capacity_most entries = omega arith

-- what is known of a block for buffers
abbrev FullRange : List Entry → Block → Type 0
FullRange entries block = IsFull entries block.what block.len × IsRange block.da block.pa block.len

-- the buffers of a device end within the addresses
base_within : (entries : List Entry) (blocks : List Block) (index : ℕ) (device : Vdev) → All (FullRange entries) blocks → slice_get entries index ≡ Some (entry.Device device)
    → buffers_at index blocks + buffers_len device ≤ 2 ^ 32
base_within entries blocks index device all is =
    elim (option_cases (find (λ block. is_buffers index block.what) blocks)) [
      | inl none ↦ rw none (omega (arith, capacity_most device.first.num, capacity_most device.second.num))
      | inr found ↦
          let block = found.0 in
          let known = found_is (FullRange entries) (λ block. is_buffers index block.what) blocks block all found.1 in
          let what = buffers_is index block.what known.1 in
          let full : IsFull entries (usage.Buffers index) block.len = subst (λ purpose. IsFull entries purpose block.len) what known.0.0 in
          let len : block.len ≡ buffers_len device = subst (IsLenOf block.len) is full in
          rw found.1 (omega (arith, len, known.0.1.device))
    ]

-- a device with the rings of this one, as large as they are
abbrev pub HasSizes : Vdev → Entry → Type 0
HasSizes d (entry.Device e) = (e.id ≡ d.id) × (e.first.num ≡ d.first.num) × (e.second.num ≡ d.second.num)
HasSizes d _ = ⊥

ring_num : (fix : Fix) (n : ℕ) (ring : Ring) → (ring_with fix n ring).num ≡ ring.num
ring_num fix n ring = cond_both (eqb fix.ring n) (placed_ring fix ring) ring (λ (one : Ring). one.num ≡ ring.num) (λ _. refl) (λ _. refl)

fix_keeps : (fix : Fix) (d : Vdev) (one : Entry) → HasSizes d one → HasSizes d (with_fix fix one)
fix_keeps fix d (entry.Carveout da pa len name) has = absurd has
fix_keeps fix d (entry.Devmem da pa len name) has = absurd has
fix_keeps fix d (entry.Trace da len name) has = absurd has
fix_keeps fix d (entry.Device e) has = (has.0, ring_num fix 0 e.first ∙ has.1, ring_num fix 1 e.second ∙ has.2)
fix_keeps fix d (entry.Skipped type) has = absurd has

pub fixed_keeps : (fixes : List Fix) (index : ℕ) (d : Vdev) (one : Entry) → HasSizes d one → HasSizes d (fixed_entry fixes index one)
fixed_keeps [] index d one has = has
fixed_keeps (fix ∷ more) index d one has =
    fixed_keeps more index d (cond (eqb fix.entry index) (with_fix fix one) one) (cond_both (eqb fix.entry index) (with_fix fix one) one (HasSizes d) (λ _. fix_keeps fix d one has) (λ _. has))

pub set_keeps : (d : Vdev) (one : Entry) → HasSizes d one → HasSizes d (set_up one)
set_keeps d (entry.Carveout da pa len name) has = absurd has
set_keeps d (entry.Devmem da pa len name) has = absurd has
set_keeps d (entry.Trace da len name) has = absurd has
set_keeps d (entry.Device e) has =
    cond_both (eqb e.id 7) (record e { guest = bit_and e.features 1; status = 7 }) e (λ (v : Vdev). HasSizes d (entry.Device v)) (λ _. has) (λ _. has)
set_keeps d (entry.Skipped type) has = absurd has

-- the buffers of a device as large as this one, and of those behind it
with_device : (blocks : List Block) (index : ℕ) (d : Vdev) (one : Entry) (rest : List Entry) → HasSizes d one → buffers_at index blocks + buffers_len d ≤ 2 ^ 32
    → IfSome (pair_from blocks (index + 1) rest) HasBuffers → IfSome (pair_from blocks index (one ∷ rest)) HasBuffers
with_device blocks index d (entry.Carveout da pa len name) rest has within later = absurd has
with_device blocks index d (entry.Devmem da pa len name) rest has within later = absurd has
with_device blocks index d (entry.Trace da len name) rest has within later = absurd has
with_device blocks index d (entry.Device e) rest has within later =
    let len : buffers_len d ≡ 512 * (ring_capacity e.first.num + ring_capacity e.second.num) =
    ap (λ n. 512 * (ring_capacity n + ring_capacity d.second.num)) (sym has.1) ∙ ap (λ n. 512 * (ring_capacity e.first.num + ring_capacity n)) (sym has.2) in
    cond_both (eqb e.id 7) (Some (pair_of blocks index e)) (pair_from blocks (index + 1) rest) (λ found. IfSome found HasBuffers)
    (λ _. subst (λ n. buffers_at index blocks + n ≤ 2 ^ 32) len within) (λ _. later)
with_device blocks index d (entry.Skipped type) rest has within later = absurd has

-- an entry that is no device
abbrev pub NoDevice : Entry → Type 0
NoDevice (entry.Device device) = ⊥
NoDevice _ = Unit {0}

with_none : (fix : Fix) (one : Entry) → NoDevice one → NoDevice (with_fix fix one)
with_none fix (entry.Carveout da pa len name) none = tt
with_none fix (entry.Devmem da pa len name) none = tt
with_none fix (entry.Trace da len name) none = tt
with_none fix (entry.Device device) none = absurd none
with_none fix (entry.Skipped kind) none = tt

-- stays one that is no device
pub fixed_none : (fixes : List Fix) (index : ℕ) (one : Entry) → NoDevice one → NoDevice (fixed_entry fixes index one)
fixed_none [] index one none = none
fixed_none (fix ∷ more) index one none =
    fixed_none more index (cond (eqb fix.entry index) (with_fix fix one) one) (cond_both (eqb fix.entry index) (with_fix fix one) one NoDevice (λ _. with_none fix one none) (λ _. none))

-- and has no rings
pub no_pair : (blocks : List Block) (index : ℕ) (one : Entry) (rest : List Entry) → NoDevice one → pair_from blocks index (set_up one ∷ rest) ≡ pair_from blocks (index + 1) rest
no_pair blocks index (entry.Carveout da pa len name) rest none = refl
no_pair blocks index (entry.Devmem da pa len name) rest none = refl
no_pair blocks index (entry.Trace da len name) rest none = refl
no_pair blocks index (entry.Device device) rest none = absurd none
no_pair blocks index (entry.Skipped kind) rest none = refl

module _ (entries : List Entry) (fixes : List Fix) (blocks : List Block) (all : All (FullRange entries) blocks) where
  abbrev Within : ℕ → List Entry → Type 0
  Within index left = IfSome (pair_from blocks index (patched_from fixes index left)) HasBuffers

  next : (index : ℕ) (one : Entry) (more : List Entry) → drop index entries ≡ one ∷ more → drop (index + 1) entries ≡ more
  next index one more is = ap (λ i. drop i entries) (add-one index) ∙ (get_of_drop entries index one more is).1

  skipped : (index : ℕ) (one : Entry) (more : List Entry) → NoDevice one → Within (index + 1) more → Within index (one ∷ more)
  skipped index one more none later =
      subst (λ found. IfSome found HasBuffers) (sym (no_pair blocks index (fixed_entry fixes index one) (patched_from fixes (index + 1) more) (fixed_none fixes index one none))) later

  found_within : (index : ℕ) (left : List Entry) → drop index entries ≡ left → Within index left
  found_within index [] is = tt
  found_within index (entry.Device device ∷ more) is =
      let there = (get_of_drop entries index (entry.Device device) more is).0 in
      let one = entry.Device device in
      with_device blocks index device (set_up (fixed_entry fixes index one)) (patched_from fixes (index + 1) more)
      (set_keeps device (fixed_entry fixes index one) (fixed_keeps fixes index device one (refl, refl, refl)))
      (base_within entries blocks index device all there) (found_within (index + 1) more (next index one more is))
  found_within index (entry.Carveout da pa len name ∷ more) is =
      skipped index (entry.Carveout da pa len name) more tt (found_within (index + 1) more (next index _ more is))
  found_within index (entry.Devmem da pa len name ∷ more) is =
      skipped index (entry.Devmem da pa len name) more tt (found_within (index + 1) more (next index _ more is))
  found_within index (entry.Trace da len name ∷ more) is =
      skipped index (entry.Trace da len name) more tt (found_within (index + 1) more (next index _ more is))
  found_within index (entry.Skipped type ∷ more) is =
      skipped index (entry.Skipped type) more tt (found_within (index + 1) more (next index _ more is))

-- the buffers of the rings of a sound placement end within the addresses
pub pair_buffers : (regions : List Region) (entries : List Entry) (fixes : List Fix) (blocks : List Block) (rings : Option RingPair) → placement regions entries ≡ Ok blocks → SoundPlacement regions blocks
    → rings ≡ pair_from blocks 0 (patched_entries fixes entries) → IfSome rings HasBuffers
pair_buffers regions entries fixes blocks rings is sound are =
    let full = placement_uses (IsFull entries) regions entries blocks (asked entries) is in
    rw are (found_within entries fixes blocks (λ k d less. (full k d less, sound.ranges k d less)) 0 entries refl)
