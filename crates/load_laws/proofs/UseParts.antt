-- Each ring of a device for RPMsg, and its buffers, have one block of a placement.
use Rattle.std.proofs.Common.{◌≡◌, ℕ, ◌+◌, ◌&&◌, Bool, true, false, List, Some, Ok, refl, ◌∙◌, arith, eqb, ltb}
use Rattle.std.specs.Prelude.{slice_get}
use Rattle.std.proofs.lemmas.Bool.{cond_both, eq-eqb, lt-ltb, ne_eqb}
use Rattle.resource_table.specs.declared.entries.Entry.{Entry}
use Rattle.resource_table.specs.declared.entries.Entry.TheVariants as entry
use Rattle.resource_table.specs.declared.entries.Vdev.{Vdev}
use Rattle.memory_pool.specs.Placements.{placement}
use Rattle.memory_pool.specs.declared.blocks.Block.{Block}
use Rattle.memory_pool.specs.declared.blocks.Use.{Use}
use Rattle.memory_pool.specs.declared.blocks.Use.TheVariants as usage
use Rattle.memory_pool.specs.declared.regions.Region.{Region}
use Rattle.memory_pool.proofs.UseCounts.{Misses, blocks_for, device_uses}
use Rattle.fw_load.specs.Rings.{is_buffers}

-- whether a block is for the ring of a number of an entry
abbrev pub is_ring : ℕ → ℕ → Use → Bool
is_ring index number (usage.Ring entry ring) = (eqb entry index) && (eqb ring number)
is_ring index number _ = false

-- ---- the uses of a device for RPMsg

ring_misses : (at number : ℕ) (j : ℕ) → (j ≡ at → ⊥) → Misses (is_ring at number) j
ring_misses at number j differs = let e = ne_eqb j at differs in record { carveout = refl; window = refl; first = rw e refl; second = rw e refl; buffers = refl }

buffers_miss : (at : ℕ) (j : ℕ) → (j ≡ at → ⊥) → Misses (is_buffers at) j
buffers_miss at j differs = record { carveout = refl; window = refl; first = refl; second = refl; buffers = ne_eqb j at differs }

module _ (regions : List Region) (entries : List Entry) (blocks : List Block) (is : placement regions entries ≡ Ok blocks) (at : ℕ) (device : Vdev) (there : slice_get entries at ≡ Some (entry.Device device)) (rpmsg : device.id ≡ 7) (two : device.count ≡ 2) where
  self : eqb at at ≡ true
  self = eq-eqb at at refl

  both_there : (ltb 0 device.count ≡ true) × (ltb 1 device.count ≡ true)
  both_there = (lt-ltb 0 device.count (omega (arith, two)), lt-ltb 1 device.count (omega (arith, two)))

  -- its ring 0 has one block
  pub one_first : blocks_for (is_ring at 0) blocks ≡ 1
  one_first =
      let p = is_ring at 0 in
      let own : (p (usage.Ring at 0) ≡ true) × (p (usage.Ring at 1) ≡ false) = (rw self refl, rw self refl) in
      device_uses p regions entries blocks at device is there (ring_misses at 0) ∙ rw (both_there.0, both_there.1, own.0, own.1) (cond_both (eqb device.id 7) 0 0 (λ n. 1 + 0 + n ≡ 1) (λ _. refl) (λ _. refl))

  -- and so has its ring 1
  pub one_second : blocks_for (is_ring at 1) blocks ≡ 1
  one_second =
      let p = is_ring at 1 in
      let own : (p (usage.Ring at 0) ≡ false) × (p (usage.Ring at 1) ≡ true) = (rw self refl, rw self refl) in
      device_uses p regions entries blocks at device is there (ring_misses at 1) ∙ rw (both_there.0, both_there.1, own.0, own.1) (cond_both (eqb device.id 7) 0 0 (λ n. 0 + 1 + n ≡ 1) (λ _. refl) (λ _. refl))

  -- and so have its buffers
  pub one_buffers : blocks_for (is_buffers at) blocks ≡ 1
  one_buffers =
      let p = is_buffers at in
      let seven = eq-eqb device.id 7 rpmsg in
      device_uses p regions entries blocks at device is there (buffers_miss at) ∙ rw (both_there.0, both_there.1, seven, self) refl
