-- What is written for the blocks of a placement may be written.
use Rattle.std.proofs.Common.{◌≡◌, ℕ, ◌+◌, true, false, List, [], ◌∷◌, Option, Some, None, inl, inr, refl}
use Rattle.std.specs.Prelude.{slice_get}
use Rattle.std.specs.List.{All}
use Rattle.std.proofs.lemmas.Bool.{lt-ltb}
use Rattle.std.proofs.lemmas.List.Elements.{All-nil, All-cons, All-head, All-tail}
use Rattle.resource_table.specs.Patches.{is_fix_of, is_taken}
use Rattle.resource_table.specs.declared.entries.Entry.{Entry}
use Rattle.resource_table.specs.declared.entries.Entry.TheVariants as entry
use Rattle.resource_table.specs.declared.fixes.Fix.{Fix}
use Rattle.memory_pool.specs.declared.blocks.Block.{Block}
use Rattle.memory_pool.specs.declared.blocks.Use.{Use}
use Rattle.memory_pool.specs.declared.blocks.Use.TheVariants as usage
use Rattle.memory_pool.proofs.Sound.{option_cases}
use Rattle.fw_load.specs.Tables.{fix_for, fixes_of, rings_before}
use Rattle.fw_load.specs.Uses.{HasRing, IsCarveout, IsUseOf}

carveout_taken : (found : Option Entry) (fix : Fix) → fix.rings ≡ false → IsCarveout found → is_taken fix found ≡ true
carveout_taken None fix never is = absurd is
carveout_taken (Some (entry.Carveout da pa len name)) fix never is = rw never refl
carveout_taken (Some (entry.Devmem da pa len name)) fix never is = absurd is
carveout_taken (Some (entry.Trace da len name)) fix never is = absurd is
carveout_taken (Some (entry.Device device)) fix never is = absurd is
carveout_taken (Some (entry.Skipped type)) fix never is = absurd is

ring_taken : (found : Option Entry) (fix : Fix) → fix.rings ≡ true → HasRing fix.ring found → is_taken fix found ≡ true
ring_taken None fix always has = absurd has
ring_taken (Some (entry.Carveout da pa len name)) fix always has = absurd has
ring_taken (Some (entry.Devmem da pa len name)) fix always has = absurd has
ring_taken (Some (entry.Trace da len name)) fix always has = absurd has
ring_taken (Some (entry.Device device)) fix always has = let e = lt-ltb fix.ring device.count has in rw (always, e) refl
ring_taken (Some (entry.Skipped type)) fix always has = absurd has

fix_fits : (entries : List Entry) (purpose : Use) (da pa : ℕ) (fix : Fix) → IsUseOf entries purpose → fix_for (rings_before entries) purpose da pa ≡ Some fix → is_fix_of entries fix ≡ true
fix_fits entries (usage.Carveout index) da pa fix meant is =
    let made : Fix = record { entry = index; rings = false; ring = 0; da = da; pa = pa; notify = 0 } in
    let same : made ≡ fix = cc in
    rw (← same) (carveout_taken (slice_get entries index) made refl meant)
fix_fits entries (usage.Ring index number) da pa fix meant is =
    let made : Fix = record { entry = index; rings = true; ring = number; da = da; pa = pa; notify = rings_before entries index + number } in
    let same : made ≡ fix = cc in
    rw (← same) (ring_taken (slice_get entries index) made refl meant)
fix_fits entries (usage.Window index) da pa fix meant is = absurd (cc)
fix_fits entries (usage.Buffers index) da pa fix meant is = absurd (cc)

-- the fixes of blocks that are for entries are fixes of the entries
pub fixes_fit : (entries : List Entry) (blocks : List Block) → All (λ block. IsUseOf entries block.what) blocks → All (λ fix. is_fix_of entries fix ≡ true) (fixes_of entries blocks)
fixes_fit entries [] meant = All-nil (λ fix. is_fix_of entries fix ≡ true)
fixes_fit entries (block ∷ more) meant =
    let later = fixes_fit entries more (All-tail (λ block. IsUseOf entries block.what) block more meant) in
    elim (option_cases (fix_for (rings_before entries) block.what block.da block.pa)) [
      | inl none ↦ rw none later
      | inr one ↦
          rw one.1 (All-cons (λ fix. is_fix_of entries fix ≡ true) one.0 (fixes_of entries more)
          (fix_fits entries block.what block.da block.pa one.0 (All-head (λ block. IsUseOf entries block.what) block more meant) one.1) later)
    ]
