-- What the blocks of a placement write into a table fits its fields, so the patched table is a good one.
use Rattle.std.proofs.Common.{◌≡◌, ℕ, zero, suc, ◌+◌, ◌*◌, ◌<◌, ◌≤◌, true, false, List, [], ◌∷◌, length, take, Option, Some, None, Ok, inl, inr, refl, subst, arith, IsTrue}
use Rattle.std.specs.Prelude.{slice_get}
use Rattle.std.specs.List.{All, sum_by}
use Rattle.std.proofs.lemmas.List.Elements.{All-cons, All-head, All-nil, All-tail}
use Rattle.std.proofs.lemmas.List.Sums.{sum_by-cons}
use Rattle.std.proofs.lemmas.Option.{slice_get_within, get_or_from_slice_get}
use Rattle.resource_table.specs.Entries.{entries_of}
use Rattle.resource_table.specs.Tables.{GoodTable, IsSoundEntry}
use Rattle.resource_table.specs.Patches.{is_fix_of, patched_of}
use Rattle.resource_table.specs.PatchedEntries.{IsSmallFix, patched_entries}
use Rattle.resource_table.specs.declared.entries.Entry.{Entry}
use Rattle.resource_table.specs.declared.entries.Entry.TheVariants as entry
use Rattle.resource_table.specs.declared.fixes.Fix.{Fix}
use Rattle.resource_table.proofs.PatchedTables.{patched_good, patched_reads}
use Rattle.resource_table.proofs.Sound.{length-entries_of, sound_table}
use Rattle.memory_pool.specs.Placements.{placement}
use Rattle.memory_pool.specs.Soundness.{IsRange, SoundPlacement}
use Rattle.memory_pool.specs.declared.blocks.Block.{Block}
use Rattle.memory_pool.specs.declared.blocks.Use.{Use}
use Rattle.memory_pool.specs.declared.blocks.Use.TheVariants as usage
use Rattle.memory_pool.specs.declared.regions.Region.{Region}
use Rattle.memory_pool.proofs.Sound.{option_cases}
use Rattle.fw_load.specs.Tables.{fix_for, fixes_of, rings_before, rings_of}
use Rattle.fw_load.specs.Uses.{HasRing, IsUseOf}
use Rattle.fw_load.proofs.Fitting.{fixes_fit}
use Rattle.fw_load.proofs.Meant.{placement_meant}
use Rattle.load_laws.proofs.LoadParts.{entries_sound}

rings_few : (one : Entry) → IsSoundEntry one → rings_of one ≤ 2
rings_few (entry.Carveout da pa len name) sound = omega arith
rings_few (entry.Devmem da pa len name) sound = omega arith
rings_few (entry.Trace da len name) sound = omega arith
rings_few (entry.Device device) sound = sound.count
rings_few (entry.Skipped kind) sound = omega arith

before_few : (entries : List Entry) (n : ℕ) → All IsSoundEntry entries → sum_by rings_of (take n entries) ≤ 2 * length entries
before_few entries zero sound = omega arith
before_few [] (suc n) sound = omega arith
before_few (one ∷ more) (suc n) sound =
    omega (arith, sum_by-cons rings_of one (take n more), rings_few one (All-head IsSoundEntry one more sound), before_few more n (All-tail IsSoundEntry one more sound))

ring_low : (found : Option Entry) (number : ℕ) → HasRing number found → ((one : Entry) → found ≡ Some one → IsSoundEntry one) → number < 2
ring_low None number has sound = absurd has
ring_low (Some (entry.Carveout da pa len name)) number has sound = absurd has
ring_low (Some (entry.Devmem da pa len name)) number has sound = absurd has
ring_low (Some (entry.Trace da len name)) number has sound = absurd has
ring_low (Some (entry.Device device)) number has sound = let known = (sound (entry.Device device) refl).count in omega (arith, has, known)
ring_low (Some (entry.Skipped kind)) number has sound = absurd has

module _ (entries : List Entry) (sound : All IsSoundEntry entries) (few : length entries ≤ 256) where
  pub there_sound : (index : ℕ) (one : Entry) → slice_get entries index ≡ Some one → IsSoundEntry one
  there_sound index one is = subst IsSoundEntry (get_or_from_slice_get entries index one one is) (sound index one (slice_get_within entries index one is))

  small_fix : (purpose : Use) (da pa len : ℕ) (fix : Fix) → IsUseOf entries purpose → IsRange da pa len → fix_for (rings_before entries) purpose da pa ≡ Some fix → IsSmallFix fix
  small_fix (usage.Carveout index) da pa len fix meant range is =
      let made : Fix = record { entry = index; rings = false; ring = 0; da = da; pa = pa; notify = 0 } in
      let same : made ≡ fix = cc in
      subst IsSmallFix same (record { da = omega (arith, range.some, range.device); pa = omega (arith, range.some, range.physical); notify = omega arith })
  small_fix (usage.Ring index number) da pa len fix meant range is =
      let made : Fix = record { entry = index; rings = true; ring = number; da = da; pa = pa; notify = rings_before entries index + number } in
      let same : made ≡ fix = cc in
      let low = ring_low (slice_get entries index) number meant (there_sound index) in
      let before = before_few entries index sound in
      subst IsSmallFix same (record { da = omega (arith, range.some, range.device); pa = omega (arith, range.some, range.physical); notify = omega (arith, low, before, few) })
  small_fix (usage.Window index) da pa len fix meant range is = absurd (cc)
  small_fix (usage.Buffers index) da pa len fix meant range is = absurd (cc)

  pub small_fixes : (blocks : List Block) → All (λ block. IsUseOf entries block.what) blocks → All (λ block. IsRange block.da block.pa block.len) blocks → All IsSmallFix (fixes_of entries blocks)
  small_fixes [] meant ranges = All-nil IsSmallFix
  small_fixes (block ∷ more) meant ranges =
      let U = λ (block : Block). IsUseOf entries block.what in
      let R = λ (block : Block). IsRange block.da block.pa block.len in
      let later = small_fixes more (All-tail U block more meant) (All-tail R block more ranges) in
      elim (option_cases (fix_for (rings_before entries) block.what block.da block.pa)) [
        | inl none ↦ rw none later
        | inr one ↦
            rw one.1 (All-cons IsSmallFix one.0 (fixes_of entries more)
            (small_fix block.what block.da block.pa block.len one.0 (All-head U block more meant) (All-head R block more ranges) one.1) later)
      ]

-- the table of a placement, patched
module _ (table : List ℕ) (good : GoodTable table) (regions : List Region) (placed : List Block) (is : placement regions (entries_of table) ≡ Ok placed) (held : SoundPlacement regions placed) where
  pub few_entries : length (entries_of table) ≤ 256
  few_entries = let count = (sound_table table good).header.count in omega (arith, length-entries_of table, count)

  small : All IsSmallFix (fixes_of (entries_of table) placed)
  small = small_fixes (entries_of table) (entries_sound table good) few_entries placed (placement_meant regions (entries_of table) placed is) held.ranges

  named : All (λ fix. IsTrue (is_fix_of (entries_of table) fix)) (fixes_of (entries_of table) placed)
  named = fixes_fit (entries_of table) placed (placement_meant regions (entries_of table) placed is)

  pub placed_good : GoodTable (patched_of table (fixes_of (entries_of table) placed))
  placed_good = patched_good table good (fixes_of (entries_of table) placed) named small

  pub placed_reads : entries_of (patched_of table (fixes_of (entries_of table) placed)) ≡ patched_entries (fixes_of (entries_of table) placed) (entries_of table)
  placed_reads = patched_reads table good (fixes_of (entries_of table) placed) named small
