-- The rings of a load and their buffers have blocks.
use Rattle.std.proofs.Common.{◌≡◌, ℕ, ◌+◌, ◌≤◌, ◌&&◌, Bool, true, false, cond, List, [], ◌∷◌, drop, length, Option, Some, None, IfSome, Ok, inl, inr, refl, ap, sym, subst, ◌∙◌, arith, add-one, eqb}
use Rattle.std.specs.Prelude.{slice_get}
use Rattle.std.specs.List.{All, Any, find}
use Rattle.std.specs.Int.RustNames.{bit_and}
use Rattle.std.specs.Option.{option_map, unwrap_or}
use Rattle.std.proofs.lemmas.Bool.{and_parts, cases_Bool, eqb-true, ne_eqb}
use Rattle.std.proofs.lemmas.List.Elements.{All-head, All-tail}
use Rattle.std.proofs.lemmas.List.Sums.{sum_by-cons}
use Rattle.resource_table.specs.Entries.{entries_of}
use Rattle.resource_table.specs.Tables.{IsSoundEntry}
use Rattle.resource_table.specs.PatchedEntries.{fixed_entry, patched_from, placed_ring, ring_with, set_up, with_fix}
use Rattle.resource_table.specs.declared.entries.Entry.{Entry}
use Rattle.resource_table.specs.declared.entries.Entry.TheVariants as entry
use Rattle.resource_table.specs.declared.entries.Ring.{Ring}
use Rattle.resource_table.specs.declared.entries.Vdev.{Vdev}
use Rattle.resource_table.specs.declared.fixes.Fix.{Fix}
use Rattle.memory_pool.specs.Placements.{placement}
use Rattle.memory_pool.specs.Soundness.{SoundRegions}
use Rattle.memory_pool.specs.declared.blocks.Block.{Block}
use Rattle.memory_pool.specs.declared.blocks.Use.{Use}
use Rattle.memory_pool.specs.declared.blocks.Use.TheVariants as usage
use Rattle.memory_pool.specs.declared.regions.Region.{Region}
use Rattle.memory_pool.proofs.Find.{find_is}
use Rattle.memory_pool.proofs.Meant.{get_of_drop}
use Rattle.fw_load.specs.Rings.{is_buffers, pair_from, pair_of}
use Rattle.fw_load.specs.Loading.{IsLoaded, Loads}
use Rattle.fw_load.specs.Tables.{entries_in, fixes_of, patched_in, rings_before, table_of}
use Rattle.fw_load.specs.declared.loading.Loaded.{Loaded}
use Rattle.fw_load.specs.Uses.{IsCarveout, IsUseOf}
use Rattle.fw_load.proofs.Buffers.{NoDevice, fixed_none, no_pair}
use Rattle.fw_load.proofs.Meant.{placement_meant}
use Rattle.load_laws.specs.RingPlaces.{HasBlocks, StandsAt}
use Rattle.load_laws.proofs.LoadParts.{entries_sound, table_good}
use Rattle.load_laws.proofs.PatchParts.{few_entries, placed_reads, there_sound}
use Rattle.memory_pool.proofs.UseCounts.{blocks_for, one_if}
use Rattle.load_laws.proofs.UseParts.{is_ring, one_buffers, one_first, one_second}

found_next : (p : Block → Bool) (first : Block) (more : List Block) (block : Block) → p first ≡ false → find p more ≡ Some block → find p (first ∷ more) ≡ Some block
found_next p first more block none is = rw none is

-- ---- a device with its rings placed, block by block

module _ (entries : List Entry) (at : ℕ) (device : Vdev) (there : slice_get entries at ≡ Some (entry.Device device)) where
  abbrev placed_by : ℕ → ℕ → ℕ → Ring → Ring
  placed_by n da pa ring = record ring { da = da; notify = rings_before entries at + n; pa = pa }

  abbrev turn : ℕ → Use → ℕ → ℕ → Ring → Ring
  turn n what da pa ring = cond (is_ring at n what) (placed_by n da pa ring) ring

  abbrev last_ring : ℕ → List Block → Ring → Ring
  last_ring n [] ring = ring
  last_ring n (block ∷ more) ring = last_ring n more (turn n block.what block.da block.pa ring)

  abbrev block : Use → ℕ → ℕ → ℕ → Block
  block what da pa len = record { what = what; da = da; pa = pa; len = len }

  abbrev with_rings : Vdev → Ring → Ring → Vdev
  with_rings d first second = record d { first = first; second = second }

  no_carveout : (index : ℕ) → IsCarveout (slice_get entries index) → index ≡ at → ⊥
  no_carveout index is same = let here : IsCarveout (Some (entry.Device device)) = subst IsCarveout (ap (slice_get entries) same ∙ there) is in here

  abbrev ring_fix : ℕ → ℕ → ℕ → ℕ → Fix
  ring_fix index number da pa = record { entry = index; rings = true; ring = number; da = da; pa = pa; notify = rings_before entries index + number }

  ring_turn : (index number da pa n : ℕ) (ring : Ring) → eqb index at ≡ true → ring_with (ring_fix index number da pa) n ring ≡ turn n (usage.Ring index number) da pa ring
  ring_turn index number da pa n ring here =
      let same = eqb-true index at here in
      elim (cases_Bool (eqb number n)) [
        | inl is ↦
            let number_is = eqb-true number n is in
            let notify : rings_before entries index + number ≡ rings_before entries at + n = ap (λ i. rings_before entries i + number) same ∙ ap (λ m. rings_before entries at + m) number_is in
            let both : (eqb index at && eqb number n) ≡ true = rw (here, is) refl in
            ap (λ b. cond b (placed_ring (ring_fix index number da pa) ring) ring) is
            ∙ ap (λ k. let made : Ring = record ring { da = da; notify = k; pa = pa } in made) notify
            ∙ sym (ap (λ b. cond b (placed_by n da pa ring) ring) both)
        | inr other ↦
            let none : (eqb index at && eqb number n) ≡ false = rw (here, other) refl in
            ap (λ b. cond b (placed_ring (ring_fix index number da pa) ring) ring) other ∙ sym (ap (λ b. cond b (placed_by n da pa ring) ring) none)
      ]

  -- the fixes of a block and of more
  one_block : (what : Use) (da pa len : ℕ) (more : List Block) (d : Vdev) → IsUseOf entries what
      → fixed_entry (fixes_of entries (block what da pa len ∷ more)) at (entry.Device d)
      ≡ fixed_entry (fixes_of entries more) at (entry.Device (with_rings d (turn 0 what da pa d.first) (turn 1 what da pa d.second)))
  one_block (usage.Carveout index) da pa len more d meant =
      let fix : Fix = record { entry = index; rings = false; ring = 0; da = da; pa = pa; notify = 0 } in
      ap (λ b. fixed_entry (fixes_of entries more) at (cond b (with_fix fix (entry.Device d)) (entry.Device d))) (ne_eqb index at (no_carveout index meant))
  one_block (usage.Ring index number) da pa len more d meant =
      let fix = ring_fix index number da pa in
      let rest = λ (one : Entry). fixed_entry (fixes_of entries more) at one in
      elim (cases_Bool (eqb index at)) [
        | inl here ↦
            ap (λ b. rest (cond b (with_fix fix (entry.Device d)) (entry.Device d))) here
            ∙ ap (λ ring. rest (entry.Device (with_rings d ring (ring_with fix 1 d.second)))) (ring_turn index number da pa 0 d.first here)
            ∙ ap (λ ring. rest (entry.Device (with_rings d (turn 0 (usage.Ring index number) da pa d.first) ring))) (ring_turn index number da pa 1 d.second here)
        | inr other ↦
            let none : (n : ℕ) → (eqb index at && eqb number n) ≡ false = λ n. ap (λ b. b && eqb number n) other in
            ap (λ b. rest (cond b (with_fix fix (entry.Device d)) (entry.Device d))) other
            ∙ sym (ap (λ b. rest (entry.Device (with_rings d (cond b (placed_by 0 da pa d.first) d.first) d.second))) (none 0))
            ∙ sym (ap (λ b. rest (entry.Device (with_rings d (turn 0 (usage.Ring index number) da pa d.first) (cond b (placed_by 1 da pa d.second) d.second)))) (none 1))
      ]
  one_block (usage.Window index) da pa len more d meant = refl
  one_block (usage.Buffers index) da pa len more d meant = refl

  all_blocks : (blocks : List Block) (d : Vdev) → All (λ block. IsUseOf entries block.what) blocks
      → fixed_entry (fixes_of entries blocks) at (entry.Device d) ≡ entry.Device (with_rings d (last_ring 0 blocks d.first) (last_ring 1 blocks d.second))
  all_blocks [] d meant = refl
  all_blocks (one ∷ more) d meant =
      let U = λ (block : Block). IsUseOf entries block.what in
      one_block one.what one.da one.pa one.len more d (All-head U one more meant)
      ∙ all_blocks more (with_rings d (turn 0 one.what one.da one.pa d.first) (turn 1 one.what one.da one.pa d.second)) (All-tail U one more meant)

  -- where no block is for a ring it stays
  no_turn : (n : ℕ) (blocks : List Block) (ring : Ring) → blocks_for (is_ring at n) blocks ≡ 0 → last_ring n blocks ring ≡ ring
  no_turn n [] ring none = refl
  no_turn n (one ∷ more) ring none =
      let count = sum_by-cons (λ (block : Block). one_if (is_ring at n block.what)) one more in
      elim (cases_Bool (is_ring at n one.what)) [
        | inl here ↦ absurd (let e : one_if (is_ring at n one.what) ≡ 1 = rw here refl in omega (arith, count, e, none))
        | inr other ↦
            ap (λ b. last_ring n more (cond b (placed_by n one.da one.pa ring) ring)) other
            ∙ no_turn n more ring (let e : one_if (is_ring at n one.what) ≡ 0 = rw other refl in omega (arith, count, e, none))
      ]

  -- where one block is for a ring, that is its place
  record IsTurned (n : ℕ) (blocks : List Block) (ring : Ring) : Type 0 where
    block : Block
    found : find (λ block. is_ring at n block.what) blocks ≡ Some block
    last : last_ring n blocks ring ≡ placed_by n block.da block.pa ring

  one_turn : (n : ℕ) (blocks : List Block) (ring : Ring) → blocks_for (is_ring at n) blocks ≡ 1 → IsTurned n blocks ring
  one_turn n [] ring one = absurd (omega (arith, one))
  one_turn n (first ∷ more) ring one =
      let count = sum_by-cons (λ (block : Block). one_if (is_ring at n block.what)) first more in
      elim (cases_Bool (is_ring at n first.what)) [
        | inl here ↦
            let e : one_if (is_ring at n first.what) ≡ 1 = rw here refl in
            record {
              block = first;
              found = rw here refl;
              last = ap (λ b. last_ring n more (cond b (placed_by n first.da first.pa ring) ring)) here ∙ no_turn n more (placed_by n first.da first.pa ring) (omega (arith, count, e, one));
            }
        | inr other ↦
            let e : one_if (is_ring at n first.what) ≡ 0 = rw other refl in
            let later = one_turn n more ring (omega (arith, count, e, one)) in
            record {
              block = later.block;
              found = found_next (λ block. is_ring at n block.what) first more later.block other later.found;
              last = ap (λ b. last_ring n more (cond b (placed_by n first.da first.pa ring) ring)) other ∙ later.last;
            }
      ]

-- ---- all entries

abbrev ready : Vdev → Vdev
ready d = record d { guest = bit_and d.features 1; status = 7 }

ready_pair : (placed : List Block) (index : ℕ) (d : Vdev) (rest : List Entry) → eqb d.id 7 ≡ true → pair_from placed index (set_up (entry.Device d) ∷ rest) ≡ Some (pair_of placed index (ready d))
ready_pair placed index d rest seven =
    ap (λ b. pair_from placed index (entry.Device (cond b (ready d) d) ∷ rest)) seven ∙ ap (λ b. cond b (Some (pair_of placed index (ready d))) (pair_from placed (index + 1) rest)) seven

other_pair : (placed : List Block) (index : ℕ) (d : Vdev) (rest : List Entry) → eqb d.id 7 ≡ false → pair_from placed index (set_up (entry.Device d) ∷ rest) ≡ pair_from placed (index + 1) rest
other_pair placed index d rest other =
    ap (λ b. pair_from placed index (entry.Device (cond b (ready d) d) ∷ rest)) other ∙ ap (λ b. cond b (Some (pair_of placed index d)) (pair_from placed (index + 1) rest)) other

ring_what : (index number : ℕ) (what : Use) → is_ring index number what ≡ true → what ≡ usage.Ring index number
ring_what index number (usage.Carveout other) is = absurd (cc)
ring_what index number (usage.Window other) is = absurd (cc)
ring_what index number (usage.Ring other ring) is =
    let both = and_parts (eqb other index) (eqb ring number) is in
    ap (λ i. usage.Ring i ring) (eqb-true other index both.0) ∙ ap (usage.Ring index) (eqb-true ring number both.1)
ring_what index number (usage.Buffers other) is = absurd (cc)

buffers_what : (index : ℕ) (what : Use) → is_buffers index what ≡ true → what ≡ usage.Buffers index
buffers_what index (usage.Carveout other) is = absurd (cc)
buffers_what index (usage.Window other) is = absurd (cc)
buffers_what index (usage.Ring other number) is = absurd (cc)
buffers_what index (usage.Buffers other) is = ap usage.Buffers (eqb-true other index is)

-- a block that was found for a use stands for it
stands_at : (p : Use → Bool) (purpose : Use) (blocks : List Block) (block : Block) (da : ℕ) → ((what : Use) → p what ≡ true → what ≡ purpose) → find (λ block. p block.what) blocks ≡ Some block → block.da ≡ da
    → Any (StandsAt purpose da) blocks
stands_at p purpose blocks block da means found is =
    let held = find_is (λ (block : Block). p block.what) blocks block found in
    let stands : StandsAt purpose da block = record { what = means block.what held.0; start = is } in
    (held.1.0, block, held.1.1, held.1.2, stands)

counted_found : (p : Use → Bool) (blocks : List Block) → blocks_for p blocks ≡ 1 → (block : Block) × (find (λ block. p block.what) blocks ≡ Some block)
counted_found p [] one = absurd (omega (arith, one))
counted_found p (first ∷ more) one =
    let count = sum_by-cons (λ (block : Block). one_if (p block.what)) first more in
    elim (cases_Bool (p first.what)) [
      | inl here ↦ (first, rw here refl)
      | inr other ↦
          let e : one_if (p first.what) ≡ 0 = rw other refl in
          let later = counted_found p more (omega (arith, count, e, one)) in
          (later.0, found_next (λ block. p block.what) first more later.0 other later.1)
    ]

module _ (regions : List Region) (entries : List Entry) (placed : List Block) (is : placement regions entries ≡ Ok placed) (sound : All IsSoundEntry entries) (few : length entries ≤ 256) where
  meant : All (λ block. IsUseOf entries block.what) placed
  meant = placement_meant regions entries placed is

  abbrev fixes : List Fix
  fixes = fixes_of entries placed

  two_there : (index : ℕ) (d : Vdev) → slice_get entries index ≡ Some (entry.Device d) → d.id ≡ 7 → d.count ≡ 2
  two_there index d there seven = (there_sound entries sound few index (entry.Device d) there).rpmsg seven

  module _ (index : ℕ) (d : Vdev) (there : slice_get entries index ≡ Some (entry.Device d)) (seven : d.id ≡ 7) where
    first_turn : IsTurned entries index d there 0 placed d.first
    first_turn = one_turn entries index d there 0 placed d.first (one_first regions entries placed is index d there seven (two_there index d there seven))

    second_turn : IsTurned entries index d there 1 placed d.second
    second_turn = one_turn entries index d there 1 placed d.second (one_second regions entries placed is index d there seven (two_there index d there seven))

    -- the device with its rings placed
    abbrev device_after : Vdev
    device_after = with_rings entries index d there d (last_ring entries index d there 0 placed d.first) (last_ring entries index d there 1 placed d.second)

    blocks_there : HasBlocks placed (pair_of placed index (ready device_after))
    blocks_there =
        let buffers = counted_found (is_buffers index) placed (one_buffers regions entries placed is index d there seven (two_there index d there seven)) in
        record {
          index = index;
          to_host = stands_at (is_ring index 0) (usage.Ring index 0) placed first_turn.block _ (ring_what index 0) first_turn.found (sym (ap (λ (ring : Ring). ring.da) first_turn.last));
          to_remote = stands_at (is_ring index 1) (usage.Ring index 1) placed second_turn.block _ (ring_what index 1) second_turn.found (sym (ap (λ (ring : Ring). ring.da) second_turn.last));
          buffers = stands_at (is_buffers index) (usage.Buffers index) placed buffers.0 _ (buffers_what index) buffers.1
              (sym (ap (λ found. unwrap_or (option_map (λ (block : Block). block.da) found) 0) buffers.1));
        }

  next_drop : (index : ℕ) (one : Entry) (more : List Entry) → drop index entries ≡ one ∷ more → drop (index + 1) entries ≡ more
  next_drop index one more left = ap (λ i. drop i entries) (add-one index) ∙ (get_of_drop entries index one more left).1

  abbrev Stand : ℕ → List Entry → Type 0
  Stand index left = IfSome (pair_from placed index (patched_from fixes index left)) (HasBlocks placed)

  skipped : (index : ℕ) (one : Entry) (more : List Entry) → NoDevice one → Stand (index + 1) more → Stand index (one ∷ more)
  skipped index one more none later =
      subst (λ found. IfSome found (HasBlocks placed)) (sym (no_pair placed index (fixed_entry fixes index one) (patched_from fixes (index + 1) more) (fixed_none fixes index one none))) later

  -- the rings of the patched entries have blocks, as the buffers have
  pub pair_blocks : (index : ℕ) (left : List Entry) → drop index entries ≡ left → Stand index left
  pair_blocks index [] left = tt
  pair_blocks index (entry.Device d ∷ more) left =
      let there = (get_of_drop entries index (entry.Device d) more left).0 in
      let rest = patched_from fixes (index + 1) more in
      let after = with_rings entries index d there d (last_ring entries index d there 0 placed d.first) (last_ring entries index d there 1 placed d.second) in
      subst (λ one. IfSome (pair_from placed index (set_up one ∷ rest)) (HasBlocks placed)) (sym (all_blocks entries index d there placed d meant))
      (elim (cases_Bool (eqb d.id 7)) [
        | inl here ↦ subst (λ found. IfSome found (HasBlocks placed)) (sym (ready_pair placed index after rest here)) (blocks_there index d there (eqb-true d.id 7 here))
        | inr other ↦ subst (λ found. IfSome found (HasBlocks placed)) (sym (other_pair placed index after rest other)) (pair_blocks (index + 1) more (next_drop index (entry.Device d) more left))
      ])
  pair_blocks index (entry.Carveout da pa len name ∷ more) left =
      skipped index (entry.Carveout da pa len name) more tt (pair_blocks (index + 1) more (next_drop index (entry.Carveout da pa len name) more left))
  pair_blocks index (entry.Devmem da pa len name ∷ more) left =
      skipped index (entry.Devmem da pa len name) more tt (pair_blocks (index + 1) more (next_drop index (entry.Devmem da pa len name) more left))
  pair_blocks index (entry.Trace da len name ∷ more) left =
      skipped index (entry.Trace da len name) more tt (pair_blocks (index + 1) more (next_drop index (entry.Trace da len name) more left))
  pair_blocks index (entry.Skipped kind ∷ more) left =
      skipped index (entry.Skipped kind) more tt (pair_blocks (index + 1) more (next_drop index (entry.Skipped kind) more left))

-- ---- the rings of a load

module _ (image : List ℕ) (regions : List Region) (loaded : Loaded) (regular : SoundRegions regions) (loads : Loads image regions) (is : IsLoaded image regions loaded) where
  abbrev blocks : List Block
  blocks = loaded.placed.blocks.items

  blocks_of_table : (table : List ℕ) → table_of image ≡ Some table → IfSome (pair_from blocks 0 (entries_of (patched_in (Some table) blocks))) (HasBlocks blocks)
  blocks_of_table table has =
      let there : placement regions (entries_of table) ≡ Ok blocks = sym (ap (λ found. placement regions (entries_in found)) has) ∙ is.placed in
      let good = table_good image regions table loads has in
      subst (λ read. IfSome (pair_from blocks 0 read) (HasBlocks blocks)) (sym (placed_reads table good regions blocks there is.held))
      (pair_blocks regions (entries_of table) blocks there (entries_sound table good) (few_entries table good regions blocks there is.held) 0 (entries_of table) refl)

  blocks_by : (found : Option (List ℕ)) → table_of image ≡ found → IfSome (pair_from blocks 0 (entries_of (patched_in found blocks))) (HasBlocks blocks)
  blocks_by None has = tt
  blocks_by (Some table) has = blocks_of_table table has

  pub loaded_blocks : IfSome loaded.rings (HasBlocks blocks)
  loaded_blocks =
      subst (λ found. IfSome found (HasBlocks blocks)) (sym (is.rings ∙ ap (λ table. pair_from blocks 0 (entries_of table)) is.table)) (blocks_by (table_of image) refl)
