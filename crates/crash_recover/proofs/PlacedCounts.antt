-- How many blocks are placed for a table.
use Rattle.std.proofs.Common.{◌≡◌, ℕ, ◌+◌, ◌*◌, ◌≤◌, Bool, true, false, cond, not, List, [], ◌∷◌, ◌++◌, length, Option, Some, None, Result, Ok, Err, refl, ap, arith, inl, inr, length-append}
use Rattle.std.specs.Prelude.{◌==◌, nat_lt}
use Rattle.std.specs.List.{filter}
use Rattle.std.specs.Option.{is_none, is_some, option_map, option_or}
use Rattle.std.proofs.lemmas.Bool.{cases_Bool}
use Rattle.std.proofs.lemmas.List.Filters.{length-filter_both}
use Rattle.elf_image.specs.Images.{entry_of, image_fault}
use Rattle.elf_image.specs.Segments.{segments_of}
use Rattle.elf_image.specs.declared.sections.Section.{Section}
use Rattle.resource_table.specs.Tables.{table_fault}
use Rattle.resource_table.specs.declared.entries.Entry.{Entry}
use Rattle.resource_table.specs.declared.entries.Entry.TheVariants as entry
use Rattle.resource_table.specs.declared.entries.Vdev.{Vdev}
use Rattle.resource_table.specs.declared.faults.TableFault.TheVariants as table
use Rattle.resource_table.proofs.Sound.{length-entries_of, sound_table}
use Rattle.memory_pool.specs.Placements.{placed_from, placement, then_ok}
use Rattle.memory_pool.specs.Places.{next_block}
use Rattle.memory_pool.specs.Wanted.{buffers_wanted, in_order, is_anywhere, memory_wanted, ring_wanted, rings_wanted, wanted_by, wanted_from}
use Rattle.memory_pool.specs.declared.blocks.Block.{Block}
use Rattle.memory_pool.specs.declared.blocks.Use.TheVariants as usage
use Rattle.memory_pool.specs.declared.regions.Region.{Region}
use Rattle.memory_pool.proofs.Sound.{option_cases}
use Rattle.fw_load.specs.Loading.{entry_unmapped, load_fault, mapped_fault, placed_fault, segments_unmapped}
use Rattle.fw_load.specs.Memory.{memory_at}
use Rattle.fw_load.specs.Tables.{bytes_in, entries_in, section_fault, table_of, table_section}
use Rattle.fw_load.specs.declared.faults.LoadFault.TheVariants as fault
use Rattle.crash_recover.specs.Cores.{blocks_most}

went_on : {A B E : Type 0} (next : A → Result B E) (r : Result A E) (y : B) → then_ok next r ≡ Ok y → (x : A) × (r ≡ Ok x) × (next x ≡ Ok y)
went_on next (Ok x) y e = (x, refl, e)
went_on next (Err refused) y e = absurd (cc)

-- as many blocks are placed as are wanted
placed_count : (regions : List Region) (before : List Block) (all : List _) (blocks : List Block) → placed_from regions before all ≡ Ok blocks → length blocks ≡ length before + length all
placed_count regions before [] blocks is =
    let same : before ≡ blocks = cc in
    omega (arith, ap length same)
placed_count regions before (one ∷ more) blocks is =
    let step = went_on (λ block. placed_from regions (before ++ block ∷ []) more) (next_block regions before one) blocks is in
    omega (arith, placed_count regions (before ++ step.0 ∷ []) more blocks step.2, length-append before (step.0 ∷ []))

few_if : {X : Type 0} (test : Bool) (one : X) → length (cond test (one ∷ []) []) ≤ 1
few_if true one = omega arith
few_if false one = omega arith

few_unless : {X : Type 0} (test : Bool) (one : X) → length (cond test [] (one ∷ [])) ≤ 1
few_unless true one = omega arith
few_unless false one = omega arith

few_buffers : (index : ℕ) (device : Vdev) → length (buffers_wanted index device) ≤ 1
few_buffers index device =
    elim (cases_Bool (device.id == 7)) [
      | inl is ↦ rw is (omega arith)
      | inr other ↦ rw other (omega arith)
    ]

-- a device asks for two rings and its buffers at most
few_of_device : (index : ℕ) (device : Vdev) → length (rings_wanted index device ++ buffers_wanted index device) ≤ 3
few_of_device index device =
    let first = cond (nat_lt 0 device.count) (ring_wanted index 0 device.first ∷ []) [] in
    let second = cond (nat_lt 1 device.count) (ring_wanted index 1 device.second ∷ []) [] in
    omega (
      arith,
      length-append (first ++ second) (buffers_wanted index device),
      length-append first second,
      few_if (nat_lt 0 device.count) (ring_wanted index 0 device.first),
      few_if (nat_lt 1 device.count) (ring_wanted index 1 device.second),
      few_buffers index device,
    )

few_windows : (index da pa len : ℕ) (name : List ℕ) → length (wanted_by index (entry.Devmem da pa len name)) ≤ 1
few_windows index da pa len name =
    elim (cases_Bool (len == 0)) [
      | inl is ↦ rw is (omega arith)
      | inr other ↦ rw other (omega arith)
    ]

few_by : (index : ℕ) (one : Entry) → length (wanted_by index one) ≤ 3
few_by index (entry.Carveout da pa len name) = omega (arith, few_unless (len == 0) (memory_wanted (usage.Carveout index) da len 4096))
few_by index (entry.Devmem da pa len name) = omega (arith, few_windows index da pa len name)
few_by index (entry.Trace da len name) = omega arith
few_by index (entry.Device device) = few_of_device index device
few_by index (entry.Skipped type) = omega arith

few_from : (index : ℕ) (entries : List Entry) → length (wanted_from index entries) ≤ 3 * length entries
few_from index [] = omega arith
few_from index (one ∷ more) =
    omega (arith, length-append (wanted_by index one) (wanted_from (index + 1) more), few_by index one, few_from (index + 1) more)

opposite : (test : Bool) → test ≡ not (not test)
opposite true = refl
opposite false = refl

parted : {X : Type 0} (p : X → Bool) (all : List X) → length (filter (λ one. not (p one)) all ++ filter p all) ≡ length all
parted p all =
    omega
    (arith, length-append (filter (λ one. not (p one)) all) (filter p all), length-filter_both (λ one. not (p one)) p (λ one. opposite (p one)) all)

few_placed : (regions : List Region) (entries : List Entry) (blocks : List Block) → placement regions entries ≡ Ok blocks → length entries ≤ 256 → length blocks ≤ blocks_most
few_placed regions entries blocks is few =
    let all = wanted_from 0 entries in
    omega (arith, placed_count regions [] (in_order all) blocks is, parted is_anywhere all, few_from 0 entries)

both_none : {F : Type 0} (a b : Option F) → option_or a b ≡ None → (a ≡ None) × (b ≡ None)
both_none None b none = (refl, none)
both_none (Some found) b none = absurd (cc)

few_entries : (image : List ℕ) (section : Option Section) → section_fault image section ≡ None → length (entries_in (option_map (bytes_in image) section)) ≤ 256
few_entries image None none = omega arith
few_entries image (Some section) none =
    elim (cases_Bool (nat_lt (length image) (section.offset + section.size))) [
      | inl past ↦ absurd (let e : Some table.TableShort ≡ None = rw past at none in cc)
      | inr inside ↦
          let good : table_fault (bytes_in image section) ≡ None = rw inside at none in
          omega (arith, (sound_table (bytes_in image section) good).header.count, length-entries_of (bytes_in image section))
    ]

unfaulted : (image : List ℕ) (section : Option Section) → option_map fault.Table (section_fault image section) ≡ None → section_fault image section ≡ None
unfaulted image section none =
    elim (option_cases (section_fault image section)) [
      | inl is ↦ is
      | inr found ↦ absurd (let e : Some (fault.Table found.0) ≡ None = rw found.1 at none in cc)
    ]

entry_stands : (at : Option ℕ) → cond (is_none at) (Some fault.EntryUnmapped) None ≡ None → is_some at ≡ true
entry_stands None none = absurd (cc)
entry_stands (Some at) none = refl

-- an image that is loaded has few blocks, and one block of memory holds its first record
pub loads_few : (image : List ℕ) (regions : List Region) (blocks : List Block) → load_fault image regions ≡ None → placement regions (entries_in (table_of image)) ≡ Ok blocks
    → (length blocks ≤ blocks_most) × (is_some (memory_at regions blocks (entry_of image) 16) ≡ true)
loads_few image regions blocks loads is =
    let placed = placed_fault image regions (placement regions (entries_in (table_of image))) in
    let first = both_none (option_map fault.Elf (image_fault image)) (option_or (option_map fault.Table (section_fault image (table_section image))) (option_or placed None)) loads in
    let second = both_none (option_map fault.Table (section_fault image (table_section image))) (option_or placed None) first.1 in
    let third = both_none placed None second.1 in
    let mapped : mapped_fault image regions blocks ≡ None = rw is at third.0 in
    let last = both_none (segments_unmapped (memory_at regions blocks) (segments_of image)) (option_or (entry_unmapped (memory_at regions blocks) (entry_of image)) None) mapped in
    let entered = both_none (entry_unmapped (memory_at regions blocks) (entry_of image)) None last.1 in (
      few_placed regions (entries_in (table_of image)) blocks is (few_entries image (table_section image) (unfaulted image (table_section image) second.0)),
      entry_stands (memory_at regions blocks (entry_of image) 16) entered.0,
    )
