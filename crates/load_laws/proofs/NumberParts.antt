-- Each fault of a load and of a region has a number.
use Rattle.std.proofs.Common.{◌≡◌, ℕ, ◌+◌, ◌≤◌, ◌<◌, Bool, true, false, ◌||◌, List, [], ◌∷◌, ◌++◌, length, Option, Some, None, IfSome, Result, Ok, Err, cond, refl}
use Rattle.std.specs.Prelude.{nat_le}
use Rattle.std.specs.List.{list_any}
use Rattle.std.specs.Result.{IfErr}
use Rattle.std.specs.Option.{is_none, is_some, option_map, option_or}
use Rattle.std.proofs.lemmas.Bool.{cond_both}
use Rattle.elf_image.specs.Images.{entry_of, image_fault}
use Rattle.elf_image.specs.Segments.{SegmentAt, segments_of}
use Rattle.elf_image.specs.declared.faults.ElfFault.{ElfFault}
use Rattle.resource_table.specs.declared.faults.TableFault.{TableFault}
use Rattle.memory_pool.specs.Faults.{place_fault_number, region_fault_number}
use Rattle.memory_pool.specs.Placements.{placement}
use Rattle.memory_pool.specs.Regions.{has_wrong_range, region_fault, regions_meet}
use Rattle.memory_pool.specs.declared.blocks.Block.{Block}
use Rattle.memory_pool.specs.declared.faults.PlaceFault.{PlaceFault}
use Rattle.memory_pool.specs.declared.TheConstants.{REGIONS_MOST}
use Rattle.memory_pool.specs.declared.faults.RegionFault.{RegionFault}
use Rattle.memory_pool.specs.declared.regions.Region.{Region}
use Rattle.fw_load.specs.Faults.{load_fault_number}
use Rattle.fw_load.specs.Loading.{entry_unmapped, load_fault, mapped_fault, placed_fault, segment_unmapped, segments_unmapped}
use Rattle.fw_load.specs.Memory.{memory_at}
use Rattle.fw_load.specs.Tables.{entries_in, section_fault, table_of, table_section}
use Rattle.fw_load.specs.declared.faults.LoadFault.{LoadFault}
use Rattle.fw_load.specs.declared.faults.LoadFault.TheVariants as fault
use Rattle.load_laws.proofs.PlaceRefusals.{placement_refuses}

-- ---- loads

abbrev IsPlaced : PlaceFault → Type 0
IsPlaced why = is_some (place_fault_number why) ≡ true

abbrev IsNumbered : Option LoadFault → Type 0
IsNumbered found = IfSome found (λ why. is_some (load_fault_number why) ≡ true)

or_numbered : (a b : Option LoadFault) → IsNumbered a → IsNumbered b → IsNumbered (option_or a b)
or_numbered None b first second = second
or_numbered (Some why) b first second = first

elf_numbered : (found : Option ElfFault) → IsNumbered (option_map fault.Elf found)
elf_numbered None = tt
elf_numbered (Some why) = refl

table_numbered : (found : Option TableFault) → IsNumbered (option_map fault.Table found)
table_numbered None = tt
table_numbered (Some why) = refl

segments_numbered : (at : ℕ → ℕ → Option ℕ) (segments : List SegmentAt) → IsNumbered (segments_unmapped at segments)
segments_numbered at [] = tt
segments_numbered at (segment ∷ more) =
    or_numbered (segment_unmapped at segment) (segments_unmapped at more) (cond_both (is_none (at segment.da segment.memory_len)) _ _ IsNumbered (λ _. refl) (λ _. tt)) (segments_numbered at more)

placed_numbered : (image : List ℕ) (regions : List Region) (found : Result (List Block) PlaceFault) → IfErr found IsPlaced → IsNumbered (placed_fault image regions found)
placed_numbered image regions (Err why) is = is
placed_numbered image regions (Ok placed) is =
    let at = memory_at regions placed in
    let entry = entry_unmapped at (entry_of image) in
    or_numbered (segments_unmapped at (segments_of image)) (option_or entry None) (segments_numbered at (segments_of image))
    (or_numbered entry None (cond_both (is_none (at (entry_of image) 16)) _ _ IsNumbered (λ _. refl) (λ _. tt)) tt)

pub load_numbered : (image : List ℕ) (regions : List Region) → IsNumbered (load_fault image regions)
load_numbered image regions =
    let table = option_map fault.Table (section_fault image (table_section image)) in
    let blocks = placement regions (entries_in (table_of image)) in
    let placed = placed_fault image regions blocks in
    or_numbered (option_map fault.Elf (image_fault image)) (option_or table (option_or placed None)) (elf_numbered (image_fault image))
    (or_numbered table (option_or placed None) (table_numbered (section_fault image (table_section image)))
    (or_numbered placed None (placed_numbered image regions blocks (placement_refuses IsPlaced regions (entries_in (table_of image)) (λ k less. record { outside = refl; overlap = refl; room = refl; window = refl; past = refl }))) tt))

-- ---- regions

abbrev IsRegionNumbered : Option RegionFault → Type 0
IsRegionNumbered found = IfSome found (λ why. is_some (region_fault_number why) ≡ true)

region_or : (a b : Option RegionFault) → IsRegionNumbered a → IsRegionNumbered b → IsRegionNumbered (option_or a b)
region_or None b first second = second
region_or (Some why) b first second = first

pub region_numbered : (regions : List Region) (region : Region) → IsRegionNumbered (region_fault regions region)
region_numbered regions region =
    region_or _ _ (cond_both (nat_le REGIONS_MOST (length regions)) _ _ IsRegionNumbered (λ _. refl) (λ _. tt))
    (region_or _ _ (cond_both (has_wrong_range regions region) _ _ IsRegionNumbered (λ _. refl) (λ _. tt))
    (region_or _ _ (cond_both (list_any (regions_meet region) regions) _ _ IsRegionNumbered (λ _. refl) (λ _. tt)) tt))
