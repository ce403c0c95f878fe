-- What decides a load once the image, its table and the placement have passed.
use Rattle.std.proofs.Common.{◌≡◌, ℕ, List, Option, Some, None, Ok, refl, ap, sym, ◌∙◌}
use Rattle.std.specs.Option.{option_map, option_or}
use Rattle.elf_image.specs.Images.{entry_of, image_fault}
use Rattle.elf_image.specs.Segments.{segments_of}
use Rattle.elf_image.specs.declared.sections.Section.{Section}
use Rattle.memory_pool.specs.Placements.{placement}
use Rattle.memory_pool.specs.declared.blocks.Block.{Block}
use Rattle.memory_pool.specs.declared.regions.Region.{Region}
use Rattle.addr_translate.specs.Maps.{IsMapOf, Mapping, place_at}
use Rattle.addr_translate.specs.OrderedMaps.{AreApart}
use Rattle.fw_load.specs.Loading.{entry_unmapped, load_fault, mapped_fault, placed_fault, segments_unmapped}
use Rattle.fw_load.specs.Memory.{memory_at}
use Rattle.fw_load.specs.Tables.{bytes_in, entries_in, section_fault, table_of, table_section}
use Rattle.fw_load.specs.declared.faults.LoadFault.{LoadFault}
use Rattle.fw_load.specs.declared.faults.LoadFault.TheVariants as fault
use Rattle.fw_load.proofs.Places.{entry_alike, places_agree, segments_have, unmapped_alike}

-- an image that is placed: it and its table are good, and these are the blocks
pub record IsPlaced (image : List ℕ) (regions : List Region) (placed : List Block) : Type 0 where
  pub good : image_fault image ≡ None
  pub table : section_fault image (table_section image) ≡ None
  pub blocks : placement regions (entries_in (table_of image)) ≡ Ok placed

-- an image is placed, by what was read of it
pub placed_by : (image : List ℕ) (regions : List Region) (placed : List Block) (read : List ℕ) (section : Option Section) (table : Option (List ℕ)) → read ≡ image → section ≡ table_section read
    → None ≡ image_fault image → None ≡ section_fault image section → table ≡ option_map (bytes_in image) section → placement regions (entries_in table) ≡ Ok placed → IsPlaced image regions placed
placed_by image regions placed read section table same there good sound bytes blocks =
    let is = there ∙ ap table_section same in
    record {
      good = sym good;
      table = ap (section_fault image) (sym is) ∙ sym sound;
      blocks = ap (λ table. placement regions (entries_in table)) (sym (bytes ∙ ap (option_map (bytes_in image)) is)) ∙ blocks;
    }

none_behind : (found : Option LoadFault) → option_or found None ≡ found
none_behind None = refl
none_behind (Some found) = refl

-- then what is mapped decides
mapped_decides : (image : List ℕ) (regions : List Region) (placed : List Block) → IsPlaced image regions placed → load_fault image regions ≡ mapped_fault image regions placed
mapped_decides image regions placed is =
    let behind = option_or (placed_fault image regions (placement regions (entries_in (table_of image)))) None in
    ap (λ found. option_or (option_map fault.Elf found) (option_or (option_map fault.Table (section_fault image (table_section image))) behind)) is.good
    ∙ ap (λ found. option_or (option_map fault.Table found) behind) is.table
    ∙ ap (λ found. option_or (placed_fault image regions found) None) is.blocks
    ∙ none_behind (mapped_fault image regions placed)

-- and so do the two tests by a map, segments first
pub tests_decide : (image read : List ℕ) (regions : List Region) (placed : List Block) (map : Mapping) (start : ℕ) (first second : Option LoadFault) → IsPlaced image regions placed → read ≡ image
    → IsMapOf regions placed map → AreApart map.blocks → start ≡ entry_of read
    → first ≡ segments_unmapped (place_at map) (segments_of read) → second ≡ entry_unmapped (place_at map) start → load_fault image regions ≡ option_or first second
tests_decide image read regions placed map start first second is same mapped apart begins segments entered =
    let at = place_at map in
    let other = memory_at regions placed in
    let agree = places_agree regions placed map mapped apart in
    let a : first ≡ segments_unmapped other (segments_of image) =
    segments ∙ ap (λ image. segments_unmapped at (segments_of image)) same ∙ unmapped_alike at other (segments_of image) agree (segments_have image) in
    let b : second ≡ entry_unmapped other (entry_of image) =
    entered ∙ ap (entry_unmapped at) (begins ∙ ap entry_of same) ∙ entry_alike at other (entry_of image) agree in
    mapped_decides image regions placed is
    ∙ ap (λ found. option_or found (option_or (entry_unmapped other (entry_of image)) None)) (sym a)
    ∙ ap (option_or first) (none_behind (entry_unmapped other (entry_of image)) ∙ sym b)
