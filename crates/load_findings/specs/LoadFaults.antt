-- The faults that keep an image from being loaded on a board (own).
use Rattle.std.specs.Prelude.{ℕ, Bool, not, List, [], ◌∷◌, ◌++◌, map, filter, Option, Some, None, option_map, is_none, Result, Ok, Err, if◌then◌else◌}
use Rattle.std.specs.List.{list_any}
use Rattle.rp_base.specs.Faults.{first_fault}
use Rattle.elf_image.specs.Images.{entry_of, image_fault}
use Rattle.elf_image.specs.Segments.{SegmentAt, segments_of}
use Rattle.elf_image.specs.declared.faults.ElfFault.{ElfFault}
use Rattle.resource_table.specs.declared.faults.TableFault.{TableFault}
use Rattle.memory_pool.specs.Ranges.{lies_in}
use Rattle.memory_pool.specs.declared.blocks.Block.{Block}
use Rattle.memory_pool.specs.declared.faults.PlaceFault.{PlaceFault}
use Rattle.memory_pool.specs.declared.regions.Region.{Region}
use Rattle.fw_load.specs.Loading.{entry_unmapped, segments_unmapped}
use Rattle.fw_load.specs.Memory.{memory_at}
use Rattle.fw_load.specs.Tables.{entries_in, section_fault, table_of, table_section}
use Rattle.fw_load.specs.declared.faults.LoadFault.{LoadFault}
use Rattle.fw_load.specs.declared.faults.LoadFault.TheVariants as fault
use Rattle.board_file.specs.declared.boards.Alias.{Alias}
use Rattle.load_findings.specs.Aliases.{read_through}
use Rattle.load_findings.specs.Placings.{Outcome, all_placed, board_placement, entries_through, outcome_of}

-- whether no memory holds a range whole: no block of memory, or no region whatever would be placed in it where blocks aren't known
abbrev pub lacks : List Region → Option (List Block) → ℕ → ℕ → Bool
lacks regions (Some placed) da len = is_none (memory_at regions placed da len)
lacks regions None da len = not (list_any (lies_in da len) regions)

-- the same, with the address as the regions have it
abbrev pub lacks_through : List Region → List Alias → Option (List Block) → ℕ → ℕ → Bool
lacks_through regions aliases blocks da len = lacks regions blocks (read_through aliases da len) len

-- the segments that no memory holds, and the entry where none holds the 16 bytes of its record
abbrev pub unheld : (ℕ → ℕ → Bool) → List SegmentAt → ℕ → List LoadFault
unheld lacks segments entry =
    map (λ (segment : SegmentAt). fault.SegmentUnmapped segment.index) (filter (λ (segment : SegmentAt). lacks segment.da segment.memory_len) segments)
    ++ (if lacks entry 16 then fault.EntryUnmapped ∷ [] else [])

-- those of an image, where blocks are known or not
abbrev pub unheld_in : List ℕ → List Region → List Alias → Option (List Block) → List LoadFault
unheld_in image regions aliases blocks = unheld (lacks_through regions aliases blocks) (segments_of image) (entry_of image)

-- all refusals of a placement, and then what rests on none of them
abbrev pub place_faults : List ℕ → List Region → List Alias → Outcome → List LoadFault
place_faults image regions aliases outcome =
    map fault.Place outcome.refused ++ unheld_in image regions aliases (all_placed outcome)

-- the fault of the table, and then what doesn't rest on it; or those of the placement
abbrev pub table_faults : List ℕ → List Region → List Alias → Option TableFault → List LoadFault
table_faults image regions aliases (Some found) = fault.Table found ∷ unheld_in image regions aliases None
table_faults image regions aliases None = place_faults image regions aliases (outcome_of regions (entries_through aliases (entries_in (table_of image))))

-- the fault of the image, on which all others rest; or those of its table
abbrev pub image_faults : List ℕ → List Region → List Alias → Option ElfFault → List LoadFault
image_faults image regions aliases (Some found) = fault.Elf found ∷ []
image_faults image regions aliases None = table_faults image regions aliases (section_fault image (table_section image))

-- the faults of an image on a board, in order
abbrev pub load_faults : List ℕ → List Region → List Alias → List LoadFault
load_faults image regions aliases = image_faults image regions aliases (image_fault image)

-- the first of some faults
abbrev pub first_of : List LoadFault → Option LoadFault
first_of [] = None
first_of (found ∷ more) = Some found

-- where a range is in the memory of a core, with its address as the regions have it
abbrev pub board_at : List Region → List Alias → List Block → ℕ → ℕ → Option ℕ
board_at regions aliases placed da len = memory_at regions placed (read_through aliases da len) len

-- the tests of a load after the placement, or its refusal, with addresses as the regions have them
abbrev pub board_placed_fault : List ℕ → List Region → List Alias → Result (List Block) PlaceFault → Option LoadFault
board_placed_fault image regions aliases (Err refused) = Some (fault.Place refused)
board_placed_fault image regions aliases (Ok placed) = first_fault
    (segments_unmapped (board_at regions aliases placed) (segments_of image)
    ∷ entry_unmapped (board_at regions aliases placed) (entry_of image)
    ∷ [])

-- the first of all tests of a load that fails on a board: those of `load_fault` of fw_load in their order, with addresses as the regions have them
abbrev pub board_fault : List ℕ → List Region → List Alias → Option LoadFault
board_fault image regions aliases = first_fault
    (option_map fault.Elf (image_fault image)
    ∷ option_map fault.Table (section_fault image (table_section image))
    ∷ board_placed_fault image regions aliases (board_placement regions aliases (entries_in (table_of image)))
    ∷ [])
