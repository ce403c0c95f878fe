-- The first fault of an image on a board is that of a load.
use Rattle.std.proofs.Common.{◌≡◌, ℕ, List, [], ◌∷◌, Option, Some, None, Result, Ok, Err, inl, inr, refl, ap, ◌∙◌}
use Rattle.std.specs.Prelude.{option_map, is_none}
use Rattle.std.proofs.lemmas.Bool.{cases_Bool}
use Rattle.rp_base.specs.Faults.{first_fault}
use Rattle.elf_image.specs.Images.{entry_of, image_fault}
use Rattle.elf_image.specs.Segments.{SegmentAt, segments_of}
use Rattle.elf_image.specs.declared.faults.ElfFault.{ElfFault}
use Rattle.resource_table.specs.declared.faults.TableFault.{TableFault}
use Rattle.memory_pool.specs.Placements.{placement}
use Rattle.memory_pool.specs.declared.blocks.Block.{Block}
use Rattle.memory_pool.specs.declared.faults.PlaceFault.{PlaceFault}
use Rattle.memory_pool.specs.declared.regions.Region.{Region}
use Rattle.fw_load.specs.Loading.{entry_unmapped, load_fault, placed_fault, segments_unmapped}
use Rattle.fw_load.specs.Tables.{entries_in, section_fault, table_of, table_section}
use Rattle.fw_load.specs.declared.faults.LoadFault.{LoadFault}
use Rattle.fw_load.specs.declared.faults.LoadFault.TheVariants as fault
use Rattle.board_file.specs.declared.boards.Alias.{Alias}
use Rattle.load_findings.specs.LoadFaults.{board_at, board_fault, board_placed_fault, first_of, image_faults, load_faults, place_faults, table_faults, unheld}
use Rattle.load_findings.specs.Placings.{board_placement, entries_through, outcome_of}
use Rattle.load_findings.proofs.Outcomes.{answer_of, entries_none, outcome_answer}

-- the first that no memory holds is the first that a load refuses
unheld_first : (at : ℕ → ℕ → Option ℕ) (segments : List SegmentAt) (entry : ℕ)
    → first_of (unheld (λ da len. is_none (at da len)) segments entry) ≡ first_fault (segments_unmapped at segments ∷ entry_unmapped at entry ∷ [])
unheld_first at [] entry =
    elim (cases_Bool (is_none (at entry 16))) [
      | inl lacks ↦ rw lacks refl
      | inr held ↦ rw held refl
    ]
unheld_first at (segment ∷ more) entry =
    elim (cases_Bool (is_none (at segment.da segment.memory_len))) [
      | inl lacks ↦ rw lacks refl
      | inr held ↦ rw held (unheld_first at more entry)
    ]

-- the first of a placement's refusals, or of what no memory holds
placed_first : (image : List ℕ) (regions : List Region) (aliases : List Alias) (placed : List Block) (refused : List PlaceFault)
    → first_of (place_faults image regions aliases (record { placed = placed; refused = refused })) ≡ board_placed_fault image regions aliases (answer_of placed refused)
placed_first image regions aliases placed [] = unheld_first (board_at regions aliases placed) (segments_of image) (entry_of image)
placed_first image regions aliases placed (refused ∷ more) = refl

last_or : (found : Option LoadFault) → found ≡ first_fault (found ∷ [])
last_or None = refl
last_or (Some found) = refl

tables_first : (image : List ℕ) (regions : List Region) (aliases : List Alias) (found : Option TableFault)
    → first_of (table_faults image regions aliases found)
    ≡ first_fault (option_map fault.Table found ∷ board_placed_fault image regions aliases (board_placement regions aliases (entries_in (table_of image))) ∷ [])
tables_first image regions aliases (Some found) = refl
tables_first image regions aliases None =
    let entries = entries_in (table_of image) in
    let outcome = outcome_of regions (entries_through aliases entries) in
    placed_first image regions aliases outcome.placed outcome.refused
    ∙ ap (board_placed_fault image regions aliases) (outcome_answer regions (entries_through aliases entries))
    ∙ last_or (board_placed_fault image regions aliases (board_placement regions aliases entries))

images_first : (image : List ℕ) (regions : List Region) (aliases : List Alias) (found : Option ElfFault)
    → first_of (image_faults image regions aliases found)
    ≡ first_fault (option_map fault.Elf found ∷ option_map fault.Table (section_fault image (table_section image))
    ∷ board_placed_fault image regions aliases (board_placement regions aliases (entries_in (table_of image))) ∷ [])
images_first image regions aliases (Some found) = refl
images_first image regions aliases None = tables_first image regions aliases (section_fault image (table_section image))

-- the first fault is the one of a load, with addresses as the regions have them
pub first_is : (image : List ℕ) (regions : List Region) (aliases : List Alias) → first_of (load_faults image regions aliases) ≡ board_fault image regions aliases
first_is image regions aliases = images_first image regions aliases (image_fault image)

placed_plain : (image : List ℕ) (regions : List Region) (answer : Result (List Block) PlaceFault) → board_placed_fault image regions [] answer ≡ placed_fault image regions answer
placed_plain image regions (Ok placed) = refl
placed_plain image regions (Err refused) = refl

-- without an alias it is the one of a load as it is
pub plain_is : (image : List ℕ) (regions : List Region) → board_fault image regions [] ≡ load_fault image regions
plain_is image regions =
    let entries = entries_in (table_of image) in
    let same : board_placement regions [] entries ≡ placement regions entries = ap (placement regions) (entries_none entries) in
    ap (λ last. first_fault (option_map fault.Elf (image_fault image) ∷ option_map fault.Table (section_fault image (table_section image)) ∷ last ∷ []))
    (ap (board_placed_fault image regions []) same ∙ placed_plain image regions (placement regions entries))
