-- What becomes of all that a resource table asks for, where what is refused isn't placed (own).
use Rattle.std.specs.Prelude.{◌==◌, if◌then◌else◌, List, [], ◌∷◌, ◌++◌, length, map, Option, Some, None, Result, Ok, Err}
use Rattle.resource_table.specs.declared.entries.Entry.{Entry}
use Rattle.memory_pool.specs.Places.{next_block}
use Rattle.memory_pool.specs.Placements.{placement}
use Rattle.memory_pool.specs.Wanted.{in_order, wanted_from}
use Rattle.memory_pool.specs.declared.blocks.Block.{Block}
use Rattle.memory_pool.specs.declared.faults.PlaceFault.{PlaceFault}
use Rattle.memory_pool.specs.declared.regions.Region.{Region}
use Rattle.board_file.specs.declared.boards.Alias.{Alias}
use Rattle.load_findings.specs.Aliases.{entry_through}

-- what is placed, and what is refused, each in the order in which it is tried
pub record Outcome : Type 0 where
  pub placed : List Block
  pub refused : List PlaceFault

-- nothing is tried yet
abbrev pub no_outcome : Outcome
no_outcome = record { placed = []; refused = [] }

-- a block more that is placed or refused
abbrev pub with_block : Outcome → Result Block PlaceFault → Outcome
with_block outcome (Ok block) = record { placed = outcome.placed ++ block ∷ []; refused = outcome.refused }
with_block outcome (Err refused) = record { placed = outcome.placed; refused = outcome.refused ++ refused ∷ [] }

-- all that is tried, one after the other, by what becomes of each beside the blocks that were placed
abbrev pub tried : {W : Type 0} → (List Block → W → Result Block PlaceFault) → Outcome → List W → Outcome
tried next outcome [] = outcome
tried next outcome (one ∷ more) = tried next (with_block outcome (next outcome.placed one)) more

-- what becomes of all that entries ask for, in the order in which it is placed
abbrev pub outcome_of : List Region → List Entry → Outcome
outcome_of regions entries = tried (next_block regions) no_outcome (in_order (wanted_from 0 entries))

-- the blocks, where none was refused
abbrev pub all_placed : Outcome → Option (List Block)
all_placed outcome = if length outcome.refused == 0 then Some outcome.placed else None

-- entries with their addresses as the regions have them
abbrev pub entries_through : List Alias → List Entry → List Entry
entries_through aliases entries = map (entry_through aliases) entries

-- the placement of a load: the blocks, or the first refusal
abbrev pub board_placement : List Region → List Alias → List Entry → Result (List Block) PlaceFault
board_placement regions aliases entries = placement regions (entries_through aliases entries)
