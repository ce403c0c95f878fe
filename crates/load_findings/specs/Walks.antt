-- What the walk over a table has found (own). No public clause speaks of this: it serves the contracts of the crate's own functions.
use Rattle.std.specs.Prelude.{ℕ, Bool, true, false, not, filter, ◌&&◌, List, [], ◌∷◌, Option, Some, None, if◌then◌else◌}
use Rattle.std.specs.List.{list_any}
use Rattle.memory_pool.specs.Places.{is_window}
use Rattle.memory_pool.specs.Ranges.{lies_in, lies_within}
use Rattle.memory_pool.specs.Regions.{is_pool}
use Rattle.memory_pool.specs.declared.blocks.Block.{Block}
use Rattle.memory_pool.specs.declared.regions.Region.{Region}
use Rattle.load_findings.specs.declared.placing.Placing.{Placing}
use Rattle.load_findings.specs.Placings.{Outcome}

-- what is placed and refused
abbrev pub outcome_in : Placing → Outcome
outcome_in placing = record { placed = placing.blocks.items; refused = placing.refused.items }

-- those of what is asked for that may be anywhere, or those that have an address
abbrev pub of_kind : {W : Type 0} → (W → Bool) → Bool → List W → List W
of_kind is_anywhere true all = filter is_anywhere all
of_kind is_anywhere false all = filter (λ one. not (is_anywhere one)) all

-- whether a region that is always mapped holds a range
abbrev pub always_holds : ℕ → ℕ → Region → Bool
always_holds da len region = not (is_pool region) && lies_in da len region

-- whether the first placed block or window that holds a range is memory
abbrev pub is_block_memory : List Region → List Block → ℕ → ℕ → Bool
is_block_memory regions [] da len = false
is_block_memory regions (block ∷ more) da len =
    if lies_within da len block.da block.len
    then not (is_window block) && list_any (lies_in block.da block.len) regions
    else is_block_memory regions more da len

-- blocks, where they are known
abbrev pub known_blocks : Bool → List Block → Option (List Block)
known_blocks known blocks = if known then Some blocks else None
