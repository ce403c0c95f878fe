-- The placement of all that a resource table asks for (own).
use Rattle.std.specs.Prelude.{List, [], ◌∷◌, ◌++◌, Result, Ok, Err}
use Rattle.resource_table.specs.declared.entries.Entry.{Entry}
use Rattle.memory_pool.specs.Wanted.{wanted_from, in_order}
use Rattle.memory_pool.specs.Places.{next_block}
use Rattle.memory_pool.specs.declared.blocks.Block.{Block}
use Rattle.memory_pool.specs.declared.faults.PlaceFault.{PlaceFault}
use Rattle.memory_pool.specs.declared.regions.Region.{Region}
use Rattle.memory_pool.specs.declared.wanted.Wanted.{Wanted}

-- what follows where all went well, and otherwise the refusal (own)
abbrev pub then_ok : {A B E : Type 0} → (A → Result B E) → Result A E → Result B E
then_ok next (Ok value) = next value
then_ok next (Err refused) = Err refused

-- all blocks, where those before are placed and these are wanted, one after the other; the first that is refused ends it (own)
abbrev pub placed_from : List Region → List Block → List Wanted → Result (List Block) PlaceFault
placed_from regions before [] = Ok before
placed_from regions before (one ∷ more) =
    then_ok (λ block. placed_from regions (before ++ block ∷ []) more) (next_block regions before one)

-- the blocks of the entries of a table, in the order in which they are placed, or the first refusal (own)
abbrev pub placement : List Region → List Entry → Result (List Block) PlaceFault
placement regions entries = placed_from regions [] (in_order (wanted_from 0 entries))
