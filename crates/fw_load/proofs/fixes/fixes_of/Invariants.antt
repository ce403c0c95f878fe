use Rattle.std.proofs.Common.{◌≡◌, ◌++◌, drop}
use Rattle.resource_table.specs.Entries.{entries_of}
use Rattle.fw_load.specs.Tables.{fixes_of}
use Rattle.fw_load.proofs.fixes.fixes_of.Given as goal

-- the fixes so far, and those of the blocks that are left
abbrev pub invariant-loop-block : goal.invariant-loop-block
invariant-loop-block l =
    l.fixes.items ++ fixes_of (entries_of l.table) (drop l.block-index l.blocks) ≡ fixes_of (entries_of l.table) l.blocks
