use Rattle.std.proofs.Common.{◌≡◌, ◌++◌, drop}
use Rattle.resource_table.specs.Entries.{entries_of}
use Rattle.image_report.specs.TableRows.{rows_from}
use Rattle.image_report.proofs.tables.table_rows.Given as goal

-- the lines so far and those of the entries that are left
abbrev pub invariant-loop-index : goal.invariant-loop-index
invariant-loop-index l =
    l.rows.items ++ rows_from l.index (drop l.index (entries_of l.table)) l.left ≡ rows_from 0 (entries_of l.table) l.fn.traces
