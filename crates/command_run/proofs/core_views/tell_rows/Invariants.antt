use Rattle.std.proofs.Common.{◌≡◌, ◌++◌, map, take}
use Rattle.journal.specs.Lines.{transcript}
use Rattle.command_run.specs.CoreViews.{table_event}
use Rattle.command_run.proofs.core_views.tell_rows.Given as goal

-- the lines so far are told
abbrev pub invariant-loop-row : goal.invariant-loop-row
invariant-loop-row l =
    l.log ≡ record l.fn.log { lines = l.fn.log.lines ++ transcript (map (table_event l.fn.name) (take l.row-index l.fn.rows)) }
