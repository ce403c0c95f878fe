use Rattle.std.proofs.Common.{◌≡◌, List, [], ◌++◌, drop}
use Rattle.chart.specs.declared.marks.Said.{Said}
use Rattle.chart.specs.Rows.{IsWalk, rows_from}
use Rattle.chart.proofs.rows.rows_of.Given as goal

-- the rows so far, and those that the other events have after what was said
abbrev pub invariant-loop-event : goal.invariant-loop-event
invariant-loop-event l =
    record { past : List Said; kept : IsWalk past l.walk; rows : l.rows.items ++ rows_from past (drop l.event-index l.events) ≡ rows_from [] l.events }
