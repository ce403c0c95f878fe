use Rattle.std.proofs.Common.{◌≡◌, ◌≤◌, drop, length}
use Rattle.indexmap.specs.IndexMap.{get}
use Rattle.chart.specs.declared.keys.ArrowEnd.{ArrowEnd}
use Rattle.chart.specs.Keys.{is_same_arrow_end}
use Rattle.chart.specs.Charts.{first_of}
use Rattle.chart.proofs.joins.ends_of.Given as goal

-- the first of the rows from the index on that is each end
abbrev pub invariant-loop-index : goal.invariant-loop-index
invariant-loop-index l =
    record { within : l.index ≤ length l.rows; told : (end : ArrowEnd) → get is_same_arrow_end l.told end ≡ first_of end l.index (drop l.index l.rows) }

abbrev pub decreases-loop-index : goal.decreases-loop-index
decreases-loop-index l = l.index
