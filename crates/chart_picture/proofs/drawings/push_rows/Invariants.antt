use Rattle.std.proofs.Common.{◌≡◌, ◌+◌, ◌++◌, ◌≤◌, length}
use Rattle.chart.specs.declared.limits.TheConstants.{LINES_MOST}
use Rattle.chart_picture.specs.Drawings.{rows_shapes}
use Rattle.chart_picture.proofs.drawings.push_rows.Given as goal

-- the shapes so far, and those of the other rows
abbrev pub invariant-loop-rows : goal.invariant-loop-rows
invariant-loop-rows l =
    record {
      few : l.index + length l.rows ≤ LINES_MOST;
      shapes : l.shapes.items ++ rows_shapes l.index l.rows l.places ≡ l.fn.shapes.items ++ rows_shapes 0 l.fn.rows l.fn.places;
    }

abbrev pub decreases-loop-rows : goal.decreases-loop-rows
decreases-loop-rows l = length l.rows
