use Rattle.std.proofs.Common.{◌≡◌, ◌+◌, ◌++◌, ◌≤◌, length}
use Rattle.chart.specs.declared.limits.TheConstants.{LIFELINES_MOST}
use Rattle.chart_picture.specs.Heads.{lifelines_shapes}
use Rattle.chart_picture.proofs.heads.push_lifelines.Given as goal

-- the shapes so far, and those of the other lifelines
abbrev pub invariant-loop-rest : goal.invariant-loop-rest
invariant-loop-rest l =
    record {
      few : l.column + length l.rest ≤ LIFELINES_MOST;
      shapes : l.shapes.items ++ lifelines_shapes l.height l.column l.rest ≡ l.fn.shapes.items ++ lifelines_shapes l.height 0 l.fn.lifelines;
    }

abbrev pub decreases-loop-rest : goal.decreases-loop-rest
decreases-loop-rest l = length l.rest
