use Rattle.std.proofs.Common.{◌≡◌, take}
use Rattle.std.specs.List.{flat_map}
use Rattle.chart.specs.Orders.{lifelines_in}
use Rattle.chart.proofs.orders.needed.Given as goal

abbrev pub invariant-loop-row : goal.invariant-loop-row
invariant-loop-row l = l.needed.items ≡ flat_map lifelines_in (take l.row-index l.rows)
