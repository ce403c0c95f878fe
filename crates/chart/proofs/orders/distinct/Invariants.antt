use Rattle.std.proofs.Common.{◌≡◌, take}
use Rattle.chart.specs.Orders.{distinct}
use Rattle.chart.proofs.orders.distinct.Given as goal

abbrev pub invariant-loop-lifeline : goal.invariant-loop-lifeline
invariant-loop-lifeline l = l.set.keys ≡ distinct (take l.lifeline-index l.lifelines)
