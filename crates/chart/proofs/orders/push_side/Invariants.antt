use Rattle.std.proofs.Common.{◌≡◌, ◌++◌, filter, take}
use Rattle.chart.specs.Orders.{stands}
use Rattle.chart.proofs.orders.push_side.Given as goal

abbrev pub invariant-loop-seat : goal.invariant-loop-seat
invariant-loop-seat l = l.order.items ≡ l.fn.order.items ++ filter (stands l.name l.side) (take l.seat-index l.seats)
