use Rattle.std.proofs.Common.{◌≡◌, take}
use Rattle.std.specs.List.{flat_map}
use Rattle.chart.specs.Orders.{group_of}
use Rattle.chart.proofs.orders.order_of.Given as goal

abbrev pub invariant-loop-seat : goal.invariant-loop-seat
invariant-loop-seat l = l.order.items ≡ flat_map (group_of l.seats) (take l.seat-index l.seats)
