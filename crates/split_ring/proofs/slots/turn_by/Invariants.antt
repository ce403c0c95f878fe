use Rattle.std.proofs.Common.{◌≡◌}
use Rattle.split_ring.specs.Carried.{turned_by}
use Rattle.split_ring.proofs.slots.turn_by.Given as goal

-- so many are turned
abbrev pub invariant-loop : goal.invariant-loop
invariant-loop l = (l.seat.table_id ≡ l.fn.seat.table_id) × (l.seat.id ≡ l.fn.seat.id) × (l.seat.me ≡ (l.fn.seat.me.0, turned_by l.counter l.fn.seat.me.1))
