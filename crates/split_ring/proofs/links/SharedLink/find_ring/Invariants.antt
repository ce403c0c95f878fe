use Rattle.std.proofs.Common.{◌≡◌, ◌<◌, ℕ, length, get_or}
use Rattle.ring_core.specs.Rings.{entry_of}
use Rattle.split_ring.specs.Seats.{IsSeatOf}
use Rattle.split_ring.specs.Snapshots.{FindsIn, HasEntry}
use Rattle.split_ring.proofs.links.SharedLink.find_ring.Given as goal

-- the seat is as it was, and so many entries were found
abbrev pub invariant-loop-place : goal.invariant-loop-place
invariant-loop-place g l = IsSeatOf l.self.table.shared.table_id l.self.sizes l.seat.table_id l.seat.me × (l.seat.table_id ≡ l.fn.seat.table_id) × (l.seat.me ≡ l.fn.seat.me) × (length l.entries.items ≡ l.place)
    × ((k : ℕ) → k < l.place → FindsIn g.row.D.coded g.D.Desk.meaning l.fn.seat.me (HasEntry l.lane l.returns k (get_or l.entries.items k (entry_of 0))))
