use Rattle.std.proofs.Common.{ℕ, List}
use Rattle.link_words.specs.declared.rule.Call.TheVariants.{Reopens}
use Rattle.link_words.specs.declared.rule.LaneSides.{LaneSides}
use Rattle.link_words.specs.declared.rule.Slot.{Slot}
use Rattle.link_words.specs.declared.rule.View.{View}
use Rattle.lane_model.specs.declared.lane_links.LaneLink.{LaneLink}
use Rattle.ring_core.specs.declared.states.RingState.{RingState}
use Rattle.link_words.specs.PlacedLinks.{KnowsState}
use Rattle.split_ring.specs.Gathers.{IsCalling}
use Rattle.split_ring.specs.Seats.{IsSeatOf}
use Rattle.split_ring.proofs.links.SharedLink.reset_words.Given as goal

-- the seat is that of the manager, so many words are reset, and the state that it knows is the same
abbrev pub invariant-loop-number : goal.invariant-loop-number
invariant-loop-number g l = IsSeatOf l.self.table.shared.table_id l.self.sizes l.seat.table_id l.seat.me
    × ((v : View) (inc : ℕ) (a b : LaneSides) (slots : List (ℕ × Slot)) → IsCalling v (Reopens 0 inc a b) slots l.fn.seat.me → IsCalling v (Reopens l.number inc a b) slots l.seat.me)
    × ((m : LaneLink (RingState g.row.D.Denot)) → KnowsState g.row.D.coded l.fn.seat.me.0 m → KnowsState g.row.D.coded l.seat.me.0 m)
