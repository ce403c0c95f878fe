-- The parts of a reclaim on a link over rings (own).
use Rattle.std.specs.Prelude.{ℕ, if◌then◌else◌, List, [], ◌∷◌}
use Rattle.rp_base.specs.declared.kinds.End.{End}
use Rattle.lane_model.specs.declared.lane_links.LaneLink.{LaneLink}
use Rattle.lane_model.specs.declared.recoveries.ReclaimPart.{ReclaimPart}
use Rattle.lane_model.specs.declared.recoveries.ReclaimPart.TheVariants as part
use Rattle.lane_model.specs.declared.recoveries.LaneTurn.TheVariants as lane_turn
use Rattle.lane_model.specs.Desks.{DeskMeaning}
use Rattle.lane_model.specs.Lanes.{has_call}
use Rattle.lane_model.specs.Links.{Lanes, lanes_of, with_lanes}
use Rattle.ring_core.specs.declared.states.RingState.{RingState}
use Rattle.ring_core.specs.RingSteps.{ring_form}
use Rattle.lane_laws.specs.Parts.{with_manager, turn_left_without, callers_part}

-- the lane without what this caller holds, whose receiver's turn the manager leaves: the buffers in its hands go aside
abbrev pub ring_turn_left_without : {D : Type 0} → DeskMeaning D → RingState D → ℕ → RingState D
ring_turn_left_without desk state caller = record ((ring_form desk).after_receive_end state caller) { lane = turn_left_without state.lane caller }

-- the lanes of a caller after a part of its reclaim: a turn that the manager takes changes no ring
abbrev pub ring_lanes_part : {D : Type 0} → DeskMeaning D → Lanes (RingState D) → ℕ → ReclaimPart → Lanes (RingState D)
ring_lanes_part desk lanes caller part.TakesTurn = record lanes {
  incoming = record lanes.incoming { lane = with_manager lanes.incoming.lane lane_turn.Receiver };
}
ring_lanes_part desk lanes caller part.EndsCall = record {
  outgoing = (ring_form desk).after_send_end lanes.outgoing caller;
  incoming = if has_call lanes.incoming.lane.receiver caller then (ring_form desk).after_receive_end lanes.incoming caller else lanes.incoming;
}
ring_lanes_part desk lanes caller part.LeavesTurn = record lanes { incoming = ring_turn_left_without desk lanes.incoming caller }
ring_lanes_part desk lanes caller part.FreesNumber = lanes

-- the link after a part of the reclaim of a caller of this end
abbrev pub ring_part_done : {D : Type 0} → DeskMeaning D → LaneLink (RingState D) → End → ℕ → ReclaimPart → LaneLink (RingState D)
ring_part_done desk link end caller part =
    record (with_lanes link end (ring_lanes_part desk (lanes_of link end) caller part)) { callers = callers_part link.callers caller part }

-- the link after parts, one after the other
abbrev pub ring_parts_done : {D : Type 0} → DeskMeaning D → LaneLink (RingState D) → End → ℕ → List ReclaimPart → LaneLink (RingState D)
ring_parts_done desk link end caller [] = link
ring_parts_done desk link end caller (part ∷ parts) = ring_parts_done desk (ring_part_done desk link end caller part) end caller parts
