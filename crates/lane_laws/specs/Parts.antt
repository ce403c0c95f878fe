-- The parts of a reclaim, between which others may step, and the turns that the manager takes and leaves (own).
use Rattle.std.specs.Prelude.{◌≡◌, ℕ, Bool, false, ◌&&◌, not, if◌then◌else◌, List, [], ◌∷◌, ◌++◌, slice_set, Option, None}
use Rattle.rp_base.specs.declared.kinds.End.{End}
use Rattle.lane_model.specs.declared.states.LaneState.{LaneState}
use Rattle.lane_model.specs.declared.stages.Turn.{Turn}
use Rattle.lane_model.specs.declared.stages.Turn.TheVariants as turn
use Rattle.lane_model.specs.declared.recoveries.ReclaimPart.{ReclaimPart}
use Rattle.lane_model.specs.declared.recoveries.ReclaimPart.TheVariants as part
use Rattle.lane_model.specs.declared.recoveries.LaneTurn.{LaneTurn}
use Rattle.lane_model.specs.declared.recoveries.LaneTurn.TheVariants as lane_turn
use Rattle.lane_model.specs.Lanes.{has_call, holder}
use Rattle.lane_model.specs.Crashes.{after_send_end, after_receive_end, held_by_others, has_held}
use Rattle.lane_model.specs.Links.{LinkState, Lanes, lanes_of, with_lanes}
use Rattle.lane_model.specs.Conditions.{is_in_call}

-- a free turn becomes the manager's, and any other stays
abbrev pub manager_takes : {C : Type 0} → Turn C → Turn C
manager_takes turn.Free = turn.Manager
manager_takes (turn.Taken caller call) = turn.Taken caller call
manager_takes (turn.Leaving caller end) = turn.Leaving caller end
manager_takes turn.Manager = turn.Manager

-- the manager's turn becomes free, and any other stays
abbrev pub manager_leaves : {C : Type 0} → Turn C → Turn C
manager_leaves turn.Free = turn.Free
manager_leaves (turn.Taken caller call) = turn.Taken caller call
manager_leaves (turn.Leaving caller end) = turn.Leaving caller end
manager_leaves turn.Manager = turn.Free

-- a lane one of whose turns the manager takes
abbrev pub with_manager : {D : Type 0} → LaneState D → LaneTurn → LaneState D
with_manager state lane_turn.Sender = record state { sender = manager_takes state.sender }
with_manager state lane_turn.Receiver = record state { receiver = manager_takes state.receiver }

-- a lane one of whose turns the manager leaves
abbrev pub without_manager : {D : Type 0} → LaneState D → LaneTurn → LaneState D
without_manager state lane_turn.Sender = record state { sender = manager_leaves state.sender }
without_manager state lane_turn.Receiver = record state { receiver = manager_leaves state.receiver }

-- a lane without what this caller holds, whose receiver's turn the manager leaves
abbrev pub turn_left_without : {D : Type 0} → LaneState D → ℕ → LaneState D
turn_left_without state caller = record state {
  receiver = manager_leaves state.receiver;
  lane = record state.lane { held = held_by_others state.lane.held caller };
}

-- the lanes of a caller after a part of its reclaim
abbrev pub lanes_part : {D : Type 0} → Lanes (LaneState D) → ℕ → ReclaimPart → Lanes (LaneState D)
lanes_part lanes caller part.TakesTurn = record lanes { incoming = with_manager lanes.incoming lane_turn.Receiver }
lanes_part lanes caller part.EndsCall = record {
  outgoing = after_send_end lanes.outgoing caller;
  incoming = if has_call lanes.incoming.receiver caller then after_receive_end lanes.incoming caller else lanes.incoming;
}
lanes_part lanes caller part.LeavesTurn = record lanes { incoming = turn_left_without lanes.incoming caller }
lanes_part lanes caller part.FreesNumber = lanes

-- the callers after a part of a reclaim
abbrev pub callers_part : List (Option End) → ℕ → ReclaimPart → List (Option End)
callers_part callers caller part.TakesTurn = callers
callers_part callers caller part.EndsCall = callers
callers_part callers caller part.LeavesTurn = callers
callers_part callers caller part.FreesNumber = slice_set callers caller None

-- the link after a part of the reclaim of a caller of this end
abbrev pub part_done : {D : Type 0} → LinkState D → End → ℕ → ReclaimPart → LinkState D
part_done link end caller part =
    record (with_lanes link end (lanes_part (lanes_of link end) caller part)) { callers = callers_part link.callers caller part }

-- when the lanes of a caller allow a part of its reclaim: the turn to take is free, the turn to leave is the manager's, and a number is
-- freed of a caller that has no call and holds nothing
abbrev pub MayPart : {D : Type 0} → Lanes (LaneState D) → ℕ → ReclaimPart → Type 0
MayPart lanes caller part.TakesTurn = holder lanes.incoming.receiver ≡ None
MayPart lanes caller part.EndsCall = Unit {0}
MayPart lanes caller part.LeavesTurn = lanes.incoming.receiver ≡ turn.Manager
MayPart lanes caller part.FreesNumber = (is_in_call lanes caller ≡ false) × (has_held lanes.incoming.lane.held caller ≡ false)

-- the manager needs the receiver's turn for what this caller holds, since the caller's own call doesn't have it
abbrev pub needs_turn : {D : Type 0} → LaneState D → ℕ → Bool
needs_turn state caller = has_held state.lane.held caller && not (has_call state.receiver caller)

-- the parts of the reclaim of a caller of these lanes, in their order: the receiver's turn where it is needed, the call where there is one, the number
abbrev pub reclaim_parts : {D : Type 0} → Lanes (LaneState D) → ℕ → List ReclaimPart
reclaim_parts lanes caller =
    (if needs_turn lanes.incoming caller then part.TakesTurn ∷ [] else [])
    ++ (if is_in_call lanes caller then part.EndsCall ∷ [] else [])
    ++ (if needs_turn lanes.incoming caller then part.LeavesTurn ∷ [] else [])
    ++ part.FreesNumber ∷ []
