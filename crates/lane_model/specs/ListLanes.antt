-- What a lane of lists stands for, and what its fields keep (own).
use Rattle.std.specs.Prelude.{ℕ, ◌≤◌, List, length, vec_capacity}
use Rattle.rp_base.specs.declared.limits.TheConstants.{CAPACITY_MOST, MESSAGE_MOST}
use Rattle.lane_model.specs.declared.states.Lane.{Lane}
use Rattle.lane_model.specs.declared.states.LaneState.{LaneState}
use Rattle.lane_model.specs.declared.list_lanes.ListLane.TheInside.{Inside}
use Rattle.lane_model.specs.declared.list_lanes.SendTurn.{SendTurn}
use Rattle.lane_model.specs.declared.stages.Sending.{Sending}
use Rattle.lane_model.specs.declared.stages.Turn.{Turn}
use Rattle.lane_model.specs.declared.stages.Turn.TheVariants as turn
use Rattle.lane_model.specs.Soundness.{IsSoundLane}

-- the sender's turn, with the message that the lane keeps beside it
abbrev pub sender_of : Turn SendTurn → List ℕ → Turn Sending
sender_of turn.Free outgoing = turn.Free
sender_of (turn.Taken caller s) outgoing = turn.Taken caller (record { follows = s.follows; message = outgoing; stage = s.stage })
sender_of (turn.Leaving caller end) outgoing = turn.Leaving caller end
sender_of turn.Manager outgoing = turn.Manager

-- the lists and counts
abbrev pub lane_of : {D : Type 0} → Inside D → Lane
lane_of a = record {
  capacity = a.capacity;
  book = a.accepted.room;
  accepted = a.accepted.entries;
  takers = a.takers.items;
  held = a.held.items;
  returned = a.returned;
}

-- the lane that these parts stand for
abbrev pub state_of : {D : Type 0} → Inside D → LaneState D
state_of a = record { lane = lane_of a; sender = sender_of a.sender a.outgoing; receiver = a.receiver; desk = a.desk }

-- the parts are those of a lane, and there is room for what it can still take
pub record IsListInside {D : Type 0} (a : Inside D) : Type 0 where
  pub sound : IsSoundLane (state_of a)
  pub capacity : a.capacity ≤ CAPACITY_MOST
  pub outgoing : length a.outgoing ≤ MESSAGE_MOST
  pub takers_room : a.accepted.room ≤ vec_capacity a.takers
  pub held_room : a.capacity ≤ vec_capacity a.held
