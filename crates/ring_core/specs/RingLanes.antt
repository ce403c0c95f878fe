-- What a lane of rings stands for, and what its fields keep (own).
use Rattle.std.specs.Prelude.{◌≤◌, Option, vec_capacity}
use Rattle.std.specs.Option.{option_map}
use Rattle.rp_base.specs.declared.limits.TheConstants.{CAPACITY_MOST}
use Rattle.lane_model.specs.declared.stages.Sending.{Sending}
use Rattle.lane_model.specs.declared.stages.SendStage.{SendStage}
use Rattle.lane_model.specs.declared.stages.Receiving.{Receiving}
use Rattle.lane_model.specs.declared.stages.Work.{Work}
use Rattle.lane_model.specs.declared.stages.Turn.{Turn}
use Rattle.lane_model.specs.Lanes.{call_of}
use Rattle.ring_core.specs.declared.states.RingState.{RingState}
use Rattle.ring_core.specs.declared.ring_lanes.RingLane.TheInside.{Inside}
use Rattle.ring_core.specs.SoundRings.{IsSoundRings}

-- the lane and the rings that these parts are
abbrev pub state_of : {D : Type 0} → Inside D → RingState D
state_of a = record {
  lane = a.lane;
  rings = record {
    sizes = a.sizes;
    forward_index = a.forward_index;
    return_index = a.return_index;
    forward = a.forward.items;
    returns = a.returns.items;
    sending = a.sending;
    taking = a.taking;
    hands = a.hands.items;
    aside = a.aside.items;
    buffers = a.buffers.items;
  };
}

-- the rings are sound, and there is room for what can be in hand or aside
pub record IsRingInside {D : Type 0} (a : Inside D) : Type 0 where
  pub sound : IsSoundRings (state_of a)
  pub hands_room : CAPACITY_MOST ≤ vec_capacity a.hands
  pub aside_room : CAPACITY_MOST ≤ vec_capacity a.aside

-- the step that the send has done last, where it has the sender's turn and its end is not settled
abbrev pub stage_of : Turn Sending → Option SendStage
stage_of now = option_map (λ send. send.stage) (call_of now)

-- what the call that has the receiver's turn is about, where its end is not settled
abbrev pub work_of : Turn Receiving → Option Work
work_of now = option_map (λ call. call.work) (call_of now)
