-- The steps of a take, a give, a binding and an unbinding, which need the receiver's turn
-- (on lane 0, whose receiver is the driver, the order of VIRTIO 1.2 section 2.7.14, "Receiving Used Buffers From The Device"; the rest is own).
use Rattle.std.specs.Prelude.{ℕ, ◌+◌, ◌==◌, if◌then◌else◌, ◌∷◌, [], ◌++◌, length, Result, Ok, Err}
use Rattle.rp_base.specs.declared.kinds.Era.{Era}
use Rattle.rp_base.specs.declared.kinds.Endpoint.{Endpoint}
use Rattle.rp_base.specs.declared.kinds.BindFault.{BindFault}
use Rattle.lane_model.specs.declared.states.Lane.{Lane}
use Rattle.lane_model.specs.declared.states.LaneState.{LaneState}
use Rattle.lane_model.specs.declared.stages.Receiving.{Receiving}
use Rattle.lane_model.specs.declared.stages.Work.{Work}
use Rattle.lane_model.specs.declared.stages.Work.TheVariants as work
use Rattle.lane_model.specs.declared.stages.TakeStage.{TakeStage}
use Rattle.lane_model.specs.declared.stages.TakeStage.TheVariants as take_stage
use Rattle.lane_model.specs.declared.stages.GiveStage.{GiveStage}
use Rattle.lane_model.specs.declared.stages.GiveStage.TheVariants as give_stage
use Rattle.lane_model.specs.declared.stages.Turn.{Turn}
use Rattle.lane_model.specs.declared.stages.Turn.TheVariants as turn
use Rattle.lane_model.specs.declared.calls.CallEnd.{CallEnd}
use Rattle.lane_model.specs.declared.calls.CallEnd.TheVariants as end
use Rattle.lane_model.specs.declared.calls.Outcome.TheVariants as outcome
use Rattle.lane_model.specs.Desks.{DeskMeaning}
use Rattle.lane_model.specs.Lanes.{Stepped, is_live_in, taken_by, turn_step, message_at, without}

-- the next message is handed to this caller
abbrev pub with_handed : Lane → ℕ → Lane
with_handed lane caller = record lane {
  takers = lane.takers ++ caller ∷ [];
  held = lane.held ++ record { number = length lane.takers; caller = caller } ∷ [];
}

-- the buffer of the message of this number is back from this caller
abbrev pub with_returned : Lane → ℕ → ℕ → Lane
with_returned lane number caller = record lane { held = without lane.held number caller; returned = lane.returned + 1 }

-- step 1 where the turn is free, and no change where it is not
abbrev pub after_receive_start : {D : Type 0} → LaneState D → ℕ → ℕ → Work → LaneState D
after_receive_start state caller follows first =
    record state { receiver = taken_by state.receiver caller (record { follows = follows; work = first }) }

-- the receiver's turn after a step that leaves the call under way
abbrev pub receiver_at : {D : Type 0} → LaneState D → Turn Receiving → ℕ → Stepped (LaneState D)
receiver_at state next step = record { state = record state { receiver = next }; outcome = outcome.At step }

-- what the era decides: the take goes on in its incarnation, live
abbrev pub after_take_era : Era → ℕ → Receiving → Turn Receiving
after_take_era era caller r =
    if is_live_in era r.follows then turn.Taken caller (record r { work = work.Take take_stage.Era }) else turn.Leaving caller (end.Dead era)

-- what a look for a message decides
abbrev pub after_take_look : Lane → ℕ → Receiving → Turn Receiving
after_take_look lane caller r =
    if length lane.takers == length lane.accepted then turn.Leaving caller (end.Empty (length lane.accepted))
    else turn.Taken caller (record r { work = work.Take take_stage.Look })

-- the handing: the desk judges the message that is next
abbrev pub after_handing : {D : Type 0} → DeskMeaning D → LaneState D → ℕ → LaneState D
after_handing desk state caller =
    let number = length state.lane.takers in
    let message = message_at state.lane.accepted number in
    record state {
      lane = with_handed state.lane caller;
      receiver = turn.Leaving caller (end.Took number (desk.verdict state.desk number message));
      desk = desk.delivered state.desk number message;
    }

-- a take, which loads the era again before it hands over
abbrev pub take_step : {D : Type 0} → DeskMeaning D → Era → LaneState D → ℕ → Receiving → TakeStage → Stepped (LaneState D)
take_step desk era state caller r take_stage.Turn = receiver_at state (after_take_era era caller r) 2
take_step desk era state caller r take_stage.Era = receiver_at state (after_take_look state.lane caller r) 3
take_step desk era state caller r take_stage.Look = receiver_at state (turn.Taken caller (record r { work = work.Take take_stage.Buffer })) 4
take_step desk era state caller r take_stage.Buffer = record {
  state = if is_live_in era r.follows then after_handing desk state caller else record state { receiver = turn.Leaving caller (end.Dead era) };
  outcome = outcome.At 5;
}

-- a give, which loads no era and works in a closed one
abbrev pub give_step : {D : Type 0} → LaneState D → ℕ → Receiving → ℕ → GiveStage → Stepped (LaneState D)
give_step state caller r number give_stage.Turn =
    receiver_at state (turn.Taken caller (record r { work = work.Give number give_stage.Entry })) 2
give_step state caller r number give_stage.Entry =
    receiver_at (record state { lane = with_returned state.lane number caller }) (turn.Leaving caller (end.Gave number)) 3

-- how a binding or an unbinding ends, by what the desk says
abbrev pub desk_end : (Endpoint → CallEnd) → Result Endpoint BindFault → CallEnd
desk_end done (Ok endpoint) = done endpoint
desk_end done (Err fault) = end.Refused fault

-- a binding or an unbinding, by the desk that it leaves and its end
abbrev pub desk_step : {D : Type 0} → Era → LaneState D → ℕ → Receiving → D → CallEnd → Stepped (LaneState D)
desk_step era state caller r desk ended = record {
  state = if is_live_in era r.follows then record state { receiver = turn.Leaving caller ended; desk = desk }
      else record state { receiver = turn.Leaving caller (end.Dead era) };
  outcome = outcome.At 2;
}

-- a call that has the receiver's turn, by its kind
abbrev pub receive_step : {D : Type 0} → DeskMeaning D → Era → LaneState D → ℕ → Receiving → Work → Stepped (LaneState D)
receive_step desk era state caller r (work.Take stage) = take_step desk era state caller r stage
receive_step desk era state caller r (work.Give number stage) = give_step state caller r number stage
receive_step desk era state caller r (work.Bind address) =
    let since = length state.lane.takers in
    desk_step era state caller r (desk.bound state.desk address since) (desk_end end.Bound (desk.bind_answer state.desk address since))
receive_step desk era state caller r (work.Unbind address) =
    desk_step era state caller r (desk.unbound state.desk address) (desk_end end.Unbound (desk.unbind_answer state.desk address))

-- the next step of the call that has the turn
abbrev pub receiver_step : {D : Type 0} → DeskMeaning D → Era → LaneState D → Stepped (LaneState D)
receiver_step desk era state =
    turn_step state (record state { receiver = turn.Free }) (λ caller r. receive_step desk era state caller r r.work) state.receiver
