-- The steps of a send: take the sender's turn, load the era, look for room, take a buffer, fill it, publish it, leave the turn
-- (on lane 1, whose sender is the driver, the order of VIRTIO 1.2 section 2.7.13, "Supplying Buffers to The Device"; the rest is own).
use Rattle.std.specs.Prelude.{ℕ, ◌+◌, ◌==◌, if◌then◌else◌, List, ◌∷◌, [], ◌++◌, length}
use Rattle.rp_base.specs.declared.kinds.Era.{Era}
use Rattle.lane_model.specs.declared.states.Lane.{Lane}
use Rattle.lane_model.specs.declared.states.LaneState.{LaneState}
use Rattle.lane_model.specs.declared.stages.Sending.{Sending}
use Rattle.lane_model.specs.declared.stages.SendStage.{SendStage}
use Rattle.lane_model.specs.declared.stages.SendStage.TheVariants as stage
use Rattle.lane_model.specs.declared.stages.Turn.{Turn}
use Rattle.lane_model.specs.declared.stages.Turn.TheVariants as turn
use Rattle.lane_model.specs.declared.calls.CallEnd.TheVariants as end
use Rattle.lane_model.specs.declared.calls.Outcome.TheVariants as outcome
use Rattle.lane_model.specs.Lanes.{Stepped, is_live_in, taken_by, turn_step}

-- the lane with one message more in its book
abbrev pub with_accepted : Lane → ℕ → List ℕ → Lane
with_accepted lane caller message = record lane { accepted = lane.accepted ++ record { caller = caller; message = message } ∷ [] }

-- step 1 where the turn is free, and no change where it is not
abbrev pub after_send_start : {D : Type 0} → LaneState D → ℕ → ℕ → List ℕ → LaneState D
after_send_start state caller follows message =
    record state { sender = taken_by state.sender caller (record { follows = follows; message = message; stage = stage.Turn }) }

-- the sender's turn after a step that leaves the send under way
abbrev pub sender_at : {D : Type 0} → LaneState D → Turn Sending → ℕ → Stepped (LaneState D)
sender_at state next step = record { state = record state { sender = next }; outcome = outcome.At step }

-- what the era decides: the send goes on in its incarnation, live
abbrev pub after_send_era : Era → ℕ → Sending → Turn Sending
after_send_era era caller s =
    if is_live_in era s.follows then turn.Taken caller (record s { stage = stage.Era }) else turn.Leaving caller (end.Dead era)

-- what a look for room decides: each buffer is out, the book is full, or there is room
abbrev pub after_send_look : Lane → ℕ → Sending → Turn Sending
after_send_look lane caller s =
    if length lane.accepted == lane.returned + lane.capacity then turn.Leaving caller (end.NoBuffer (length lane.accepted) lane.returned)
    else (if length lane.accepted == lane.book then turn.Leaving caller (end.BookFull (length lane.accepted))
    else turn.Taken caller (record s { stage = stage.Look }))

-- the steps after the first, by the stage that was done last
abbrev pub send_step : {D : Type 0} → Era → LaneState D → ℕ → Sending → SendStage → Stepped (LaneState D)
send_step era state caller s stage.Turn = sender_at state (after_send_era era caller s) 2
send_step era state caller s stage.Era = sender_at state (after_send_look state.lane caller s) 3
send_step era state caller s stage.Look = sender_at state (turn.Taken caller (record s { stage = stage.Buffer })) 4
send_step era state caller s stage.Buffer = sender_at state (turn.Taken caller (record s { stage = stage.Entry })) 5
send_step era state caller s stage.Entry =
    sender_at (record state { lane = with_accepted state.lane caller s.message }) (turn.Leaving caller (end.Sent (length state.lane.accepted))) 6

-- the next step of the send that has the turn
abbrev pub sender_step : {D : Type 0} → Era → LaneState D → Stepped (LaneState D)
sender_step era state =
    turn_step state (record state { sender = turn.Free }) (λ caller s. send_step era state caller s s.stage) state.sender
