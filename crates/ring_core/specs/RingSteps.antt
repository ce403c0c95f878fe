-- What each step of a call leaves of the rings of its lane (own; which word a step loads or stores is that of VIRTIO 1.2
-- sections 2.7.13 and 2.7.14 where the driver makes it).
use Rattle.std.specs.Prelude.{ℕ, ◌+◌, ◌%◌, ◌==◌, Bool, not, if◌then◌else◌, List, [], ◌∷◌, ◌++◌, map, filter, length, slice_set, find}
use Rattle.std.specs.Option.{option_map_or}
use Rattle.lane_model.specs.declared.states.Holding.{Holding}
use Rattle.lane_model.specs.declared.stages.Turn.{Turn}
use Rattle.lane_model.specs.declared.stages.Turn.TheVariants as turn
use Rattle.lane_model.specs.declared.stages.SendStage.{SendStage}
use Rattle.lane_model.specs.declared.stages.SendStage.TheVariants as stage
use Rattle.lane_model.specs.declared.stages.Work.{Work}
use Rattle.lane_model.specs.declared.stages.Work.TheVariants as work
use Rattle.lane_model.specs.declared.stages.TakeStage.{TakeStage}
use Rattle.lane_model.specs.declared.stages.TakeStage.TheVariants as take_stage
use Rattle.lane_model.specs.declared.stages.GiveStage.{GiveStage}
use Rattle.lane_model.specs.declared.stages.GiveStage.TheVariants as give_stage
use Rattle.lane_model.specs.Lanes.{is_live_in}
use Rattle.lane_model.specs.Desks.{DeskMeaning}
use Rattle.lane_model.specs.Forms.{FormMeaning}
use Rattle.lane_model.specs.Sends.{after_send_start, sender_step}
use Rattle.lane_model.specs.Receives.{after_receive_start, receiver_step}
use Rattle.lane_model.specs.Crashes.{after_send_end, after_receive_end, reopened_lane}
use Rattle.ring_core.specs.declared.states.Hand.{Hand}
use Rattle.ring_core.specs.declared.states.Rings.{Rings}
use Rattle.ring_core.specs.declared.states.RingState.{RingState}
use Rattle.ring_core.specs.Rings.{buffer_at, source_buffer, return_count, entry_length, entry_of, opened_rings}

-- the index of a ring after one entry more
abbrev pub next_index : ℕ → ℕ
next_index index = (index + 1) % 65536

-- the buffer in which the message of this number is held
abbrev pub held_buffer : List Hand → ℕ → ℕ
held_buffer hands number = option_map_or (λ hand. hand.buffer) (find (λ hand. hand.number == number) hands) 0

-- the hands without that of this number
abbrev pub hands_without : List Hand → ℕ → List Hand
hands_without hands number = filter (λ hand. not (hand.number == number)) hands

-- who holds what, without the buffers
abbrev pub holding_of : Hand → Holding
holding_of hand = record { number = hand.number; caller = hand.caller }

-- a send reads the entry of its buffer, fills the buffer and stores the forward entry, publishes the index
abbrev pub send_leaves : Rings → ℕ → List ℕ → SendStage → Rings
send_leaves rings accepted message stage.Turn = rings
send_leaves rings accepted message stage.Era = rings
send_leaves rings accepted message stage.Look =
    record rings { sending = source_buffer rings.sizes.entries rings.sizes.own rings.returns accepted }
send_leaves rings accepted message stage.Buffer = record rings {
  buffers = slice_set rings.buffers rings.sending message;
  forward = slice_set rings.forward (accepted % rings.sizes.entries)
      (record { id = rings.sending; len = entry_length rings.sizes (length message) });
}
send_leaves rings accepted message stage.Entry = record rings { forward_index = next_index rings.forward_index }

-- a take reads the forward entry of its message, and in a live era the buffer is the caller's
abbrev pub take_leaves : Rings → ℕ → Bool → ℕ → TakeStage → Rings
take_leaves rings handed is_live caller take_stage.Turn = rings
take_leaves rings handed is_live caller take_stage.Era = rings
take_leaves rings handed is_live caller take_stage.Look = record rings { taking = buffer_at rings.sizes.entries rings.forward handed }
take_leaves rings handed is_live caller take_stage.Buffer =
    if is_live then record rings { hands = rings.hands ++ record { number = handed; caller = caller; buffer = rings.taking } ∷ [] } else rings

-- a give stores the return entry of its buffer, publishes the index
abbrev pub give_leaves : Rings → ℕ → ℕ → GiveStage → Rings
give_leaves rings returned number give_stage.Turn = record rings {
  returns = slice_set rings.returns (return_count rings.sizes returned % rings.sizes.entries) (entry_of (held_buffer rings.hands number));
}
give_leaves rings returned number give_stage.Entry =
    record rings { return_index = next_index rings.return_index; hands = hands_without rings.hands number }

-- a call that has the receiver's turn; a binding and an unbinding touch no ring
abbrev pub receive_leaves : {D : Type 0} → RingState D → Bool → ℕ → Work → Rings
receive_leaves s is_live caller (work.Take stage) = take_leaves s.rings (length s.lane.lane.takers) is_live caller stage
receive_leaves s is_live caller (work.Give number stage) = give_leaves s.rings s.lane.lane.returned number stage
receive_leaves s is_live caller (work.Bind address) = s.rings
receive_leaves s is_live caller (work.Unbind address) = s.rings

-- what the call that has the turn makes of the rings, where its end is not settled
abbrev pub by_call : {C : Type 0} → Turn C → Rings → (ℕ → C → Rings) → Rings
by_call turn.Free rings leaves = rings
by_call (turn.Taken caller call) rings leaves = leaves caller call
by_call (turn.Leaving caller end) rings leaves = rings
by_call turn.Manager rings leaves = rings

-- the buffers that this caller has in hand
abbrev pub buffers_of : List Hand → ℕ → List ℕ
buffers_of hands caller = map (λ hand. hand.buffer) (filter (λ hand. hand.caller == caller) hands)

-- the hands of the other callers
abbrev pub hands_of_others : List Hand → ℕ → List Hand
hands_of_others hands caller = filter (λ hand. not (hand.caller == caller)) hands

-- the lane as rings: it stands for its lists, and each step changes the rings too. A reclaim leaves each ring entry and each
-- index, and puts the buffers in hand aside
abbrev pub ring_form : {D : Type 0} → DeskMeaning D → FormMeaning (RingState D) D
ring_form desk = record {
  state = λ s. s.lane;
  after_send_start = λ s caller follows message. record s { lane = after_send_start s.lane caller follows message };
  after_receive_start = λ s caller follows first. record s { lane = after_receive_start s.lane caller follows first };
  sent_on = λ s era. record {
    lane = (sender_step era s.lane).state;
    rings = by_call s.lane.sender s.rings (λ caller call. send_leaves s.rings (length s.lane.lane.accepted) call.message call.stage);
  };
  received_on = λ s era. record {
    lane = (receiver_step desk era s.lane).state;
    rings = by_call s.lane.receiver s.rings (λ caller call. receive_leaves s (is_live_in era call.follows) caller call.work);
  };
  after_send_end = λ s caller. record s { lane = after_send_end s.lane caller };
  after_receive_end = λ s caller. record {
    lane = after_receive_end s.lane caller;
    rings = record s.rings {
      hands = hands_of_others s.rings.hands caller;
      aside = s.rings.aside ++ buffers_of s.rings.hands caller;
    };
  };
  link_after_reopen = λ s. record { lane = reopened_lane desk s.lane; rings = opened_rings s.rings.sizes s.rings.buffers };
}
