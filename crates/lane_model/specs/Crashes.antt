-- What a close, a reclaim and a reopening leave, and why they are refused (own).
use Rattle.std.specs.Prelude.{ℕ, nat_lt, fold, Some, Bool, ◌==◌, not, if◌then◌else◌, List, [], filter, Option, None}
use Rattle.std.specs.List.{list_any}
use Rattle.std.specs.Option.{option_or, option_map_or}
use Rattle.lane_model.specs.declared.states.Holding.{Holding}
use Rattle.lane_model.specs.declared.states.LaneState.{LaneState}
use Rattle.lane_model.specs.declared.stages.Turn.{Turn}
use Rattle.lane_model.specs.declared.stages.Turn.TheVariants as turn
use Rattle.lane_model.specs.Desks.{DeskMeaning}
use Rattle.lane_model.specs.Lanes.{has_call, holder}

-- a new lane: empty lists, nothing given back, free turns
abbrev pub opened_lane : {D : Type 0} → ℕ → ℕ → D → LaneState D
opened_lane capacity book desk = record {
  lane = record { capacity = capacity; book = book; accepted = []; takers = []; held = []; returned = 0 };
  sender = turn.Free;
  receiver = turn.Free;
  desk = desk;
}

-- the turn without the call of this caller
abbrev pub ended_turn : {C : Type 0} → Turn C → ℕ → Turn C
ended_turn now caller = if has_call now caller then turn.Free else now

-- the holdings of the others
abbrev pub held_by_others : List Holding → ℕ → List Holding
held_by_others held caller = filter (λ holding. not (holding.caller == caller)) held

-- this caller holds some buffer
abbrev pub has_held : List Holding → ℕ → Bool
has_held held caller = list_any (λ holding. holding.caller == caller) held

-- the lane on which a caller sends, without its call
abbrev pub after_send_end : {D : Type 0} → LaneState D → ℕ → LaneState D
after_send_end state caller = record state { sender = ended_turn state.sender caller }

-- the lane from which a caller takes, without its call and without what it holds
abbrev pub after_receive_end : {D : Type 0} → LaneState D → ℕ → LaneState D
after_receive_end state caller = record state {
  receiver = ended_turn state.receiver caller;
  lane = record state.lane { held = held_by_others state.lane.held caller };
}

-- who else has the turn
abbrev pub other_holder : {C : Type 0} → Turn C → ℕ → Option ℕ
other_holder now caller = if has_call now caller then None else holder now

-- who else has the receiver's turn, where this caller holds a buffer and so needs it
abbrev pub needed_holder : {D : Type 0} → LaneState D → ℕ → Option ℕ
needed_holder state caller = if has_held state.lane.held caller then other_holder state.receiver caller else None

-- who has a turn of this lane, the sender's first
abbrev pub turn_out : {D : Type 0} → LaneState D → Option ℕ
turn_out state = option_or (holder state.sender) (holder state.receiver)

-- the holding of the lesser number
abbrev pub lesser : Option Holding → Holding → Option Holding
lesser least h = option_map_or (λ found. if nat_lt h.number found.number then Some h else Some found) least (Some h)

-- the holding of the least number
abbrev pub least_held : List Holding → Option Holding
least_held held = fold lesser None held

-- the lane of the next incarnation
abbrev pub reopened_lane : {D : Type 0} → DeskMeaning D → LaneState D → LaneState D
reopened_lane desk state = opened_lane state.lane.capacity state.lane.book (desk.fresh state.desk)
