-- A call from where it is to its end, and how many steps may still follow (own).
use Rattle.std.specs.Prelude.{ℕ, zero, suc, if◌then◌else◌, Option, Some, None}
use Rattle.std.specs.Option.{option_map_or}
use Rattle.lane_model.specs.declared.states.LaneState.{LaneState}
use Rattle.lane_model.specs.declared.lane_links.LaneLink.{LaneLink}
use Rattle.lane_model.specs.declared.stages.Sending.{Sending}
use Rattle.lane_model.specs.declared.stages.SendStage.{SendStage}
use Rattle.lane_model.specs.declared.stages.SendStage.TheVariants as stage
use Rattle.lane_model.specs.declared.stages.Receiving.{Receiving}
use Rattle.lane_model.specs.declared.stages.Work.{Work}
use Rattle.lane_model.specs.declared.stages.Work.TheVariants as work
use Rattle.lane_model.specs.declared.stages.TakeStage.TheVariants as take_stage
use Rattle.lane_model.specs.declared.stages.GiveStage.TheVariants as give_stage
use Rattle.lane_model.specs.declared.stages.Turn.{Turn}
use Rattle.lane_model.specs.declared.stages.Turn.TheVariants as turn
use Rattle.lane_model.specs.declared.calls.Wish.{Wish}
use Rattle.lane_model.specs.declared.calls.CallEnd.{CallEnd}
use Rattle.lane_model.specs.declared.calls.Outcome.{Outcome}
use Rattle.lane_model.specs.declared.calls.Outcome.TheVariants as outcome
use Rattle.lane_model.specs.Desks.{DeskMeaning}
use Rattle.lane_model.specs.Lanes.{has_call}
use Rattle.lane_model.specs.Forms.{FormMeaning, list_form}
use Rattle.lane_model.specs.Links.{LinkState, Lanes, lanes_of, form_step, end_of}

-- the link when a call has ended, and how it ended
pub record Ended (S : Type 0) : Type 0 where
  pub state : S
  pub end : CallEnd

-- the end of a call where a step ended it, else what the later steps say
abbrev pub ended_or : {S : Type 0} → S → Outcome → Option (Ended S) → Option (Ended S)
ended_or state (outcome.At step) rest = rest
ended_or state (outcome.Ended end) rest = Some (record { state = state; end = end })

-- the steps of a call up to its end, at most so many, on a link with lanes of some form; no end where it takes more
unfoldable pub form_to_end : {L D : Type 0} → ℕ → FormMeaning L D → DeskMeaning D → LaneLink L → ℕ → ℕ → Option Wish → Option (Ended (LaneLink L))
form_to_end zero form desk link caller follows wished = None
form_to_end (suc n) form desk link caller follows wished =
    let step = form_step form desk link caller follows wished in
    ended_or step.state step.outcome (form_to_end n form desk step.state caller follows None)

-- the steps of a call up to its end, at most so many
abbrev pub steps_to_end : {D : Type 0} → ℕ → DeskMeaning D → LinkState D → ℕ → ℕ → Option Wish → Option (Ended (LinkState D))
steps_to_end n desk link caller follows wished = form_to_end n (list_form desk) desk link caller follows wished

-- how many steps may follow the next one of a call that has a turn: none, where its end is settled
abbrev pub steps_left_of_turn : {C : Type 0} → (C → ℕ) → Turn C → ℕ
steps_left_of_turn of_call turn.Free = 0
steps_left_of_turn of_call (turn.Taken caller call) = of_call call
steps_left_of_turn of_call (turn.Leaving caller end) = 0
steps_left_of_turn of_call turn.Manager = 0

-- how many steps of a send may follow the next one
abbrev pub steps_left_of_send : SendStage → ℕ
steps_left_of_send stage.Turn = 5
steps_left_of_send stage.Era = 4
steps_left_of_send stage.Look = 3
steps_left_of_send stage.Buffer = 2
steps_left_of_send stage.Entry = 1

-- how many steps of the other calls may follow the next one
abbrev pub steps_left_of_work : Work → ℕ
steps_left_of_work (work.Take take_stage.Turn) = 4
steps_left_of_work (work.Take take_stage.Era) = 3
steps_left_of_work (work.Take take_stage.Look) = 2
steps_left_of_work (work.Take take_stage.Buffer) = 1
steps_left_of_work (work.Give number give_stage.Turn) = 2
steps_left_of_work (work.Give number give_stage.Entry) = 1
steps_left_of_work (work.Bind address) = 1
steps_left_of_work (work.Unbind address) = 1

-- how many steps of a caller's call may follow the next one: six, where it has done none
abbrev pub steps_left_on : {D : Type 0} → Lanes (LaneState D) → ℕ → Option Wish → ℕ
steps_left_on lanes caller (Some wished) = 6
steps_left_on lanes caller None =
    if has_call lanes.outgoing.sender caller then steps_left_of_turn (λ (s : Sending). steps_left_of_send s.stage) lanes.outgoing.sender
    else steps_left_of_turn (λ (r : Receiving). steps_left_of_work r.work) lanes.incoming.receiver

-- how many steps of a caller's call may follow the next one
abbrev pub left_of : {D : Type 0} → LinkState D → ℕ → Option Wish → ℕ
left_of link caller wished = option_map_or (λ end. steps_left_on (lanes_of link end) caller wished) (end_of link.callers caller) 0

-- a fact that holds where a step leaves its call under way
abbrev pub WhereOn : Outcome → Type 0 → Type 0
WhereOn (outcome.At step) P = P
WhereOn (outcome.Ended end) P = Unit {0}

-- the call has an end
abbrev pub HasEnd : {S : Type 0} → Option (Ended S) → Type 0
HasEnd None = ⊥
HasEnd (Some ended) = Unit {0}
