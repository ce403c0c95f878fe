-- A step of a caller of a link: which lane and which end of it the call works on, and what it leaves (own).
use Rattle.std.specs.Prelude.{ℕ, List, slice_get, slice_set, Option, Some, None, option_and_then, is_none, replicate, true, if◌then◌else◌}
use Rattle.std.specs.List.{position}
use Rattle.rp_base.specs.declared.kinds.Era.{Era}
use Rattle.rp_base.specs.declared.kinds.End.{End}
use Rattle.rp_base.specs.declared.kinds.End.TheVariants as side
use Rattle.rp_base.specs.declared.limits.TheConstants.{CALLERS_MOST}
use Rattle.rp_base.specs.Limits.{ring_capacity}
use Rattle.lane_model.specs.declared.states.LaneState.{LaneState}
use Rattle.lane_model.specs.declared.lane_links.LaneLink.{LaneLink}
use Rattle.lane_model.specs.declared.stages.Work.{Work}
use Rattle.lane_model.specs.declared.stages.Work.TheVariants as work
use Rattle.lane_model.specs.declared.stages.TakeStage.TheVariants as take_stage
use Rattle.lane_model.specs.declared.stages.GiveStage.TheVariants as give_stage
use Rattle.lane_model.specs.declared.calls.Wish.{Wish}
use Rattle.lane_model.specs.declared.calls.Wish.TheVariants as wish
use Rattle.lane_model.specs.declared.calls.CallEnd.TheVariants as end
use Rattle.lane_model.specs.declared.calls.Outcome.{Outcome}
use Rattle.lane_model.specs.declared.calls.Outcome.TheVariants as outcome
use Rattle.lane_model.specs.declared.calls.LinkConfig.{LinkConfig}
use Rattle.lane_model.specs.Desks.{DeskMeaning}
use Rattle.lane_model.specs.Lanes.{Stepped, still, holder, has_call}
use Rattle.lane_model.specs.Sends.{sender_step}
use Rattle.lane_model.specs.Receives.{receiver_step}
use Rattle.lane_model.specs.Forms.{FormMeaning, list_form}
use Rattle.lane_model.specs.Crashes.{opened_lane}

-- the state of a link: its era, its lanes as lists with their turns and desks, and the ends of its callers
abbrev pub LinkState : Type 0 → Type 0
LinkState D = LaneLink (LaneState D)

-- the link that a link with lanes of some form stands for
abbrev pub link_of : {L D : Type 0} → FormMeaning L D → LaneLink L → LinkState D
link_of form link =
    record { era = link.era; to_host = form.state link.to_host; to_remote = form.state link.to_remote; callers = link.callers }

-- the lane that a caller sends on and the one that it takes from
pub record Lanes (L : Type 0) : Type 0 where
  pub outgoing : L
  pub incoming : L

-- a host caller sends on lane 1, to the remote, and takes from lane 0, to the host; a remote caller the other way
abbrev pub lanes_of : {L : Type 0} → LaneLink L → End → Lanes L
lanes_of link side.Host = record { outgoing = link.to_remote; incoming = link.to_host }
lanes_of link side.Remote = record { outgoing = link.to_host; incoming = link.to_remote }

-- the link with these lanes, as a caller of this end sees them
abbrev pub with_lanes : {L : Type 0} → LaneLink L → End → Lanes L → LaneLink L
with_lanes link side.Host lanes = record link { to_remote = lanes.outgoing; to_host = lanes.incoming }
with_lanes link side.Remote lanes = record link { to_host = lanes.outgoing; to_remote = lanes.incoming }

-- the number of the lane that callers of this end take from
abbrev pub incoming_number : End → ℕ
incoming_number side.Host = 0
incoming_number side.Remote = 1

-- the end of the caller of this number, where it is in use
abbrev pub end_of : List (Option End) → ℕ → Option End
end_of callers caller = option_and_then (λ found. found) (slice_get callers caller)

-- step 1 of a call, by who had the turn
abbrev pub begun_outcome : Option ℕ → Outcome
begun_outcome None = outcome.At 1
begun_outcome (Some holder) = outcome.Ended (end.Busy holder)

-- step 1 of a send
abbrev pub send_first : {L D : Type 0} → FormMeaning L D → Lanes L → ℕ → ℕ → List ℕ → Stepped (Lanes L)
send_first form lanes caller follows message = record {
  state = record lanes { outgoing = form.after_send_start lanes.outgoing caller follows message };
  outcome = begun_outcome (holder (form.state lanes.outgoing).sender);
}

-- step 1 of a call that needs the receiver's turn
abbrev pub receive_first : {L D : Type 0} → FormMeaning L D → Lanes L → ℕ → ℕ → Work → Stepped (Lanes L)
receive_first form lanes caller follows first = record {
  state = record lanes { incoming = form.after_receive_start lanes.incoming caller follows first };
  outcome = begun_outcome (holder (form.state lanes.incoming).receiver);
}

-- step 1 of a call
abbrev pub first_step : {L D : Type 0} → FormMeaning L D → Lanes L → ℕ → ℕ → Wish → Stepped (Lanes L)
first_step form lanes caller follows (wish.Send message) = send_first form lanes caller follows message
first_step form lanes caller follows wish.Take = receive_first form lanes caller follows (work.Take take_stage.Turn)
first_step form lanes caller follows (wish.Give number) = receive_first form lanes caller follows (work.Give number give_stage.Turn)
first_step form lanes caller follows (wish.Bind address) = receive_first form lanes caller follows (work.Bind address)
first_step form lanes caller follows (wish.Unbind address) = receive_first form lanes caller follows (work.Unbind address)

-- a later step of the send of this caller
abbrev pub send_later : {L D : Type 0} → FormMeaning L D → Era → Lanes L → Stepped (Lanes L)
send_later form era lanes = record {
  state = record lanes { outgoing = form.sent_on lanes.outgoing era };
  outcome = (sender_step era (form.state lanes.outgoing)).outcome;
}

-- a later step of a call that has the receiver's turn
abbrev pub receive_later : {L D : Type 0} → FormMeaning L D → DeskMeaning D → Era → Lanes L → Stepped (Lanes L)
receive_later form desk era lanes = record {
  state = record lanes { incoming = form.received_on lanes.incoming era };
  outcome = (receiver_step desk era (form.state lanes.incoming)).outcome;
}

-- a step of a caller of these lanes: step 1 of what it wishes, else a later step of its send, where it has one, or of its call on the other lane
abbrev pub lanes_step : {L D : Type 0} → FormMeaning L D → DeskMeaning D → Era → Lanes L → ℕ → ℕ → Option Wish → Stepped (Lanes L)
lanes_step form desk era lanes caller follows (Some wished) = first_step form lanes caller follows wished
lanes_step form desk era lanes caller follows None =
    if has_call (form.state lanes.outgoing).sender caller then send_later form era lanes else receive_later form desk era lanes

-- a step on the lanes of a caller of this end; a number that is not in use has no step
abbrev pub on_lanes : {L : Type 0} → LaneLink L → Option End → (Lanes L → Stepped (Lanes L)) → Stepped (LaneLink L)
on_lanes link (Some end) step = record { state = with_lanes link end (step (lanes_of link end)).state; outcome = (step (lanes_of link end)).outcome }
on_lanes link None step = still link

-- step 1 of a call that needs the receiver's turn, on a link with lanes of some form
abbrev pub after_work_start : {L D : Type 0} → FormMeaning L D → LaneLink L → ℕ → ℕ → Work → Stepped (LaneLink L)
after_work_start form link caller follows first = on_lanes link (end_of link.callers caller) (λ lanes. receive_first form lanes caller follows first)

-- a step of a caller's call on a link with lanes of some form. The call follows an incarnation; the wish is there where it has done no step
abbrev pub form_step : {L D : Type 0} → FormMeaning L D → DeskMeaning D → LaneLink L → ℕ → ℕ → Option Wish → Stepped (LaneLink L)
form_step form desk link caller follows wished =
    on_lanes link (end_of link.callers caller) (λ lanes. lanes_step form desk link.era lanes caller follows wished)

-- a step of a caller's call
abbrev pub caller_step : {D : Type 0} → DeskMeaning D → LinkState D → ℕ → ℕ → Option Wish → Stepped (LinkState D)
caller_step desk link caller follows wished = form_step (list_form desk) desk link caller follows wished

-- the least number that is not in use
abbrev pub free_number : List (Option End) → Option ℕ
free_number callers = position (λ found. is_none found) callers

-- the callers with one more, under the least free number
abbrev pub with_caller : List (Option End) → End → Option ℕ → List (Option End)
with_caller callers new (Some number) = slice_set callers number (Some new)
with_caller callers new None = callers

-- a new link: live in its first incarnation, with two lanes and no callers
abbrev pub opened : {L : Type 0} → ℕ → L → L → LaneLink L
opened first to_host to_remote = record {
  era = record { inc = first; is_live = true };
  to_host = to_host;
  to_remote = to_remote;
  callers = replicate CALLERS_MOST None;
}

-- a new link: live in its first incarnation, with empty lanes, free turns and no callers
abbrev pub opened_link : {D : Type 0} → LinkConfig → D → D → LinkState D
opened_link config host remote = opened config.first
    (opened_lane (ring_capacity config.num0) config.book host) (opened_lane (ring_capacity config.num1) config.book remote)
