-- What a call of a caller that the manager carries does to its two lanes, and what it was handed, by the state that the manager knows (own).
use Rattle.std.specs.Prelude.{◌≡◌, ℕ, List, length}
use Rattle.lane_model.specs.declared.calls.Answer.{Answer}
use Rattle.lane_model.specs.declared.calls.Answer.TheVariants as answer
use Rattle.lane_model.specs.declared.lane_links.LaneLink.{LaneLink}
use Rattle.lane_model.specs.declared.stages.TakeStage.TheVariants as take_stage
use Rattle.lane_model.specs.declared.stages.Work.TheVariants as work
use Rattle.lane_model.specs.declared.states.Lane.{Lane}
use Rattle.lane_model.specs.HeldBuffers.{HeldBuffer}
use Rattle.lane_model.specs.Lanes.{message_at}
use Rattle.lane_model.specs.Links.{incoming_number}
use Rattle.lane_model.specs.Receives.{with_handed, with_returned}
use Rattle.lane_model.specs.Sends.{with_accepted}
use Rattle.ring_core.specs.declared.states.RingState.{RingState}
use Rattle.link_words.specs.declared.rule.LinkSizes.{LinkSizes}
use Rattle.link_words.specs.Calls.{SeatState}
use Rattle.link_words.specs.Words.{lane_to, other}
use Rattle.split_ring.specs.declared.callers.CallerId.{CallerId}
use Rattle.split_ring.specs.CallPhases.{Phase}
use Rattle.split_ring.specs.CallPhases as phase
use Rattle.split_ring.specs.declared.takes.TakeCall.{TakeCall}
use Rattle.split_ring.specs.Receives.{HasBufferOut, lane_number}

-- a buffer of the lane to this caller's end, in the hands of this caller, with the message that has its number
pub record IsOwnBuffer {D : Type 0} (who : CallerId) (m : LaneLink (RingState D)) (held : HeldBuffer) : Type 0 where
  pub lane : held.lane ≡ incoming_number who.end
  pub caller : held.caller ≡ who.number
  pub message : held.message ≡ message_at (lane_to m who.end).lane.lane.accepted held.number

-- a buffer that a call is handed in this state is the next one of its lane
abbrev pub IsHandedIn : {D : Type 0} → CallerId → LaneLink (RingState D) → Answer → Type 0
IsHandedIn who m (answer.Took held verdict) = IsOwnBuffer who m held × (held.number ≡ length (lane_to m who.end).lane.lane.takers)
IsHandedIn who m said = Unit {0}

-- the lane from which a caller takes, after the step that settles that its call has this answer: a message was handed over, or a buffer is back
abbrev pub incoming_by : ℕ → Answer → Lane → Lane
incoming_by caller (answer.Took held verdict) lane = with_handed lane caller
incoming_by caller (answer.Gave number) lane = with_returned lane number caller
incoming_by caller said lane = lane

-- the lane on which it sends: this message was accepted
abbrev pub outgoing_by : ℕ → List ℕ → Answer → Lane → Lane
outgoing_by caller message (answer.Sent number) lane = with_accepted lane caller message
outgoing_by caller message said lane = lane

-- the call of this caller settled that it has this answer, in this state and to that one
pub record Settles {D : Type 0} (who : CallerId) (said : Answer) (m m' : LaneLink (RingState D)) : Type 0 where
  pub handed : IsHandedIn who m said
  pub incoming : (lane_to m' who.end).lane.lane ≡ incoming_by who.number said (lane_to m who.end).lane.lane
  pub message : List ℕ
  pub outgoing : (lane_to m' (other who.end)).lane.lane ≡ outgoing_by who.number message said (lane_to m (other who.end)).lane.lane

-- a step of its call changed nothing of what is accepted, handed over, held and back
pub record LeavesLanes {D : Type 0} (m m' : LaneLink (RingState D)) : Type 0 where
  pub to_host : m'.to_host.lane.lane ≡ m.to_host.lane.lane
  pub to_remote : m'.to_remote.lane.lane ≡ m.to_remote.lane.lane

-- a step that left a call in this phase: it settled the call's answer, or it changed nothing of that
abbrev pub StepsLanes : {D : Type 0} → CallerId → Phase → LaneLink (RingState D) → LaneLink (RingState D) → Type 0
StepsLanes who (phase.LeavesSender said) m m' = Settles who said m m'
StepsLanes who (phase.LeavesReceiver said) m m' = Settles who said m m'
StepsLanes who other m m' = LeavesLanes m m'

-- a buffer that a take hands over is the one that it has out, with the message that is in it
pub record IsBufferOf (z : LinkSizes) (c : TakeCall) (buffer : ℕ) (held : HeldBuffer) (me : SeatState) : Type 0 where
  pub lane : held.lane ≡ lane_number c.who.end
  pub caller : held.caller ≡ c.who.number
  pub out : HasBufferOut z c (work.Take take_stage.Buffer) buffer held.message me

-- the same, where a step that left the take in this phase handed a buffer over
abbrev pub HandsBufferOf : LinkSizes → TakeCall → ℕ → Phase → SeatState → Type 0
HandsBufferOf z c buffer (phase.LeavesReceiver (answer.Took held verdict)) me = IsBufferOf z c buffer held me
HandsBufferOf z c buffer other me = Unit {0}
