-- The numbers and the bytes of a link that are within their types: bytes of 8 bits, addresses and incarnations of 32, counts of 64 (own).
use Rattle.std.specs.Prelude.{◌≡◌, ℕ, ◌<◌, ◌≤◌, ◌^◌, List, length, IfSome, All}
use Rattle.rp_base.specs.declared.kinds.BindFault.{BindFault}
use Rattle.rp_base.specs.declared.kinds.BindFault.TheVariants as bind_fault
use Rattle.rp_base.specs.declared.kinds.BoundEndpoint.{BoundEndpoint}
use Rattle.rp_base.specs.declared.kinds.Endpoint.{Endpoint}
use Rattle.rp_base.specs.declared.kinds.Verdict.{Verdict}
use Rattle.rp_base.specs.declared.kinds.Verdict.TheVariants as verdict
use Rattle.rp_base.specs.declared.limits.TheConstants.{CALLERS_MOST, ENDPOINTS_MOST, NAME_MOST}
use Rattle.lane_model.specs.declared.calls.CallEnd.{CallEnd}
use Rattle.lane_model.specs.declared.calls.CallEnd.TheVariants as end
use Rattle.lane_model.specs.declared.calls.Outcome.{Outcome}
use Rattle.lane_model.specs.declared.calls.Outcome.TheVariants as outcome
use Rattle.lane_model.specs.declared.calls.Wish.{Wish}
use Rattle.lane_model.specs.declared.calls.Wish.TheVariants as wish
use Rattle.lane_model.specs.declared.stages.Receiving.{Receiving}
use Rattle.lane_model.specs.declared.stages.Sending.{Sending}
use Rattle.lane_model.specs.declared.stages.Turn.{Turn}
use Rattle.lane_model.specs.declared.stages.Turn.TheVariants as turn
use Rattle.lane_model.specs.declared.stages.Work.{Work}
use Rattle.lane_model.specs.declared.stages.Work.TheVariants as work
use Rattle.lane_model.specs.declared.states.LaneState.{LaneState}
use Rattle.lane_model.specs.Lanes.{message_at}
use Rattle.lane_model.specs.Links.{LinkState}
use Rattle.endpoint_map.specs.Bindings.{Bindings}
use Rattle.name_service.specs.declared.channels.Channel.{Channel}
use Rattle.channel_bus.specs.Sides.{EndState}

abbrev pub AreBytes : List ℕ → Type 0
AreBytes bytes = All (λ byte. byte < 256) bytes

-- the name of a channel: of at most so many bytes as a name has, none of which is zero
abbrev pub IsChannelName : List ℕ → Type 0
IsChannelName name = (length name ≤ NAME_MOST) × All (λ byte. (0 < byte) × (byte < 256)) name

abbrev pub IsFieldEndpoint : Endpoint → Type 0
IsFieldEndpoint endpoint = (endpoint.address < 2 ^ 32) × (endpoint.generation < 2 ^ 64)

abbrev pub IsFieldVerdict : Verdict → Type 0
IsFieldVerdict (verdict.To endpoint) = IsFieldEndpoint endpoint
IsFieldVerdict (verdict.Dropped address) = address < 2 ^ 32
IsFieldVerdict verdict.Malformed = Unit {0}
IsFieldVerdict (verdict.Service kind name address bound) = IsChannelName name × (address < 2 ^ 32) × IfSome bound IsFieldEndpoint
IsFieldVerdict verdict.ServiceMalformed = Unit {0}

abbrev pub IsFieldFault : BindFault → Type 0
IsFieldFault (bind_fault.AddressTaken address) = address < 2 ^ 32
IsFieldFault bind_fault.EndpointsFull = Unit {0}
IsFieldFault (bind_fault.NotBound address) = address < 2 ^ 32

abbrev pub IsFieldEnd : CallEnd → Type 0
IsFieldEnd (end.Sent number) = number < 2 ^ 64
IsFieldEnd (end.Took number judged) = (number < 2 ^ 64) × IsFieldVerdict judged
IsFieldEnd (end.Gave number) = number < 2 ^ 64
IsFieldEnd (end.Bound endpoint) = IsFieldEndpoint endpoint
IsFieldEnd (end.Unbound endpoint) = IsFieldEndpoint endpoint
IsFieldEnd (end.Busy holder) = holder < 2 ^ 64
IsFieldEnd (end.Dead era) = era.inc < 2 ^ 32
IsFieldEnd (end.NoBuffer accepted returned) = (accepted < 2 ^ 64) × (returned < 2 ^ 64)
IsFieldEnd (end.BookFull accepted) = accepted < 2 ^ 64
IsFieldEnd (end.Empty accepted) = accepted < 2 ^ 64
IsFieldEnd (end.Refused why) = IsFieldFault why

abbrev pub IsFieldOutcome : Outcome → Type 0
IsFieldOutcome (outcome.At step) = step < 2 ^ 64
IsFieldOutcome (outcome.Ended ended) = IsFieldEnd ended

abbrev pub IsFieldWish : Wish → Type 0
IsFieldWish (wish.Send message) = AreBytes message
IsFieldWish wish.Take = Unit {0}
IsFieldWish (wish.Give number) = number < 2 ^ 64
IsFieldWish (wish.Bind address) = address < 2 ^ 32
IsFieldWish (wish.Unbind address) = address < 2 ^ 32

abbrev pub IsFieldWork : Work → Type 0
IsFieldWork (work.Take stage) = Unit {0}
IsFieldWork (work.Give number stage) = number < 2 ^ 64
IsFieldWork (work.Bind address) = address < 2 ^ 32
IsFieldWork (work.Unbind address) = address < 2 ^ 32

-- the call that has a turn, by its own fields, or its end that is settled
abbrev pub IsFieldTurn : {C : Type 0} → (C → Type 0) → Turn C → Type 0
IsFieldTurn P turn.Free = Unit {0}
IsFieldTurn P (turn.Taken caller call) = P call
IsFieldTurn P (turn.Leaving caller ended) = IsFieldEnd ended
IsFieldTurn P turn.Manager = Unit {0}

abbrev pub IsFieldSending : Sending → Type 0
IsFieldSending sending = AreBytes sending.message

abbrev pub IsFieldReceiving : Receiving → Type 0
IsFieldReceiving receiving = IsFieldWork receiving.work

pub record IsFieldChannel (channel : Channel) : Type 0 where
  pub name : IsChannelName channel.name
  pub address : channel.address < 2 ^ 32
  pub endpoint : IfSome channel.endpoint IsFieldEndpoint

-- the endpoints of an end, of which there are few, and the count of its bindings
pub record AreFieldBindings (bindings : Bindings) : Type 0 where
  pub bound : All (λ (bound : BoundEndpoint). IsFieldEndpoint bound.endpoint) bindings.bound
  pub few : length bindings.bound ≤ ENDPOINTS_MOST
  pub count : bindings.count < 2 ^ 64

-- an end of a link with its endpoints and its channels
pub record IsFieldSide (side : EndState) : Type 0 where
  pub bindings : AreFieldBindings side.bindings
  pub channels : All IsFieldChannel side.channels

pub record IsFieldLane (state : LaneState EndState) : Type 0 where
  pub accepted : (number : ℕ) → AreBytes (message_at state.lane.accepted number)
  pub book : state.lane.book < 2 ^ 64
  pub sender : IsFieldTurn IsFieldSending state.sender
  pub receiver : IsFieldTurn IsFieldReceiving state.receiver
  pub desk : IsFieldSide state.desk

pub record IsFieldLink (link : LinkState EndState) : Type 0 where
  pub inc : link.era.inc < 2 ^ 32
  pub to_host : IsFieldLane link.to_host
  pub to_remote : IsFieldLane link.to_remote
  pub callers : length link.callers ≡ CALLERS_MOST
