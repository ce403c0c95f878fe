-- What the parts of a managed link keep: the manager carries each caller, in its call or in none, and what the link's state says is beside (own).
use Rattle.std.specs.Prelude.{◌≡◌, ◌≤◌, ◌<◌, ℕ, true, List, [], length, map, replicate, slice_get, Option, None, Some, IfSome, option_and_then, Vec, vec_capacity}
use mathlib.Core.Option.{some}
use lib.ListN.{get_elem?}
use Rattle.std.specs.Option.{option_map}
use Rattle.std.specs.declared.alloc.Global.{Global}
use Rattle.rp_base.specs.declared.kinds.End.{End}
use Rattle.rp_base.specs.declared.kinds.Era.{Era}
use Rattle.rp_base.specs.declared.kinds.End.TheVariants as side
use Rattle.rp_base.specs.declared.limits.TheConstants.{BOOK_MOST, CALLERS_MOST, CAPACITY_MOST}
use Rattle.lane_model.specs.declared.calls.Answer.{Answer}
use Rattle.lane_model.specs.declared.calls.Answer.TheVariants as answer
use Rattle.lane_model.specs.declared.states.Lane.{Lane}
use Rattle.lane_model.specs.declared.states.LaneState.{LaneState}
use Rattle.lane_model.specs.HeldBuffers.{HeldBuffer}
use Rattle.lane_model.specs.Lanes.{holder, holds, message_at}
use Rattle.lane_model.specs.Links.{LinkState, end_of}
use Rattle.lane_model.specs.Soundness.{SoundLink}
use Rattle.rp_base.specs.Limits.{IsRingSize, ring_capacity}
use Rattle.vring_layout.specs.declared.words.RingWords.{RingWords}
use Rattle.channel_bus.specs.Sides.{EndState}
use Rattle.link_words.specs.Passes.{HasNumber}
use Rattle.link_words.specs.Words.{lane_to}
use Rattle.split_ring.specs.declared.callers.CallerId.{CallerId}
use Rattle.split_ring.specs.declared.callers.Manager.{Manager}
use Rattle.split_ring.specs.CallPhases.{Phase}
use Rattle.split_ring.specs.CallPhases as phase
use Rattle.split_ring.specs.declared.links.SharedLink.{SharedLink}
use Rattle.split_ring.specs.Callers.{IsManagerOf, IsStateOf}
use Rattle.split_ring.specs.Carried.{Carries, CarriesIdle}
use Rattle.split_ring.specs.Handed.{IsOwnBuffer}
use Rattle.split_ring.specs.Phases.{IsUnderWay}
use Rattle.split_ring.specs.Reclaims.{buffer_in, phase_of}
use Rattle.managed_link.specs.declared.call_slots.CarriedCall.{CarriedCall}
use Rattle.managed_link.specs.declared.hands.Hand.{Hand}
use Rattle.managed_link.specs.declared.views.LaneView.{LaneView}
use Rattle.managed_link.specs.EndCodes.{end_coded}
use Rattle.managed_link.specs.Hands.{holding_of}
use Rattle.managed_link.specs.Known.{LinkRings, lists_of}

-- a caller of this number on this end, whose call follows this incarnation
abbrev pub caller_id : ℕ → End → ℕ → CallerId
caller_id number end follows = record { number = number; end = end; follows = follows }

-- no caller is in a call
abbrev pub no_calls : List (Option CarriedCall)
no_calls = replicate CALLERS_MOST None

-- the call that a caller is in
abbrev pub call_of : List (Option CarriedCall) → ℕ → Option CarriedCall
call_of calls caller = option_and_then (λ found. found) (slice_get calls caller)

-- the lane to an end
abbrev pub state_to : LinkState EndState → End → LaneState EndState
state_to link side.Host = link.to_host
state_to link side.Remote = link.to_remote

-- the counts of a lane and who has its turns
abbrev pub view_of : LaneState EndState → LaneView
view_of state = record {
  accepted = length state.lane.accepted;
  handed = length state.lane.takers;
  returned = state.lane.returned;
  sender = holder state.sender;
  receiver = holder state.receiver;
}

-- a buffer that a call was handed is one of this caller, which holds it; and no call whose first step is done gives one back because another has the turn
abbrev pub IsOwnAnswer : CallerId → LinkRings → Answer → Type 0
IsOwnAnswer who m (answer.Took held verdict) = IsOwnBuffer who m held × (holds (lane_to m who.end).lane.lane.held held.number who.number ≡ true)
IsOwnAnswer who m (answer.GiveBusy holder held) = ⊥
IsOwnAnswer who m said = Unit {0}

-- a call has done its first step, and the buffer that it was handed is one of this caller
abbrev pub IsBegun : CallerId → LinkRings → Phase → Type 0
IsBegun who m (phase.Asked asked) = ⊥
IsBegun who m (phase.LeavesSender said) = IsOwnAnswer who m said
IsBegun who m (phase.LeavesReceiver said) = IsOwnAnswer who m said
IsBegun who m other = Unit {0}

-- the manager carries a caller of this number and end, in its call or in none
abbrev pub IsCarriedIn : SharedLink EndState → Manager → LinkRings → ℕ → End → Option CarriedCall → Type 0
IsCarriedIn shared manager m n end None = (follows : ℕ) → CarriesIdle shared manager (caller_id n end follows)
IsCarriedIn shared manager m n end (Some c) = let who = caller_id n end c.follows in Carries shared manager who c.call.phase × IsUnderWay c.call.phase × IsBegun who m c.call.phase

-- a buffer in hand is one of its caller; or it is not here, and the call of its caller has it
abbrev pub IsHandOf : LinkRings → End → List (Option CarriedCall) → Hand → Option HeldBuffer → Type 0
IsHandOf m end calls hand (Some held) = IsOwnBuffer (caller_id hand.caller end 0) m held × (held.number ≡ hand.number)
IsHandOf m end calls hand None = HasNumber (buffer_in (phase_of (option_map (λ (c : CarriedCall). c.call) (call_of calls hand.caller)))) hand.number

-- the buffers in the hands of the callers of an end are those that the lane to it holds, in their order, and there is room for as many as it has
pub record AreHandsOf (m : LinkRings) (end : End) (calls : List (Option CarriedCall)) (hands : Vec Hand Global) : Type 0 where
  pub listed : map holding_of hands.items ≡ (lane_to m end).lane.lane.held
  pub room : (lane_to m end).lane.lane.capacity ≤ vec_capacity hands
  pub own : (place : ℕ) (hand : Hand) → get_elem? hands.items place ≡ some hand → IsHandOf m end calls hand hand.held

-- a lane has no more buffers, and no more room in its book, than any lane may have
pub record IsLimited (lane : Lane) : Type 0 where
  pub buffers : lane.capacity ≤ CAPACITY_MOST
  pub book : lane.book ≤ BOOK_MOST

-- the manager carries every caller of its link, whose state is this one, and knows who has which buffer
pub record IsManaged (shared : SharedLink EndState) (manager : Manager) (calls : List (Option CarriedCall)) (host remote : Vec Hand Global) (m : LinkRings) : Type 0 where
  pub manages : IsManagerOf shared manager
  pub state : IsStateOf end_coded manager m
  pub sound : SoundLink (lists_of m)
  pub limits : IsLimited m.to_host.lane.lane × IsLimited m.to_remote.lane.lane
  pub slots : length calls ≡ CALLERS_MOST
  pub callers : (n : ℕ) (end : End) → end_of m.callers n ≡ Some end → IsCarriedIn shared manager m n end (call_of calls n)
  pub idle : (n : ℕ) → end_of m.callers n ≡ None → call_of calls n ≡ None
  pub to_host : AreHandsOf m side.Host calls host
  pub to_remote : AreHandsOf m side.Remote calls remote

-- who has a turn, if any, is a caller, and not the manager
abbrev pub IsOfCaller : Option ℕ → Type 0
IsOfCaller found = IfSome found (λ caller. caller < CALLERS_MOST)

-- what is beside: the era, the counts of both lanes and who has their turns; no receiver's turn is the manager's
pub record ShowsViews (era : Era) (to_host to_remote : LaneView) (m : LinkRings) : Type 0 where
  pub era_is : era ≡ m.era
  pub host_is : to_host ≡ view_of m.to_host.lane
  pub remote_is : to_remote ≡ view_of m.to_remote.lane
  pub receivers : IsOfCaller to_host.receiver × IsOfCaller to_remote.receiver

-- the manager of this link carries every caller, and knows that the link is in this state
pub record Manages (shared : SharedLink EndState) (manager : Manager) (m : LinkRings) : Type 0 where
  pub manages : IsManagerOf shared manager
  pub state : IsStateOf end_coded manager m

-- the words of rings of a size that rings may have: an entry of either for each descriptor, and a buffer for each up to 256
abbrev pub IsWholeRing : RingWords → Type 0
IsWholeRing words = IsRingSize words.num × (words.capacity ≡ ring_capacity words.num) × (length words.avail ≡ words.num) × (length words.used ≡ words.num)

-- the counts of the lane to an end
abbrev pub counts_to : LinkState EndState → End → ℕ × ℕ × ℕ
counts_to link end = let lane = (state_to link end).lane in (length lane.accepted, length lane.takers, lane.returned)

-- the message of a number on the lane that an end takes from, or no byte
abbrev pub message_for : LinkState EndState → Option End → ℕ → List ℕ
message_for link (Some end) number = message_at (state_to link end).lane.accepted number
message_for link None number = []
