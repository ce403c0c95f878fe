-- What a call asks and says of its caller, by the link (own).
use Rattle.std.specs.Prelude.{◌≡◌, ◌<◌, ℕ, List, [], ◌∷◌, Result}
use Rattle.lane_model.specs.declared.TheConstants.{MANAGER}
use Rattle.rp_base.specs.declared.limits.TheConstants.{CALLERS_MOST}
use base.Stored.{Coded}
use Rattle.link_words.specs.declared.rule.Event.{Event}
use Rattle.link_words.specs.declared.rule.Call.TheVariants.{Gathers}
use Rattle.link_words.specs.Calls.{SeatState}
use Rattle.link_words.specs.Histories.{LaneCounts, seen}
use Rattle.link_words.specs.Orderly.{IsOrderly}
use Rattle.link_words.specs.Passes.{Manages}
use Rattle.link_words.specs.Reopens.{ManagerAt}
use Rattle.link_words.specs.Sides.{no_sides}
use Rattle.link_words.specs.Words.{other}
use Rattle.lane_model.specs.declared.lane_links.LaneLink.{LaneLink}
use Rattle.lane_model.specs.declared.recoveries.Already.{Already}
use Rattle.ring_core.specs.declared.states.RingState.{RingState}
use Rattle.link_words.specs.PlacedLinks.{KnowsState}
use Rattle.lane_model.specs.declared.calls.Ask.{Ask}
use Rattle.lane_model.specs.declared.calls.Progress.{Progress}
use Rattle.lane_model.specs.declared.calls.Progress.TheVariants as progress
use Rattle.lane_model.specs.Desks.{DeskMeaning}
use Rattle.lane_model.specs.HeldBuffers.{HeldBuffer}
use Rattle.rp_base.specs.declared.kinds.Endpoint.{Endpoint}
use Rattle.split_ring.specs.declared.binds.DeskAsk.{DeskAsk}
use Rattle.split_ring.specs.declared.binds.DeskAsk.TheVariants as asks
use Rattle.split_ring.specs.declared.binds.DeskFault.{DeskFault}
use Rattle.split_ring.specs.declared.callers.Caller.{Caller}
use Rattle.split_ring.specs.declared.callers.Manager.{Manager}
use Rattle.split_ring.specs.declared.calls.RingCall.{RingCall}
use Rattle.split_ring.specs.declared.gives.GiveBusy.{GiveBusy}
use Rattle.split_ring.specs.declared.links.SharedLink.{SharedLink}
use Rattle.split_ring.specs.declared.sends.SendFault.{SendFault}
use Rattle.split_ring.specs.declared.takes.Taken.{Taken}
use Rattle.split_ring.specs.declared.takes.TakeFault.{TakeFault}
use Rattle.split_ring.specs.Binds.{IsDeskCall}
use Rattle.split_ring.specs.Carried.{HasBlocks}
use Rattle.split_ring.specs.Calls.{IsInPhase, Advances, HasCome}
use Rattle.split_ring.specs.Closes.{HasClosed}
use Rattle.split_ring.specs.NotBelow.{EndsNotBelow}
use Rattle.split_ring.specs.Receives.{IsGive, IsGiveAbove, IsHeldBy, IsTake, IsTakeNotBelow}
use Rattle.split_ring.specs.Seats.{IsCaller, IsSeatOf, pass_in}
use Rattle.split_ring.specs.Sends.{IsSend, IsSendNotBelow}
use Rattle.split_ring.specs.Waits.{IsWaitingSend, IsWaitingTake}

-- the buffer is in the hands of this caller
abbrev pub Holds : Caller → HeldBuffer → Type 0
Holds caller held = IsHeldBy caller.id held caller.seat.me

-- what a caller has done, the newest first
abbrev pub own_of : Caller → List Event
own_of caller = (pass_in caller.seat.me).own

-- what it has seen of the counts of the lane that it sends on, and of the one that it takes from, in the incarnation that it follows
abbrev pub seen_sending : Caller → LaneCounts
seen_sending caller = seen (other caller.id.end) caller.id.follows (own_of caller)

abbrev pub seen_taking : Caller → LaneCounts
seen_taking caller = seen caller.id.end caller.id.follows (own_of caller)

-- the answer of a send, and of a take, says no count that is below what the caller had seen
abbrev pub SendNotBelow : Caller → Result ℕ SendFault → Type 0
SendNotBelow before answer = IsSendNotBelow (seen_sending before) answer

abbrev pub TakeNotBelow : Caller → Result Taken TakeFault → Type 0
TakeNotBelow before answer = IsTakeNotBelow (seen_taking before) answer

-- a give makes a count that is above what the caller had seen, and the caller has seen it then
abbrev pub GiveAbove : Caller → Result ℕ GiveBusy → Caller → Type 0
GiveAbove before answer after = IsGiveAbove before.id.end (own_of before) answer (own_of after)

module _ {D : Type 0} where
  -- a caller of this link, in no call
  abbrev pub IsCallerOf : SharedLink D → Caller → Type 0
  IsCallerOf link caller = IsCaller link.table.shared.table_id link.sizes caller.id caller.seat.table_id caller.seat.me

  -- a caller of this link, in a call or in none
  pub record IsUserOf (link : SharedLink D) (caller : Caller) : Type 0 where
    pub seat : IsSeatOf link.table.shared.table_id link.sizes caller.seat.table_id caller.seat.me
    pub one : caller.seat.me.0.passes ≡ pass_in caller.seat.me ∷ []
    pub number : (pass_in caller.seat.me).number ≡ caller.id.number
    pub low : caller.id.number < CALLERS_MOST

  -- the manager of this link: its seat is one of it, has no turn itself, and knows who is in use; its passes are in order, and so are the slots that are out with the calls that it carries
  pub record IsManagerOf (link : SharedLink D) (manager : Manager) : Type 0 where
    pub at_table : manager.seat.table_id ≡ link.table.shared.table_id
    pub manages : Manages manager.seat.me.0
    pub rests : ManagerAt manager.seat.me (Gathers no_sides no_sides)
    pub knows : manager.seat.me.0.users ≡ manager.users
    pub told : manager.seat.me.0.sizes ≡ link.sizes
    pub order : IsOrderly manager.seat.me.0
    pub blocks : HasBlocks manager.out manager.seat.me

  -- the same caller after a call, in no call again
  abbrev pub IsAfterCall : SharedLink D → Caller → Caller → Type 0
  IsAfterCall link before after = (after.id ≡ before.id) × IsCallerOf link after

  -- this is a call of this caller of the link, which has not ended
  pub record MayAdvance (link : SharedLink D) (caller : Caller) (call : RingCall D) : Type 0 where
    pub seat : IsSeatOf link.table.shared.table_id link.sizes caller.seat.table_id caller.seat.me
    pub number : (pass_in caller.seat.me).number ≡ caller.id.number
    pub low : caller.id.number < CALLERS_MOST
    pub stands : IsInPhase link.sizes caller.id call.phase caller.seat.me

  -- the same caller, in the same call, or in none where it was in none
  pub record IsWhereItWas (link : SharedLink D) (before after : Caller) : Type 0 where
    pub id : after.id ≡ before.id
    pub user : IsUserOf link after
    pub rests : IsCallerOf link before → IsCallerOf link after
    pub in_call : (call : RingCall D) → MayAdvance link before call → MayAdvance link after call

  -- the same after a step that says this, or the caller is in no call again
  abbrev pub IsAdvanced : SharedLink D → Caller → RingCall D → Progress → Type 0
  IsAdvanced link caller call (progress.At number) = MayAdvance link caller call
  IsAdvanced link caller call (progress.Done answer) = IsCallerOf link caller

-- the manager carries every caller of its link, and the link's state is this one
pub record IsStateOf {D : Type 0} (coded : Coded D) (manager : Manager) (m : LaneLink (RingState D)) : Type 0 where
  pub known : KnowsState coded manager.seat.me.0 m
  pub users : manager.users ≡ m.callers

module _ {D : Type 0} (coded : Coded D) (meaning : DeskMeaning D) where
  -- the caller made one send of this message, with this answer
  abbrev pub MakesSend : SharedLink D → Caller → List ℕ → Result ℕ SendFault → Caller → Type 0
  MakesSend link before message answer after = IsSend coded meaning link.sizes before.id message answer before.seat.me after.seat.me

  -- the caller made one take, with this answer
  abbrev pub MakesTake : Caller → Result Taken TakeFault → Caller → Type 0
  MakesTake before answer after = IsTake coded meaning before.id answer before.seat.me after.seat.me

  -- the caller sent this message, or took, in one try or more, each but the last answered Busy, with this answer
  abbrev pub WaitsToSend : SharedLink D → Caller → List ℕ → Result ℕ SendFault → Caller → Type 0
  WaitsToSend link before message answer after = IsWaitingSend coded meaning link.sizes before.id message answer before.seat.me after.seat.me

  abbrev pub WaitsToTake : Caller → Result Taken TakeFault → Caller → Type 0
  WaitsToTake before answer after = IsWaitingTake coded meaning before.id answer before.seat.me after.seat.me

  -- the caller made one give of this buffer, with this answer
  abbrev pub MakesGive : Caller → HeldBuffer → Result ℕ GiveBusy → Caller → Type 0
  MakesGive before held answer after = IsGive coded meaning before.id.end held answer before.seat.me after.seat.me

  -- the caller asked this of the desk of its end once, with this answer
  abbrev pub MakesDeskCall : SharedLink D → Caller → DeskAsk → Result Endpoint DeskFault → Caller → Type 0
  MakesDeskCall link before asked answer after = IsDeskCall coded meaning link.sizes.desks before.id asked answer before.seat.me after.seat.me

  -- the caller made one binding at this address, with this answer
  abbrev pub MakesBind : SharedLink D → Caller → ℕ → Result Endpoint DeskFault → Caller → Type 0
  MakesBind link before address answer after = MakesDeskCall link before (asks.Bind address) answer after

  -- the caller made one unbinding at this address, with this answer
  abbrev pub MakesUnbind : SharedLink D → Caller → ℕ → Result Endpoint DeskFault → Caller → Type 0
  MakesUnbind link before address answer after = MakesDeskCall link before (asks.Unbind address) answer after

  -- the caller made one attempt to close this incarnation, with this answer
  abbrev pub MakesClose : Caller → ℕ → Result (Unit {0}) Already → Caller → Type 0
  MakesClose before inc answer after = HasClosed coded meaning before.id.number inc answer before.seat.me after.seat.me

  -- and so did the manager
  abbrev pub ManagerCloses : Manager → ℕ → Result (Unit {0}) Already → Manager → Type 0
  ManagerCloses before inc answer after = HasClosed coded meaning MANAGER inc answer before.seat.me after.seat.me

  -- the caller took one step of this call, which said this
  abbrev pub TakesStep : SharedLink D → Caller → RingCall D → Progress → Caller → RingCall D → Type 0
  TakesStep link caller call said after next = Advances coded meaning link.sizes caller.id call.phase said next.phase caller.seat.me after.seat.me

  -- whatever this call asked and wherever its caller was when it began: if it has come to this phase by the walk, and the step ends it, then its
  -- answer says no count that is below what the caller had seen then; a give makes one above that
  abbrev pub StepNotBelow : SharedLink D → Caller → RingCall D → Progress → Caller → Type 0
  StepNotBelow link caller call said after = (asked : Ask) (start : SeatState) → HasCome coded meaning link.sizes caller.id asked start call.phase caller.seat.me
      → EndsNotBelow caller.id asked said (pass_in start).own (own_of after)
