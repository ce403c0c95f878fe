-- A binding and an unbinding over the words: what the desk that goes with the receiver's turn answers and becomes, and the walk (own).
use Rattle.std.specs.Prelude.{◌≡◌, ◌≢◌, ◌+◌, ℕ, List, [], ◌∷◌, Result, Ok, Err}
use base.Stored.{Coded}
use Rattle.rp_base.specs.declared.kinds.BindFault.{BindFault}
use Rattle.rp_base.specs.declared.kinds.Endpoint.{Endpoint}
use Rattle.rp_base.specs.declared.kinds.Era.{Era}
use Rattle.lane_model.specs.declared.calls.Wish.{Wish}
use Rattle.lane_model.specs.declared.calls.Wish.TheVariants as wish
use Rattle.lane_model.specs.declared.stages.Turn.TheVariants as turn
use Rattle.lane_model.specs.declared.stages.Work.{Work}
use Rattle.lane_model.specs.Desks.{DeskMeaning}
use Rattle.link_words.specs.declared.codes.DeskTables.{DeskTables}
use Rattle.link_words.specs.declared.rule.Call.{Call}
use Rattle.link_words.specs.declared.rule.Call.TheVariants.{Receives}
use Rattle.link_words.specs.declared.rule.Event.{Event}
use Rattle.link_words.specs.declared.rule.Event.TheVariants.{Step}
use Rattle.link_words.specs.declared.rule.Made.TheVariants as made
use Rattle.link_words.specs.declared.rule.ReceiverSide.{ReceiverSide}
use Rattle.link_words.specs.Calls.{SeatState}
use Rattle.link_words.specs.PlacedDesks.{IsRightTo}
use Rattle.link_words.specs.Steps.{first_work, desk_says, desk_after}
use Rattle.split_ring.specs.Seats.{IsAt}
use Rattle.split_ring.specs.Sends.{live_era}
use Rattle.split_ring.specs.Turns.{receive_call, receive_slots}
use Rattle.split_ring.specs.Walks.{HasDone, same_hands}
use Rattle.split_ring.specs.declared.binds.DeskAsk.{DeskAsk}
use Rattle.split_ring.specs.declared.binds.DeskAsk.TheVariants as asks
use Rattle.split_ring.specs.declared.binds.DeskFault.{DeskFault}
use Rattle.split_ring.specs.declared.binds.DeskFault.TheVariants as desk_fault
use Rattle.split_ring.specs.declared.callers.CallerId.{CallerId}

-- what a caller wishes that asks this of the desk, and the work of its call
abbrev pub desk_wish : DeskAsk → Wish
desk_wish (asks.Bind address) = wish.Bind address
desk_wish (asks.Unbind address) = wish.Unbind address

abbrev pub desk_work : DeskAsk → Work
desk_work asked = first_work (desk_wish asked)

-- what a call says when the desk has answered, or its era was another
abbrev pub desk_result : Result (Result Endpoint BindFault) Era → Result Endpoint DeskFault
desk_result (Ok (Ok endpoint)) = Ok endpoint
desk_result (Ok (Err fault)) = Err (desk_fault.Bind fault)
desk_result (Err era) = Err (desk_fault.Dead era)

module _ {D : Type 0} (meaning : DeskMeaning D) where
  -- what a desk answers when so many messages were handed over
  abbrev pub desk_answer : D → ℕ → DeskAsk → Result Endpoint BindFault
  desk_answer desk handed (asks.Bind address) = meaning.bind_answer desk address handed
  desk_answer desk handed (asks.Unbind address) = meaning.unbind_answer desk address

-- the side state when its desk was asked this: its right is to the desk that is left
abbrev pub asked_side : {D : Type 0} → Coded D → DeskMeaning D → D → ReceiverSide → DeskAsk → ReceiverSide
asked_side coded meaning desk x asked = record x { desk = record x.desk { code = coded.code (desk_after meaning desk x.handed (desk_work asked)) } }

-- the call of a caller whose desk was asked this: its end is what the desk said
abbrev pub asked_call : {D : Type 0} → Coded D → DeskMeaning D → CallerId → DeskAsk → D → ReceiverSide → Call
asked_call coded meaning who asked desk x = Receives who.end (turn.Leaving who.number (desk_says meaning desk x.handed (desk_work asked))) (asked_side coded meaning desk x asked) 0 []

module _ {D : Type 0} (coded : Coded D) (meaning : DeskMeaning D) (tables : DeskTables) (who : CallerId) (asked : DeskAsk) where
  -- between these two states of a caller's seat the desk was asked: the one to which the side state has the right that is out with the
  -- receiver's turn. The answer is that desk's, and the right is to the desk that it leaves
  pub record DeskAnswers (answer : Result Endpoint BindFault) (me me' : SeatState) : Type 0 where
    pub side : ReceiverSide
    pub desk : D
    pub right : IsRightTo coded tables side.desk desk
    pub at : IsAt me (receive_call who (desk_work asked) side 0 []) (receive_slots who side)
    pub answered : answer ≡ desk_answer meaning desk side.handed asked
    pub left : IsAt me' (asked_call coded meaning who asked desk side) (receive_slots who (asked_side coded meaning desk side asked))

  -- the desk was asked in the second of the steps that the seat made, and the later ones are these
  pub record HasAskedDesk (answer : Result Endpoint BindFault) (later : List Event) (me me' : SeatState) : Type 0 where
    pub begun : SeatState
    pub changed : SeatState
    pub first : HasDone coded meaning (Step (made.Turn 0) ∷ []) same_hands me begun
    pub asks : DeskAnswers answer begun changed
    pub second : HasDone coded meaning (Step (made.Era (live_era who.follows)) ∷ []) same_hands begun changed
    pub others : HasDone coded meaning later same_hands changed me'

  -- an answer that a desk gave is that of the desk that goes with the turn
  abbrev pub IsOfDesk : Result Endpoint DeskFault → List Event → SeatState → SeatState → Type 0
  IsOfDesk (Err (desk_fault.Busy holder)) later me me' = Unit {0}
  IsOfDesk (Err (desk_fault.Dead era)) later me me' = Unit {0}
  IsOfDesk (Err (desk_fault.Bind fault)) later me me' = HasAskedDesk (Err fault) later me me'
  IsOfDesk (Ok endpoint) later me me' = HasAskedDesk (Ok endpoint) later me me'

-- the steps of a whole binding or unbinding with its answer, the newest first
abbrev pub IsDeskWalk : CallerId → Result Endpoint DeskFault → List Event → Type 0
IsDeskWalk who (Err (desk_fault.Busy holder)) walk = walk ≡ Step (made.Turn (holder + 1)) ∷ []
IsDeskWalk who (Err (desk_fault.Dead era)) walk = (walk ≡ Step made.Left ∷ Step (made.Era era) ∷ Step (made.Turn 0) ∷ []) × (era ≢ live_era who.follows)
IsDeskWalk who (Err (desk_fault.Bind fault)) walk = walk ≡ Step made.Left ∷ Step (made.Era (live_era who.follows)) ∷ Step (made.Turn 0) ∷ []
IsDeskWalk who (Ok endpoint) walk = walk ≡ Step made.Left ∷ Step (made.Era (live_era who.follows)) ∷ Step (made.Turn 0) ∷ []

-- a binding or an unbinding did a whole walk, and what the desk said is what it answers
pub record IsDeskCall {D : Type 0} (coded : Coded D) (meaning : DeskMeaning D) (tables : DeskTables) (who : CallerId) (asked : DeskAsk) (answer : Result Endpoint DeskFault) (me me' : SeatState) : Type 0 where
  pub walk : List Event
  pub is : IsDeskWalk who answer walk
  pub done : HasDone coded meaning walk same_hands me me'
  pub said : IsOfDesk coded meaning tables who asked answer (Step made.Left ∷ []) me me'
