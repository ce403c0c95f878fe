-- What is known of the lanes of a caller after the steps of its calls (own).
use Rattle.std.specs.Prelude.{◌≡◌, ◌≢◌, ℕ, List, Option, Some, None}
use Rattle.rp_base.specs.declared.kinds.End.{End}
use Rattle.rp_base.specs.declared.kinds.End.TheVariants as side
use Rattle.lane_model.specs.declared.calls.Answer.{Answer}
use Rattle.lane_model.specs.declared.calls.Ask.{Ask}
use Rattle.lane_model.specs.declared.calls.CallEnd.{CallEnd}
use Rattle.lane_model.specs.declared.calls.Progress.{Progress}
use Rattle.lane_model.specs.declared.calls.Step.{Step}
use Rattle.lane_model.specs.declared.calls.Wish.{Wish}
use Rattle.lane_model.specs.declared.calls.Wish.TheVariants as wish
use Rattle.lane_model.specs.declared.states.Holding.{Holding}
use Rattle.lane_model.specs.Answers.{given_back, wish_of}
use Rattle.lane_model.specs.HeldBuffers.{HeldBuffer}
use Rattle.lane_model.specs.Links.{form_step}
use Rattle.channel_bus.specs.Sides.{EndState, side_meaning}
use Rattle.link_words.specs.Deeds.{after_deed}
use Rattle.split_ring.specs.declared.callers.CallerId.{CallerId}
use Rattle.split_ring.specs.declared.callers.Manager.{Manager}
use Rattle.split_ring.specs.CallPhases.{Phase}
use Rattle.split_ring.specs.CallPhases as phase
use Rattle.split_ring.specs.declared.calls.RingCall.{RingCall}
use Rattle.split_ring.specs.declared.links.SharedLink.{SharedLink}
use Rattle.split_ring.specs.Callers.{IsManagerOf, IsStateOf}
use Rattle.split_ring.specs.Calls.{deed_of}
use Rattle.split_ring.specs.Carried.{CarriesOn, Keeps}
use Rattle.split_ring.specs.Handed.{StepsLanes}
use Rattle.split_ring.specs.Phases.{IsNext, answer_in, phase_behind, outcome_said, progress_of, settled_end, wished_in}
use Rattle.managed_link.specs.declared.call_slots.CarriedCall.{CarriedCall}
use Rattle.managed_link.specs.declared.hands.Hand.{Hand}
use Rattle.managed_link.specs.declared.views.LaneView.{LaneView}
use Rattle.managed_link.specs.EndCodes.{end_coded}
use Rattle.managed_link.specs.Known.{LinkRings, on_rings}
use Rattle.managed_link.specs.Settles.{held_behind, incoming_view, outgoing_view, with_new_hand}

-- the lane on which a caller sends, once it has the turn for what it wishes
abbrev pub outgoing_begun : Wish → ℕ → LaneView → LaneView
outgoing_begun (wish.Send message) caller view = record view { sender = Some caller }
outgoing_begun wish.Take caller view = view
outgoing_begun (wish.Give number) caller view = view
outgoing_begun (wish.Bind address) caller view = view
outgoing_begun (wish.Unbind address) caller view = view

-- and the one from which it takes
abbrev pub incoming_begun : Wish → ℕ → LaneView → LaneView
incoming_begun (wish.Send message) caller view = view
incoming_begun wish.Take caller view = record view { receiver = Some caller }
incoming_begun (wish.Give number) caller view = record view { receiver = Some caller }
incoming_begun (wish.Bind address) caller view = record view { receiver = Some caller }
incoming_begun (wish.Unbind address) caller view = record view { receiver = Some caller }

-- of two, the one for this end
abbrev pub of_end : {A : Type 0} → End → A → A → A
of_end side.Host host remote = host
of_end side.Remote host remote = remote

-- what is known of the lanes, and what is held, once a call has settled that it ends so; as before where it has not
abbrev pub incoming_learnt : Option CallEnd → LaneView → LaneView
incoming_learnt None view = view
incoming_learnt (Some ended) view = incoming_view ended view

abbrev pub outgoing_learnt : Option CallEnd → LaneView → LaneView
outgoing_learnt None view = view
outgoing_learnt (Some ended) view = outgoing_view ended view

abbrev pub held_learnt : Option CallEnd → ℕ → List Holding → List Holding
held_learnt None caller held = held
held_learnt (Some ended) caller held = held_behind ended caller held

abbrev pub hands_learnt : Option CallEnd → ℕ → List Hand → List Hand
hands_learnt None caller hands = hands
hands_learnt (Some ended) caller hands = with_new_hand ended caller hands

-- a call is in a slot that has done no step, and asks for what is wished; it gives this buffer back, if any
pub record IsAsking (follows : ℕ) (wished : Wish) (given : Option HeldBuffer) (slot : Option CarriedCall) : Type 0 where
  pub call : RingCall EndState
  pub asked : Ask
  pub here : slot ≡ Some (record { follows = follows; call = call })
  pub asks : call.phase ≡ phase.Asked asked
  pub same : wish_of asked ≡ wished
  pub gives : given_back asked ≡ given

-- the call in a slot has ended with this answer
abbrev pub IsAnsweredIn : Option CarriedCall → Answer → Type 0
IsAnsweredIn slot answer = (carried : CarriedCall) × (slot ≡ Some carried) × (answer_in carried.call.phase ≡ Some answer)

-- a step of the call of this caller in this phase, which says this, left it in that one, and the link in that state
pub record HasStepped (shared : SharedLink EndState) (manager manager' : Manager) (who : CallerId) (p : Phase) (said : Progress) (p' : Phase) (m m' : LinkRings) : Type 0 where
  pub manages : IsManagerOf shared manager'
  pub others : (theirs : CallerId) (q : Phase) → theirs.number ≢ who.number → Keeps shared manager manager' theirs q
  pub on : CarriesOn shared manager' who p' said
  pub next : IsNext who.end p said p'
  pub lanes : StepsLanes who p' m m'
  pub state : IsStateOf end_coded manager' m'

-- the same of a carried call in its slot: it stays there as it is then, with its answer where it has ended, and says what the step of the link says
pub record AdvancesCall (shared : SharedLink EndState) (manager : Manager) (who : CallerId) (p : Phase) (m : LinkRings) (step : Step) (manager' : Manager) (slot : Option CarriedCall) : Type 0 where
  pub call : RingCall EndState
  pub here : slot ≡ Some (record { follows = who.follows; call = call })
  pub stepped : HasStepped shared manager manager' who p (progress_of step call.phase) (phase_behind step call.phase) m (after_deed side_meaning m (deed_of who p))
  pub told : outcome_said (progress_of step call.phase) ≡ (form_step on_rings side_meaning m who.number who.follows (wished_in p)).outcome

-- how the call in a slot ends, where that is settled
abbrev pub settled_in : Option CarriedCall → Option CallEnd
settled_in (Some carried) = settled_end carried.call.phase
settled_in None = None
