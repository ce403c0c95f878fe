-- A call of a caller whose seat knows the state of its link, by its steps: how far it has come, and what a whole call leaves (own).
use Rattle.std.specs.Prelude.{◌≡◌, ℕ, zero, suc, Some, None, Result, Ok, Err}
use base.Stored.{Coded}
use Rattle.lane_model.specs.declared.calls.Answer.{Answer}
use Rattle.lane_model.specs.declared.calls.Outcome.TheVariants as outcome
use Rattle.lane_model.specs.declared.calls.Wish.{Wish}
use Rattle.lane_model.specs.declared.lane_links.LaneLink.{LaneLink}
use Rattle.lane_model.specs.AtOnce.{FormEndsIn}
use Rattle.lane_model.specs.Desks.{DeskMeaning}
use Rattle.lane_model.specs.Links.{form_step}
use Rattle.ring_core.specs.declared.states.RingState.{RingState}
use Rattle.ring_core.specs.RingSteps.{ring_form}
use Rattle.link_words.specs.declared.rule.LinkSizes.{LinkSizes}
use Rattle.link_words.specs.Calls.{SeatState}
use Rattle.link_words.specs.PlacedLinks.{KnowsState}
use Rattle.split_ring.specs.declared.callers.CallerId.{CallerId}
use Rattle.split_ring.specs.CallPhases.{Phase}
use Rattle.split_ring.specs.declared.sends.SendFault.{SendFault}
use Rattle.split_ring.specs.declared.sends.SendFault.TheVariants as fault
use Rattle.split_ring.specs.Calls.{IsInPhase, call_end}
use Rattle.split_ring.specs.Focus.{seat_of}
use Rattle.split_ring.specs.Handed.{Settles, StepsLanes}

-- how many steps a send with this answer has after its first one
abbrev pub send_behind : Result ℕ SendFault → ℕ
send_behind (Ok number) = 6
send_behind (Err (fault.Busy holder)) = 0
send_behind (Err (fault.Dead era)) = 2
send_behind (Err (fault.NoBuffer accepted returned)) = 3
send_behind (Err (fault.BookFull accepted)) = 3

-- so many steps of this caller's call after the first one, none of which ends it, lead from this state to that one
unfoldable pub GoesOnTo : {D : Type 0} → ℕ → DeskMeaning D → LaneLink (RingState D) → ℕ → LaneLink (RingState D) → Type 0
GoesOnTo zero meaning m caller left = left ≡ m
GoesOnTo (suc more) meaning m caller left =
    let step = form_step (ring_form meaning) meaning m caller 0 None in
    (number : ℕ) × (step.outcome ≡ outcome.At number) × GoesOnTo more meaning step.state caller left

module _ {D : Type 0} (coded : Coded D) (meaning : DeskMeaning D) (who : CallerId) where
  -- the call of this caller has come to this phase by so many steps after its first one, from this state to the one that the seat knows; the lanes are as they were, or as the
  -- last of these steps settled
  pub record HasRun (z : LinkSizes) (steps : ℕ) (p : Phase) (m : LaneLink (RingState D)) (me : SeatState) : Type 0 where
    pub stands : IsInPhase z who p (seat_of who.number me)
    pub left : LaneLink (RingState D)
    pub goes : GoesOnTo steps meaning m who.number left
    pub lanes : StepsLanes who p m left
    pub known : KnowsState coded me.0 left
    pub users : left.callers ≡ m.callers

  -- a whole call of this caller, which wishes this, ends with this answer and so many steps after its first one, and the seat knows the state that it leaves
  pub record RunsCall (m : LaneLink (RingState D)) (wished : Wish) (behind : ℕ) (said : Answer) (me : SeatState) : Type 0 where
    pub left : LaneLink (RingState D)
    pub ends : FormEndsIn behind (ring_form meaning) meaning m who.number who.follows (Some wished) left (call_end said)
    pub settles : Settles who said m left
    pub known : KnowsState coded me.0 left
    pub users : left.callers ≡ m.callers
