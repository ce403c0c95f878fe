-- What one step of a carried call tells, where the manager knows the link's state.
use Rattle.std.proofs.Common.{◌≡◌, ℕ, Option, Some, None, refl, ap, subst, ◌∙◌}
use Rattle.lane_model.specs.declared.calls.Answer.{Answer}
use Rattle.lane_model.specs.declared.calls.Ask.{Ask}
use Rattle.lane_model.specs.declared.calls.CallEnd.{CallEnd}
use Rattle.lane_model.specs.declared.calls.Outcome.{Outcome}
use Rattle.lane_model.specs.declared.calls.Outcome.TheVariants as outcome
use Rattle.lane_model.specs.declared.calls.Progress.{Progress}
use Rattle.lane_model.specs.declared.calls.Progress.TheVariants as progress
use Rattle.lane_model.specs.declared.calls.Step.{Step}
use Rattle.lane_model.specs.declared.calls.Step.TheVariants as step
use Rattle.lane_model.specs.declared.calls.Wish.{Wish}
use Rattle.lane_model.specs.Answers.{outcome_of, wish_of}
use Rattle.lane_model.specs.Links.{caller_step, form_step}
use Rattle.lane_model.proofs.Ends.{same_outcome}
use Rattle.channel_bus.specs.Sides.{EndState, side_meaning}
use Rattle.link_words.specs.Deeds.{Deed, Steps, after_deed}
use Rattle.split_ring.specs.declared.callers.CallerId.{CallerId}
use Rattle.split_ring.specs.declared.callers.Manager.{Manager}
use Rattle.split_ring.specs.CallPhases.{Phase}
use Rattle.split_ring.specs.CallPhases as phase
use Rattle.split_ring.specs.declared.links.SharedLink.{SharedLink}
use Rattle.split_ring.specs.Callers.{IsStateOf}
use Rattle.split_ring.specs.Calls.{call_end, deed_of}
use Rattle.split_ring.specs.Carried.{CarriesOn}
use Rattle.split_ring.specs.Handed.{StepsLanes}
use Rattle.split_ring.specs.Phases.{IsNext, answer_in, ending_progress, phase_behind, outcome_said, progress_of, wished_in}
use Rattle.managed_link.specs.EndCodes.{end_coded}
use Rattle.managed_link.specs.Known.{LinkRings, lists_of, on_rings}
use Rattle.managed_link.specs.Managed.{IsBegun}
use Rattle.managed_link.specs.Steps.{HasStepped}

-- the deed of the first step of a call, and of a later one
first_deed : (who : CallerId) (p : Phase) (asked : Ask) (wished : Wish) → p ≡ phase.Asked asked → wish_of asked ≡ wished → deed_of who p ≡ Steps who.number who.follows (Some wished)
first_deed who p asked wished is same = ap (deed_of who) is ∙ ap (λ (w : Wish). Steps who.number who.follows (Some w)) same

pub first_wished : (p : Phase) (asked : Ask) (wished : Wish) → p ≡ phase.Asked asked → wish_of asked ≡ wished → wished_in p ≡ Some wished
first_wished p asked wished is same = ap wished_in is ∙ ap (λ (w : Wish). Some w) same

later_deed : (who : CallerId) (m : LinkRings) (p : Phase) → IsBegun who m p → deed_of who p ≡ Steps who.number 0 None
later_deed who m (phase.Asked asked) begun = absurd begun
later_deed who m p begun = refl

pub later_wished : (who : CallerId) (m : LinkRings) (p : Phase) → IsBegun who m p → wished_in p ≡ None
later_wished who m (phase.Asked asked) begun = absurd begun
later_wished who m p begun = refl

-- the same, by the deed that it is
pub first_stepped : (shared : SharedLink EndState) (manager manager' : Manager) (who : CallerId) (p : Phase) (said : Progress) (p' : Phase) (m : LinkRings) (asked : Ask) (wished : Wish) → p ≡ phase.Asked asked → wish_of asked ≡ wished
    → HasStepped shared manager manager' who p said p' m (after_deed side_meaning m (deed_of who p)) → HasStepped shared manager manager' who (phase.Asked asked) said p' m (form_step on_rings side_meaning m who.number who.follows (Some wished)).state
first_stepped shared manager manager' who p said p' m asked wished is same s = let deed = first_deed who p asked wished is same in record {
  manages = s.manages;
  others = s.others;
  on = s.on;
  next = subst (λ q. IsNext who.end q said p') is s.next;
  lanes = subst (λ (d : Deed). StepsLanes who p' m (after_deed side_meaning m d)) deed s.lanes;
  state = subst (λ (d : Deed). IsStateOf end_coded manager' (after_deed side_meaning m d)) deed s.state;
}

pub later_stepped : (shared : SharedLink EndState) (manager manager' : Manager) (who : CallerId) (p : Phase) (said : Progress) (p' : Phase) (m : LinkRings) → IsBegun who m p
    → HasStepped shared manager manager' who p said p' m (after_deed side_meaning m (deed_of who p)) → HasStepped shared manager manager' who p said p' m (form_step on_rings side_meaning m who.number 0 None).state
later_stepped shared manager manager' who p said p' m begun s = subst (λ (d : Deed). HasStepped shared manager manager' who p said p' m (after_deed side_meaning m d)) (later_deed who m p begun) s

-- what a step says is what it says on lists
pub outcome_on_lists : (m : LinkRings) (caller follows : ℕ) (wished : Option Wish) (said : Outcome) → said ≡ (form_step on_rings side_meaning m caller follows wished).outcome → said ≡ (caller_step side_meaning (lists_of m) caller follows wished).outcome
outcome_on_lists m caller follows wished said is = is ∙ same_outcome on_rings side_meaning m caller follows wished

-- a step that ended its call left the answer in it
pub answer_left : (shared : SharedLink EndState) (manager : Manager) (who : CallerId) (done : Step) (p : Phase) → done ≡ step.Ended → CarriesOn shared manager who (phase_behind done p) (progress_of done p) → (answered : Answer) × (answer_in p ≡ Some answered)
answer_left shared manager who done p is on = at (answer_in p) refl (subst (λ (d : Step). CarriesOn shared manager who (phase_behind d p) (progress_of d p)) is on)
  where
    at : (found : Option Answer) → answer_in p ≡ found → CarriesOn shared manager who phase.Ended (ending_progress (answer_in p)) → (answered : Answer) × (answer_in p ≡ Some answered)
    at (Some answered) here on = (answered, here)
    at None here on = absurd (subst (λ (o : Option Answer). CarriesOn shared manager who phase.Ended (ending_progress o)) here on).1

-- what a step says that goes on, and one that ended its call
pub goes_outcome : (done : Step) (ended : CallEnd) (number : ℕ) → done ≡ step.At number → outcome_of done ended ≡ outcome.At number
goes_outcome done ended number is = ap (λ (d : Step). outcome_of d ended) is

pub ends_outcome : (done : Step) (ended : CallEnd) → done ≡ step.Ended → outcome_of done ended ≡ outcome.Ended ended
ends_outcome done ended is = ap (λ (d : Step). outcome_of d ended) is

pub goes_told : (done : Step) (p : Phase) (number : ℕ) → done ≡ step.At number → outcome_said (progress_of done p) ≡ outcome.At number
goes_told done p number is = ap (λ (d : Step). outcome_said (progress_of d p)) is

pub ends_told : (done : Step) (p : Phase) (answered : Answer) → done ≡ step.Ended → answer_in p ≡ Some answered → outcome_said (progress_of done p) ≡ outcome.Ended (call_end answered)
ends_told done p answered is here = ap (λ (d : Step). outcome_said (progress_of d p)) is ∙ ap (λ (o : Option Answer). outcome_said (ending_progress o)) here

module _ (shared : SharedLink EndState) (manager manager' : Manager) (who : CallerId) (p : Phase) (done : Step) (left : Phase) (m m' : LinkRings)
    (s : HasStepped shared manager manager' who p (progress_of done left) (phase_behind done left) m m') where
  pub goes_stepped : (number : ℕ) → done ≡ step.At number → HasStepped shared manager manager' who p (progress.At number) left m m'
  goes_stepped number is = subst (λ (d : Step). HasStepped shared manager manager' who p (progress_of d left) (phase_behind d left) m m') is s

  pub ends_stepped : (answered : Answer) → done ≡ step.Ended → answer_in left ≡ Some answered → HasStepped shared manager manager' who p (progress.Done answered) phase.Ended m m'
  ends_stepped answered is here = subst (λ (o : Option Answer). HasStepped shared manager manager' who p (ending_progress o) phase.Ended m m') here
      (subst (λ (d : Step). HasStepped shared manager manager' who p (progress_of d left) (phase_behind d left) m m') is s)
