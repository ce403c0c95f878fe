-- The message that a call was handed: its caller holds it, and is in no call.
use Rattle.std.proofs.Common.{◌≡◌, ◌∙◌, ℕ, true, false, List, Option, Some, None, Result, Ok, Err, refl, sym, ap, subst}
use Rattle.std.specs.Option.{option_map_or}
use Rattle.rp_base.specs.declared.kinds.Era.{Era}
use Rattle.rp_base.specs.declared.kinds.End.{End}
use Rattle.rp_base.specs.declared.kinds.End.TheVariants as side
use Rattle.lane_model.specs.declared.calls.Answer.{Answer}
use Rattle.lane_model.specs.declared.calls.Answer.TheVariants as answer
use Rattle.lane_model.specs.declared.calls.CallEnd.{CallEnd}
use Rattle.lane_model.specs.declared.calls.CallEnd.TheVariants as end
use Rattle.lane_model.specs.declared.calls.Outcome.TheVariants as outcome
use Rattle.lane_model.specs.declared.calls.Step.{Step}
use Rattle.lane_model.specs.declared.calls.Step.TheVariants as step
use Rattle.lane_model.specs.declared.calls.Wish.{Wish}
use Rattle.lane_model.specs.declared.calls.Wish.TheVariants as wish
use Rattle.lane_model.specs.declared.states.Lane.{Lane}
use Rattle.lane_model.specs.declared.states.LaneState.{LaneState}
use Rattle.lane_model.specs.AtOnce.{FormEndsIn}
use Rattle.lane_model.specs.Answers.{outcome_of}
use Rattle.lane_model.specs.Conditions.{is_calling, is_holding, is_in_call}
use Rattle.lane_model.specs.Forms.{list_form}
use Rattle.lane_model.specs.Lanes.{holder, holds}
use Rattle.lane_model.specs.Links.{Lanes, LinkState, begun_outcome, caller_step, end_of, lanes_of, lanes_step, on_lanes}
use Rattle.channel_bus.specs.Sides.{EndState, side_meaning}
use Rattle.link_words.specs.Words.{lane_to}
use Rattle.split_ring.specs.declared.callers.CallerId.{CallerId}
use Rattle.split_ring.specs.declared.callers.Manager.{Manager}
use Rattle.split_ring.specs.declared.gives.GiveBusy.{GiveBusy}
use Rattle.split_ring.specs.declared.links.SharedLink.{SharedLink}
use Rattle.split_ring.specs.declared.sends.SendFault.{SendFault}
use Rattle.split_ring.specs.declared.sends.SendFault.TheVariants as send_fault
use Rattle.split_ring.specs.Callers.{IsManagerOf, IsStateOf}
use Rattle.split_ring.specs.Calls.{call_end, give_answer, send_answer}
use Rattle.split_ring.specs.Carried.{CarriesIdle}
use Rattle.managed_link.specs.EndCodes.{end_coded}
use Rattle.managed_link.specs.Known.{LinkRings, lists_of, on_rings}
use Rattle.managed_link.specs.Managed.{IsOwnAnswer}
use Rattle.managed_link.specs.Taken.{HoldsStepTaken, HoldsTaken}
use Rattle.managed_link.proofs.Calling.{in_call}
use Rattle.managed_link.proofs.StepManaged.{idle_still}

-- step 1 at a turn hands no message over: it ends the call only where another has the turn
begun_takes : (link : LinkState EndState) (caller : ℕ) (said : Step) (ended : CallEnd) (found : Option ℕ) → outcome_of said ended ≡ begun_outcome found → HoldsStepTaken link caller said ended
begun_takes link caller (step.At number) ended found is = tt
begun_takes link caller step.Ended ended None is = absurd (cc)
begun_takes link caller step.Ended ended (Some other) is = let busy : ended ≡ end.Busy other = cc in subst (HoldsTaken link caller) (sym busy) tt

-- so it is of each wish
wish_takes : (link : LinkState EndState) (era : Era) (lanes : Lanes (LaneState EndState)) (caller follows : ℕ) (wished : Wish) (said : Step) (end : CallEnd)
    → outcome_of said end ≡ (lanes_step (list_form side_meaning) side_meaning era lanes caller follows (Some wished)).outcome → HoldsStepTaken link caller said end
wish_takes link era lanes caller follows (wish.Send message) said end is = begun_takes link caller said end (holder lanes.outgoing.sender) is
wish_takes link era lanes caller follows wish.Take said end is = begun_takes link caller said end (holder lanes.incoming.receiver) is
wish_takes link era lanes caller follows (wish.Give number) said end is = begun_takes link caller said end (holder lanes.incoming.receiver) is
wish_takes link era lanes caller follows (wish.Bind address) said end is = begun_takes link caller said end (holder lanes.incoming.receiver) is
wish_takes link era lanes caller follows (wish.Unbind address) said end is = begun_takes link caller said end (holder lanes.incoming.receiver) is

-- a number that is not in use has no step
still_takes : (link : LinkState EndState) (caller : ℕ) (said : Step) (end : CallEnd) → outcome_of said end ≡ outcome.At 0 → HoldsStepTaken link caller said end
still_takes link caller (step.At number) end is = tt
still_takes link caller step.Ended end is = absurd (cc)

-- the first step of a call hands no message over, whatever link it leaves
pub first_takes : {left next : LinkRings} (link : LinkState EndState) (caller follows : ℕ) (wished : Wish) (said : Step) (ended : CallEnd) → left ≡ next → outcome_of said ended ≡ (caller_step side_meaning link caller follows (Some wished)).outcome
    → HoldsStepTaken (lists_of left) caller said ended
first_takes {left} link caller follows wished said ended leaves is = by (end_of link.callers caller) is
  where
    by : (found : Option End) → outcome_of said ended ≡ (on_lanes link found (λ lanes. lanes_step (list_form side_meaning) side_meaning link.era lanes caller follows (Some wished))).outcome → HoldsStepTaken (lists_of left) caller said ended
    by None none = still_takes (lists_of left) caller said ended none
    by (Some e) some = wish_takes (lists_of left) link.era (lanes_of link e) caller follows wished said ended some

-- nor does a whole send, or a whole give
pub send_takes : (behind : ℕ) (old left : LinkRings) (caller follows : ℕ) (wished : Option Wish) (ended : CallEnd) (sent : Result ℕ SendFault) → ended ≡ call_end (send_answer sent) → FormEndsIn behind on_rings side_meaning old caller follows wished left ended
    → HoldsTaken (lists_of left) caller ended
send_takes behind old left caller follows wished ended (Ok number) is ends = subst (HoldsTaken (lists_of left) caller) (sym is) tt
send_takes behind old left caller follows wished ended (Err (send_fault.Busy found)) is ends = subst (HoldsTaken (lists_of left) caller) (sym is) tt
send_takes behind old left caller follows wished ended (Err (send_fault.Dead era)) is ends = subst (HoldsTaken (lists_of left) caller) (sym is) tt
send_takes behind old left caller follows wished ended (Err (send_fault.NoBuffer accepted returned)) is ends = subst (HoldsTaken (lists_of left) caller) (sym is) tt
send_takes behind old left caller follows wished ended (Err (send_fault.BookFull accepted)) is ends = subst (HoldsTaken (lists_of left) caller) (sym is) tt

pub give_takes : (behind : ℕ) (old left : LinkRings) (caller follows : ℕ) (wished : Option Wish) (ended : CallEnd) (given : Result ℕ GiveBusy) → ended ≡ call_end (give_answer given) → FormEndsIn behind on_rings side_meaning old caller follows wished left ended
    → HoldsTaken (lists_of left) caller ended
give_takes behind old left caller follows wished ended (Ok number) is ends = subst (HoldsTaken (lists_of left) caller) (sym is) tt
give_takes behind old left caller follows wished ended (Err busy) is ends = subst (HoldsTaken (lists_of left) caller) (sym is) tt

-- what holds of the link behind a step that ended its call holds of it, whatever the link before is called
pub ended_behind : {left : LinkRings} (behind : LinkRings → LinkRings) (m old : LinkRings) (caller : ℕ) (said : Step) (ended : CallEnd) → said ≡ step.Ended → left ≡ behind old → m ≡ old → HoldsTaken (lists_of (behind m)) caller ended
    → HoldsStepTaken (lists_of left) caller said ended
ended_behind {left} behind m old caller said ended is leaves same taken = subst (λ (s : Step). HoldsStepTaken (lists_of left) caller s ended) (sym is) (subst (λ (x : LinkRings). HoldsTaken (lists_of x) caller ended) (ap behind same ∙ sym leaves) taken)

-- a caller that the manager carries in no call is in none, and holds what the lane to its end says that it holds
module _ (shared : SharedLink EndState) (manager : Manager) (who : CallerId) (m : LinkRings) (manages : IsManagerOf shared manager) (state : IsStateOf end_coded manager m) (idle : CarriesIdle shared manager who) where
  user : end_of m.callers who.number ≡ Some who.end
  user = ap (λ (users : List (Option End)). end_of users who.number) (sym state.users) ∙ idle.user

  rests : is_calling (lists_of m) who.number ≡ false
  rests = ap (λ (found : Option End). option_map_or (λ e. is_in_call (lanes_of (lists_of m) e) who.number) found false) user
      ∙ in_call shared manager m manages state who.number who.end None (λ follows. idle_still shared manager who.number who.end who.follows follows idle)

  held_of : (e : End) (number : ℕ) → holds (lanes_of (lists_of m) e).incoming.lane.held number who.number ≡ holds (lane_to m e).lane.lane.held number who.number
  held_of side.Host number = refl
  held_of side.Remote number = refl

  held_by : (number : ℕ) → holds (lane_to m who.end).lane.lane.held number who.number ≡ true → is_holding (lists_of m) who.number number ≡ true
  held_by number held = ap (λ (found : Option End). option_map_or (λ e. holds (lanes_of (lists_of m) e).incoming.lane.held number who.number) found false) user ∙ (held_of who.end number ∙ held)

  -- so it holds the buffer that its call had in its answer, where its lane is as it was then
  pub holds_answer : (before : LinkRings) (said : Answer) → IsOwnAnswer who before said → (lane_to m who.end).lane.lane ≡ (lane_to before who.end).lane.lane → HoldsTaken (lists_of m) who.number (call_end said)
  holds_answer before (answer.Took held verdict) own same = (held_by held.number (ap (λ (l : Lane). holds l.held held.number who.number) same ∙ own.1), rests)
  holds_answer before said own same = tt
