-- A carried caller that held nothing and stopped in a call: it holds what the call was handed.
use Rattle.std.proofs.Common.{◌≡◌, ◌∙◌, ℕ, List, [], ◌++◌, refl, sym, ap, subst, Some}
use mathlib.Core.Option.{some-ne-none}
use lib.ListN.{get_elem?}
use base.Stored.{Coded}
use Rattle.lane_model.specs.declared.calls.Ask.{Ask}
use Rattle.lane_model.specs.declared.calls.Progress.{Progress}
use Rattle.lane_model.specs.declared.calls.Progress.TheVariants as progress
use Rattle.lane_model.specs.Desks.{DeskMeaning}
use Rattle.lane_model.specs.HeldBuffers.{HeldBuffer}
use Rattle.link_words.specs.declared.rule.LinkSizes.{LinkSizes}
use Rattle.link_words.specs.Calls.{SeatState}
use Rattle.link_words.specs.Passes.{HasNumber}
use Rattle.link_words.proofs.Froms.{stands_left}
use Rattle.split_ring.specs.declared.callers.CallerId.{CallerId}
use Rattle.split_ring.specs.declared.callers.Manager.{Manager}
use Rattle.split_ring.specs.CallPhases.{Phase}
use Rattle.split_ring.specs.CallPhases as phase
use Rattle.split_ring.specs.declared.calls.RingCall.{RingCall}
use Rattle.split_ring.specs.declared.links.SharedLink.{SharedLink}
use Rattle.split_ring.specs.Calls.{Advances, ComesTo, HasCome}
use Rattle.split_ring.specs.Carried.{Carries, carried_seat}
use Rattle.split_ring.specs.PartsOf.{IsAllCarried}
use Rattle.split_ring.specs.Reclaims.{buffer_in}
use Rattle.split_ring.specs.Seats.{pass_in}
use Rattle.split_ring.proofs.PartSteps.{IsSendOrTake, came_hands}

module _ {D : Type 0} {coded : Coded D} {meaning : DeskMeaning D} (z : LinkSizes) (who : CallerId) (asked : Ask) where
  -- a call that has done no step
  not_come : (start : SeatState) (p : Phase) → p ≡ phase.Asked asked → HasCome coded meaning z who asked start p start
  not_come start p is = subst (λ (q : Phase). HasCome coded meaning z who asked start q start) (sym is)
      (record { steps = []; path = (refl, refl); done = record { own = refl; number = refl; first = refl; in_hand = refl; sizes = refl; stepped = refl } })

  -- and one that has done its first step
  pub first_hands : IsSendOrTake asked → (before after : Phase) (said : Progress) (number : ℕ) (me me' : SeatState) → before ≡ phase.Asked asked → said ≡ progress.At number → (pass_in me).hands ≡ []
      → Advances coded meaning z who before said after me me' → (pass_in me').hands ≡ buffer_in after
  first_hands kind before after said number me me' is goes_on none step =
      let come = subst (λ (s : Progress). ComesTo coded meaning z who asked me s after me') goes_on (step.comes asked me (not_come me before is)) in
      came_hands coded meaning z who me me' asked kind after come.0 ∙ ap (λ (l : List ℕ). l ++ buffer_in after) none

-- its parts are its call alone
pub all_in_call : {D : Type 0} (link : SharedLink D) (manager : Manager) (who : CallerId) (call : RingCall D) (buffers : List HeldBuffer) → buffers ≡ [] → Carries link manager who call.phase
    → (pass_in (carried_seat who call.phase manager)).hands ≡ buffer_in call.phase → IsAllCarried link manager who (Some call) buffers
all_in_call link manager who call buffers none carries hands = record {
  carries = carries;
  held = λ place buffer is. absurd (some-ne-none buffer (sym is ∙ ap (λ (l : List HeldBuffer). get_elem? l place) none));
  all = λ n has. stands_left (buffer_in call.phase) _ n (subst (λ (l : List ℕ). HasNumber l n) hands has);
  own = λ n has. subst (λ (l : List ℕ). HasNumber l n) (sym hands) has;
}
