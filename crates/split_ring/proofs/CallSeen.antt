-- The answer of a call that was taken step by step tells no count that is below what its caller had seen.
use Rattle.std.proofs.Common.{◌≡◌, ◌∙◌, ℕ, List, refl, ap}
use Rattle.std.specs.Prelude.{Result, Ok, Err}
use base.Stored.{Coded}
use Rattle.lane_model.specs.declared.calls.Answer.{Answer}
use Rattle.lane_model.specs.declared.calls.Ask.{Ask}
use Rattle.lane_model.specs.declared.calls.Ask.TheVariants as ask
use Rattle.lane_model.specs.declared.calls.Progress.{Progress}
use Rattle.lane_model.specs.declared.calls.Progress.TheVariants as progress
use Rattle.lane_model.specs.Desks.{DeskMeaning}
use Rattle.link_words.specs.declared.rule.Event.{Event}
use Rattle.link_words.specs.declared.rule.LinkSizes.{LinkSizes}
use Rattle.link_words.specs.Calls.{SeatState}
use Rattle.split_ring.specs.Calls.{send_answer, take_answer, give_answer, hands_with, HasAnswered, HasCome, Advances, ComesTo}
use Rattle.split_ring.specs.NotBelow.{AnswerNotBelow, EndsNotBelow}
use Rattle.split_ring.specs.Receives.{hands_after, hands_left}
use Rattle.split_ring.specs.Seats.{pass_in}
use Rattle.split_ring.specs.Walks.{HasDone, same_hands}
use Rattle.split_ring.specs.declared.callers.CallerId.{CallerId}
use Rattle.split_ring.specs.CallPhases.{Phase}
use Rattle.split_ring.specs.declared.gives.GiveBusy.{GiveBusy}
use Rattle.split_ring.specs.declared.sends.SendFault.{SendFault}
use Rattle.split_ring.specs.declared.sends.SendFault.TheVariants as fault
use Rattle.split_ring.specs.declared.takes.Taken.{Taken}
use Rattle.split_ring.specs.declared.takes.TakeFault.{TakeFault}
use Rattle.split_ring.specs.declared.takes.TakeFault.TheVariants as take_fault
use Rattle.split_ring.proofs.SendWalks.{send_seen}
use Rattle.split_ring.proofs.TakeWalks.{take_seen}
use Rattle.split_ring.proofs.GiveSteps.{give_seen}

send_hands : (r : Result ℕ SendFault) → hands_with (send_answer r) ≡ same_hands
send_hands (Ok number) = refl
send_hands (Err (fault.Busy holder)) = refl
send_hands (Err (fault.Dead era)) = refl
send_hands (Err (fault.NoBuffer accepted returned)) = refl
send_hands (Err (fault.BookFull accepted)) = refl

take_hands : (r : Result Taken TakeFault) → hands_with (take_answer r) ≡ hands_after r
take_hands (Ok taken) = refl
take_hands (Err (take_fault.Busy holder)) = refl
take_hands (Err (take_fault.Dead era)) = refl
take_hands (Err (take_fault.Empty accepted)) = refl

give_hands : (r : Result ℕ GiveBusy) → hands_with (give_answer r) ≡ hands_left r
give_hands (Ok number) = refl
give_hands (Err busy) = refl

module _ {D : Type 0} (coded : Coded D) (meaning : DeskMeaning D) where
  -- the same steps, with what is in hand told otherwise
  told_so : (walk : List Event) (f h : List ℕ → List ℕ) (me me' : SeatState) → f ≡ h → HasDone coded meaning walk f me me' → HasDone coded meaning walk h me me'
  told_so walk f h me me' is d = record {
    own = d.own;
    number = d.number;
    first = d.first;
    in_hand = d.in_hand ∙ ap (λ (k : List ℕ → List ℕ). k (pass_in me).hands) is;
    sizes = d.sizes;
    stepped = d.stepped;
  }

  answered_seen : (z : LinkSizes) (who : CallerId) (asked : Ask) (said : Answer) (start me : SeatState) → HasAnswered coded meaning z who asked said start me
      → AnswerNotBelow who asked said (pass_in start).own (pass_in me).own
  answered_seen z who (ask.Send message) said start me a =
      (a.is.0, a.is.1, send_seen coded meaning z who message a.is.0 start me (record { walk = a.walk; is = a.is.2; done = told_so a.walk (hands_with said) same_hands start me (ap hands_with a.is.1 ∙ send_hands a.is.0) a.done }))
  answered_seen z who ask.Take said start me a =
      (a.is.0, a.is.1, take_seen coded meaning who a.is.0 start me (record { walk = a.walk; is = a.is.2; done = told_so a.walk (hands_with said) (hands_after a.is.0) start me (ap hands_with a.is.1 ∙ take_hands a.is.0) a.done }))
  answered_seen z who (ask.Give held) said start me a =
      (a.is.0, a.is.1, give_seen coded meaning who.end held a.is.0 start me (record { walk = a.walk; is = a.is.2; done = told_so a.walk (hands_with said) (hands_left a.is.0) start me (ap hands_with a.is.1 ∙ give_hands a.is.0) a.done }))
  answered_seen z who (ask.Bind address) said start me a = tt
  answered_seen z who (ask.Unbind address) said start me a = tt

  come_seen : (z : LinkSizes) (who : CallerId) (asked : Ask) (said : Progress) (after : Phase) (start me : SeatState) → ComesTo coded meaning z who asked start said after me
      → EndsNotBelow who asked said (pass_in start).own (pass_in me).own
  come_seen z who asked (progress.At number) after start me comes = tt
  come_seen z who asked (progress.Done said) after start me comes = answered_seen z who asked said start me comes

  -- a step that ends its call, by what it makes of the walk
  pub step_seen : (z : LinkSizes) (who : CallerId) (before : Phase) (said : Progress) (after : Phase) (me me' : SeatState) → Advances coded meaning z who before said after me me'
      → (asked : Ask) (start : SeatState) → HasCome coded meaning z who asked start before me → EndsNotBelow who asked said (pass_in start).own (pass_in me').own
  step_seen z who before said after me me' step asked start come = come_seen z who asked said after start me' (step.comes asked start come)
