-- A whole call through a link that tells its state.
use Rattle.std.proofs.Common.{◌≡◌, ◌<◌, ℕ, suc, Bool, true, false, Option, Some, None, IfSome, refl, ap, subst}
use Rattle.std.specs.Option.{option_map, option_map_or}
use Rattle.std.proofs.lemmas.Bool.{false≢true}
use Rattle.rp_base.specs.declared.kinds.End.{End}
use Rattle.lane_model.specs.declared.calls.Ask.{Ask}
use Rattle.lane_model.specs.declared.calls.Answer.{Answer}
use Rattle.lane_model.specs.declared.calls.Outcome.{Outcome}
use Rattle.lane_model.specs.declared.calls.Outcome.TheVariants as outcome
use Rattle.lane_model.specs.declared.calls.Progress.{Progress}
use Rattle.lane_model.specs.declared.calls.Progress.TheVariants as progress
use Rattle.lane_model.specs.Desks.{DeskMeaning}
use Rattle.lane_model.specs.Links.{LinkState, end_of, caller_step}
use Rattle.lane_model.specs.Conditions.{MayStep, MayEndStep}
use Rattle.lane_model.specs.WholeCalls.{left_of, WhereOn}
use Rattle.lane_model.specs.Answers.{MayAsk, wish_of, progress_at, asked_step, steps_to_answer}
use Rattle.lane_model.proofs.GoesOn.{goes_on}

abbrev is_done : Progress → Bool
is_done (progress.At step) = false
is_done (progress.Done answer) = true

-- what a step that goes on says, its call's outcome says
on_if_at : {D : Type 0} (link : LinkState D) (side : End) (caller : ℕ) (asked : Option Ask) (told : Outcome) (step : ℕ) (P : Type 0)
    → progress.At step ≡ progress_at link side caller asked told → WhereOn told P → P
on_if_at link side caller asked (outcome.At n) step P is on = on
on_if_at link side caller asked (outcome.Ended end) step P is on = absurd (false≢true (ap is_done is))

end_goes_on : {D : Type 0} (link left : LinkState D) (found : Option End) (caller : ℕ) (asked : Option Ask) (told : Outcome) (step : ℕ) (P : Type 0) → MayEndStep link found caller (option_map wish_of asked)
    → progress.At step ≡ option_map_or (λ side. progress_at left side caller asked told) found (progress.At 0) → WhereOn told P → P
end_goes_on link left (Some side) caller asked told step P may is on = on_if_at left side caller asked told step P is on
end_goes_on link left None caller asked told step P may is on = absurd may

-- after a step that goes on another may follow, and fewer are left
pub ask_goes_on : {D : Type 0} (desk : DeskMeaning D) (link : LinkState D) (caller follows : ℕ) (asked : Option Ask) (step : ℕ) → MayAsk link caller asked
    → progress.At step ≡ (asked_step desk link caller follows asked).progress
    → MayAsk (asked_step desk link caller follows asked).state caller None
    × (left_of (asked_step desk link caller follows asked).state caller None < left_of link caller (option_map wish_of asked))
ask_goes_on desk link caller follows asked step may is =
    let next = caller_step desk link caller follows (option_map wish_of asked) in
    let on = end_goes_on link next.state (end_of link.callers caller) caller asked next.outcome step
    (MayStep next.state caller None × (left_of next.state caller None < left_of link caller (option_map wish_of asked))) may.step.may is
    (goes_on desk link caller follows (option_map wish_of asked) may.step) in
    (record { step = on.0; held = tt }, on.1)

pub answer_ends : {D : Type 0} (n : ℕ) (desk : DeskMeaning D) (link : LinkState D) (caller follows : ℕ) (asked : Option Ask) (answer : Answer)
    → progress.Done answer ≡ (asked_step desk link caller follows asked).progress
    → steps_to_answer (suc n) desk link caller follows asked ≡ Some (record { state = (asked_step desk link caller follows asked).state; answer = answer })
unfolding steps_to_answer
answer_ends n desk link caller follows asked answer is = rw (← is) refl

pub answer_goes_on : {D : Type 0} (n : ℕ) (desk : DeskMeaning D) (link : LinkState D) (caller follows : ℕ) (asked : Option Ask) (step : ℕ)
    → progress.At step ≡ (asked_step desk link caller follows asked).progress
    → steps_to_answer (suc n) desk link caller follows asked ≡ steps_to_answer n desk (asked_step desk link caller follows asked).state caller follows None
unfolding steps_to_answer
answer_goes_on n desk link caller follows asked step is = rw (← is) refl

-- a fact about the value that is there
pub at_some : {A : Type 0} (found : Option A) (x : A) (P : A → Type 0) → found ≡ Some x → IfSome found P → P x
at_some found x P is all = subst (λ o. IfSome o P) is all
