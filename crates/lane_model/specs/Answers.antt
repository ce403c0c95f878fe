-- What a caller of a link says and hears: asks and answers with the buffers in them, over wishes and ends of calls (own).
use Rattle.std.specs.Prelude.{◌≡◌, ℕ, zero, suc, Option, Some, None, IfSome, option_and_then}
use Rattle.std.specs.Option.{option_map, option_map_or}
use Rattle.rp_base.specs.declared.kinds.End.{End}
use Rattle.lane_model.specs.HeldBuffers.{HeldBuffer}
use Rattle.lane_model.specs.declared.calls.Wish.{Wish}
use Rattle.lane_model.specs.declared.calls.Wish.TheVariants as wish
use Rattle.lane_model.specs.declared.calls.CallEnd.{CallEnd}
use Rattle.lane_model.specs.declared.calls.CallEnd.TheVariants as end
use Rattle.lane_model.specs.declared.calls.Outcome.{Outcome}
use Rattle.lane_model.specs.declared.calls.Outcome.TheVariants as outcome
use Rattle.lane_model.specs.declared.calls.Step.{Step}
use Rattle.lane_model.specs.declared.calls.Step.TheVariants as step
use Rattle.lane_model.specs.declared.calls.Ask.{Ask}
use Rattle.lane_model.specs.declared.calls.Ask.TheVariants as ask
use Rattle.lane_model.specs.declared.calls.Answer.{Answer}
use Rattle.lane_model.specs.declared.calls.Answer.TheVariants as answer
use Rattle.lane_model.specs.declared.calls.Progress.{Progress}
use Rattle.lane_model.specs.declared.calls.Progress.TheVariants as progress
use Rattle.lane_model.specs.Lanes.{message_at}
use Rattle.lane_model.specs.Desks.{DeskMeaning}
use Rattle.lane_model.specs.Links.{LinkState, lanes_of, incoming_number, end_of, caller_step}
use Rattle.lane_model.specs.Conditions.{MayStep}

-- what a step did to its call, by what it answers and the end that it has written
abbrev pub outcome_of : Step → CallEnd → Outcome
outcome_of (step.At number) end = outcome.At number
outcome_of step.Ended end = outcome.Ended end

-- what a caller wishes that asks this
abbrev pub wish_of : Ask → Wish
wish_of (ask.Send message) = wish.Send message
wish_of ask.Take = wish.Take
wish_of (ask.Give held) = wish.Give held.number
wish_of (ask.Bind address) = wish.Bind address
wish_of (ask.Unbind address) = wish.Unbind address

-- a buffer of the lane that callers of this end take from, in the hands of a caller; a link doesn't say the number of a buffer, which is 0 here
abbrev pub held_buffer : {D : Type 0} → LinkState D → End → ℕ → ℕ → HeldBuffer
held_buffer link end caller number = record {
  lane = incoming_number end;
  caller = caller;
  number = number;
  buffer = 0;
  message = message_at (lanes_of link end).incoming.lane.accepted number;
}

-- the buffer is one that a caller of this end took
abbrev pub IsHeldOf : Option End → ℕ → HeldBuffer → Type 0
IsHeldOf (Some end) caller held = (held.lane ≡ incoming_number end) × (held.caller ≡ caller)
IsHeldOf None caller held = ⊥

-- the buffer that a caller gives back
abbrev pub given_back : Ask → Option HeldBuffer
given_back (ask.Send message) = None
given_back ask.Take = None
given_back (ask.Give held) = Some held
given_back (ask.Bind address) = None
given_back (ask.Unbind address) = None

-- the caller's next step, with what it asks where its call has done none: a buffer that it gives back is its own
pub record MayAsk {D : Type 0} (link : LinkState D) (caller : ℕ) (asked : Option Ask) : Type 0 where
  pub step : MayStep link caller (option_map wish_of asked)
  pub held : IfSome (option_and_then given_back asked) (λ held. IsHeldOf (end_of link.callers caller) caller held)

-- where step 1 was refused for another's turn, a give hands its buffer back
abbrev pub busy_answer : ℕ → Option Ask → Answer
busy_answer holder asked = option_map_or (λ held. answer.GiveBusy holder held) (option_and_then given_back asked) (answer.Busy holder)

-- the answer to a caller of this end, by the end of its call, the link that it leaves, and what was asked in the last step
abbrev pub answer_at : {D : Type 0} → LinkState D → End → ℕ → Option Ask → CallEnd → Answer
answer_at link side caller asked (end.Sent number) = answer.Sent number
answer_at link side caller asked (end.Took number verdict) = answer.Took (held_buffer link side caller number) verdict
answer_at link side caller asked (end.Gave number) = answer.Gave number
answer_at link side caller asked (end.Bound endpoint) = answer.Bound endpoint
answer_at link side caller asked (end.Unbound endpoint) = answer.Unbound endpoint
answer_at link side caller asked (end.Busy holder) = busy_answer holder asked
answer_at link side caller asked (end.Dead era) = answer.Dead era
answer_at link side caller asked (end.NoBuffer accepted returned) = answer.NoBuffer accepted returned
answer_at link side caller asked (end.BookFull accepted) = answer.BookFull accepted
answer_at link side caller asked (end.Empty accepted) = answer.Empty accepted
answer_at link side caller asked (end.Refused fault) = answer.Refused fault

-- what a step says to a caller of this end
abbrev pub progress_at : {D : Type 0} → LinkState D → End → ℕ → Option Ask → Outcome → Progress
progress_at link side caller asked (outcome.At number) = progress.At number
progress_at link side caller asked (outcome.Ended end) = progress.Done (answer_at link side caller asked end)

-- what a step leaves of a link, and what it says to its caller
pub record AskStepped (D : Type 0) : Type 0 where
  pub state : LinkState D
  pub progress : Progress

-- a step of a caller's call, which follows an incarnation; what it asks is there where it has done no step
abbrev pub asked_step : {D : Type 0} → DeskMeaning D → LinkState D → ℕ → ℕ → Option Ask → AskStepped D
asked_step desk link caller follows asked =
    let step = caller_step desk link caller follows (option_map wish_of asked) in
    record {
      state = step.state;
      progress = option_map_or (λ side. progress_at step.state side caller asked step.outcome) (end_of link.callers caller) (progress.At 0);
    }

-- the link when a call has ended, and its answer
pub record Answered (D : Type 0) : Type 0 where
  pub state : LinkState D
  pub answer : Answer

-- the answer where a step gave it, else what the later steps say
abbrev pub answered_or : {D : Type 0} → LinkState D → Progress → Option (Answered D) → Option (Answered D)
answered_or state (progress.At step) rest = rest
answered_or state (progress.Done answered) rest = Some (record { state = state; answer = answered })

-- the steps of a call up to its answer, at most so many; no answer where it takes more
unfoldable pub steps_to_answer : {D : Type 0} → ℕ → DeskMeaning D → LinkState D → ℕ → ℕ → Option Ask → Option (Answered D)
steps_to_answer zero desk link caller follows asked = None
steps_to_answer (suc n) desk link caller follows asked =
    let step = asked_step desk link caller follows asked in
    answered_or step.state step.progress (steps_to_answer n desk step.state caller follows None)
