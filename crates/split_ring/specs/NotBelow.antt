-- The answer of a call that is taken step by step, against what its caller had seen when it began (own).
use Rattle.std.specs.Prelude.{◌≡◌, ℕ, List, Result}
use Rattle.lane_model.specs.declared.calls.Answer.{Answer}
use Rattle.lane_model.specs.declared.calls.Ask.{Ask}
use Rattle.lane_model.specs.declared.calls.Ask.TheVariants as ask
use Rattle.lane_model.specs.declared.calls.Progress.{Progress}
use Rattle.lane_model.specs.declared.calls.Progress.TheVariants as progress
use Rattle.link_words.specs.declared.rule.Event.{Event}
use Rattle.link_words.specs.Histories.{seen}
use Rattle.link_words.specs.Words.{other}
use Rattle.split_ring.specs.Calls.{send_answer, take_answer, give_answer}
use Rattle.split_ring.specs.Receives.{IsTakeNotBelow, IsGiveAbove}
use Rattle.split_ring.specs.Sends.{IsSendNotBelow}
use Rattle.split_ring.specs.declared.callers.CallerId.{CallerId}
use Rattle.split_ring.specs.declared.gives.GiveBusy.{GiveBusy}
use Rattle.split_ring.specs.declared.sends.SendFault.{SendFault}
use Rattle.split_ring.specs.declared.takes.Taken.{Taken}
use Rattle.split_ring.specs.declared.takes.TakeFault.{TakeFault}

-- by the caller's own list before the call and after it: the answer of a send or a take says no count that is below what the caller had seen, in
-- the incarnation that it follows; a give makes a count that is above, and the caller has seen it then
abbrev pub AnswerNotBelow : CallerId → Ask → Answer → List Event → List Event → Type 0
AnswerNotBelow who (ask.Send message) said before after = (r : Result ℕ SendFault) × (said ≡ send_answer r) × IsSendNotBelow (seen (other who.end) who.follows before) r
AnswerNotBelow who ask.Take said before after = (r : Result Taken TakeFault) × (said ≡ take_answer r) × IsTakeNotBelow (seen who.end who.follows before) r
AnswerNotBelow who (ask.Give held) said before after = (r : Result ℕ GiveBusy) × (said ≡ give_answer r) × IsGiveAbove who.end before r after
AnswerNotBelow who (ask.Bind address) said before after = Unit {0}
AnswerNotBelow who (ask.Unbind address) said before after = Unit {0}

-- the same of a step, where it ends its call
abbrev pub EndsNotBelow : CallerId → Ask → Progress → List Event → List Event → Type 0
EndsNotBelow who asked (progress.At number) before after = Unit {0}
EndsNotBelow who asked (progress.Done said) before after = AnswerNotBelow who asked said before after
