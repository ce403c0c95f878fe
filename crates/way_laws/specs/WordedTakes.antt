-- The line of a take, against the handing of which its taker is told (own).
use Rattle.std.specs.Prelude.{◌≡◌, ◌≢◌, ℕ, Bool, true, false, List, [], ◌∷◌, Option, Some, None, is_some, All, Contains}
use Rattle.rp_base.specs.declared.kinds.End.{End}
use Rattle.rp_base.specs.declared.kinds.Verdict.{Verdict}
use Rattle.lane_model.specs.declared.calls.CallEnd.TheVariants as call_end
use Rattle.lane_model.specs.Links.{LinkState, end_of}
use Rattle.lane_laws.specs.Handings.{Handing}
use Rattle.lane_laws.specs.Ways.{IsWay, Way, link_of_way}
use Rattle.channel_bus.specs.Sides.{EndState, side_meaning}
use Rattle.journal.specs.declared.events.Event.{Event}
use Rattle.journal.specs.declared.events.Event.TheVariants as event
use Rattle.link_bench.specs.declared.acts.ActAnswer.{ActAnswer}
use Rattle.link_bench.specs.declared.acts.ActAnswer.TheVariants as answer
use Rattle.link_commands.specs.CallEvents.{end_event, took_event}

-- a link comes by a way from an opening of it
pub record ComesFromOpening (link : LinkState EndState) : Type 0 where
  pub way : Way EndState
  pub is_way : IsWay side_meaning way
  pub leads : link_of_way side_meaning way ≡ link

-- a call of a caller took the message of this number, and left this link: of these takes one handing is told at the caller's end and nothing at the other, and the line of the call has the number, the bytes and the verdict of that handing
pub record IsWordedTake (takes : End → List Handing) (left : LinkState EndState) (caller number : ℕ) (judged : Verdict) : Type 0 where
  pub end : End
  pub handing : Handing
  pub is_at : end_of left.callers caller ≡ Some end
  pub told : takes end ≡ handing ∷ []
  pub none_else : (other : End) → other ≢ end → takes other ≡ []
  pub line : (name : List ℕ) → end_event name left caller (call_end.Took number judged) ≡ took_event name caller handing.sent.number handing.sent.message handing.verdict

-- whether an answer of an act tells of calls: how far one came, or how turns ended
abbrev pub is_of_calls : ActAnswer → Bool
is_of_calls (answer.Reached caller came) = true
is_of_calls (answer.Pumped done came) = true
is_of_calls other = false

-- the caller whose take an event is the line of
abbrev pub taker_of : Event → Option ℕ
taker_of (event.TookFromTo name caller number source endpoint payload) = Some caller
taker_of (event.TookFromDropped name caller number source destination payload) = Some caller
taker_of (event.TookMalformed name caller number) = Some caller
taker_of (event.TookNs name caller number kind channel address) = Some caller
taker_of (event.TookNsMalformed name caller number) = Some caller
taker_of other = None

-- whether an event is the line of a take
abbrev pub is_take_line : Event → Bool
is_take_line line = is_some (taker_of line)

-- none of these events is the line of a take
abbrev pub TellNoTakes : List Event → Type 0
TellNoTakes events = All (λ (line : Event). is_take_line line ≡ false) events

-- an event is the line of a handing which these takes tell at an end, and they tell no other there
pub record IsLineOfTake (takes : End → List Handing) (name : List ℕ) (line : Event) : Type 0 where
  pub end : End
  pub caller : ℕ
  pub handing : Handing
  pub told : takes end ≡ handing ∷ []
  pub worded : line ≡ took_event name caller handing.sent.number handing.sent.message handing.verdict

-- each of these events that is the line of a take is that of a handing which these takes tell
abbrev pub AreLinesOfTakes : (End → List Handing) → List ℕ → List Event → Type 0
AreLinesOfTakes takes name events = All (λ (line : Event). is_take_line line ≡ true → IsLineOfTake takes name line) events

-- an event is the line of a handing that is among those which these takes tell at an end
pub record IsLineAmong (takes : End → List Handing) (name : List ℕ) (line : Event) : Type 0 where
  pub end : End
  pub caller : ℕ
  pub handing : Handing
  pub told : Contains (takes end) handing
  pub worded : line ≡ took_event name caller handing.sent.number handing.sent.message handing.verdict

-- each of these events that is the line of a take is that of a handing among those which these takes tell
abbrev pub AreLinesAmong : (End → List Handing) → List ℕ → List Event → Type 0
AreLinesAmong takes name events = All (λ (line : Event). is_take_line line ≡ true → IsLineAmong takes name line) events
