-- What a lane hands over in one incarnation: each handing, what is due to an endpoint, and what it got (own).
use Rattle.std.specs.Prelude.{◌≡◌, ℕ, ◌+◌, ◌==◌, ◌&&◌, not, nat_lt, Bool, false, if◌then◌else◌, List, [], ◌∷◌, ◌++◌, length, map, take, filter, slice_get, Option, Some, None}
use Rattle.rp_base.specs.declared.kinds.Endpoint.{Endpoint}
use Rattle.rp_base.specs.declared.kinds.BoundEndpoint.{BoundEndpoint}
use Rattle.rp_base.specs.declared.kinds.Verdict.{Verdict}
use Rattle.rp_base.specs.declared.kinds.Verdict.TheVariants as verdict
use Rattle.lane_model.specs.declared.states.BookEntry.{BookEntry}
use Rattle.lane_model.specs.declared.states.Lane.{Lane}
use Rattle.lane_model.specs.declared.states.LaneState.{LaneState}
use Rattle.lane_model.specs.declared.stages.Receiving.{Receiving}
use Rattle.lane_model.specs.declared.stages.Turn.{Turn}
use Rattle.lane_model.specs.declared.stages.Turn.TheVariants as turn
use Rattle.lane_model.specs.declared.calls.CallEnd.TheVariants as end
use Rattle.lane_model.specs.Desks.{DeskMeaning}

-- a message of a book: its number, who sent it, and its bytes
pub record NumberedMessage : Type 0 where
  pub number : ℕ
  pub sender : ℕ
  pub message : List ℕ

-- a handing: the message, and what became of it
pub record Handing : Type 0 where
  pub sent : NumberedMessage
  pub verdict : Verdict

-- the messages of a book, each with its number
abbrev pub with_numbers : ℕ → List BookEntry → List NumberedMessage
with_numbers first [] = []
with_numbers first (entry ∷ rest) = record { number = first; sender = entry.caller; message = entry.message } ∷ with_numbers (first + 1) rest

-- the messages of a lane that were handed over: the first of its book, as many as it has takers
abbrev pub handed_front : Lane → List BookEntry
handed_front lane = take (length lane.takers) lane.accepted

-- what was handed over, without the verdicts
abbrev pub messages_of : List Handing → List NumberedMessage
messages_of handings = map (λ handing. handing.sent) handings

-- the handing of the message that has this number in a book
abbrev pub handing_of : Option BookEntry → ℕ → Verdict → List Handing
handing_of None number told = []
handing_of (Some entry) number told = record { sent = record { number = number; sender = entry.caller; message = entry.message }; verdict = told } ∷ []

-- the handing of which the taker that is to leave its turn is told: a number, whose message the book has, and a verdict
abbrev pub told_handing : List BookEntry → Turn Receiving → List Handing
told_handing book (turn.Leaving caller (end.Took number told)) = handing_of (slice_get book number) number told
told_handing book other = []

-- what was handed over between two states of a lane that are one step apart: nothing where as many are handed as before
abbrev pub handed_by : {D : Type 0} → LaneState D → LaneState D → List Handing
handed_by before after =
    if length after.lane.takers == length before.lane.takers then [] else told_handing after.lane.accepted after.receiver

-- the message is aimed at this address
abbrev pub is_aimed : Option ℕ → ℕ → Bool
is_aimed None address = false
is_aimed (Some aim) address = aim == address

-- the verdict is that the message goes to this endpoint
abbrev pub is_to : Verdict → Endpoint → Bool
is_to (verdict.To other) endpoint = (other.address == endpoint.address) && (other.generation == endpoint.generation)
is_to other endpoint = false

-- the message was not handed over before the endpoint was bound, it is of this sender, and it is aimed at the endpoint
abbrev pub is_due : (List ℕ → Option ℕ) → BoundEndpoint → ℕ → NumberedMessage → Bool
is_due aim bound sender sent =
    not (nat_lt sent.number bound.since) && ((sent.sender == sender) && is_aimed (aim sent.message) bound.endpoint.address)

-- what is due to an endpoint from this sender among the messages of a book, by number
abbrev pub due : {D : Type 0} → DeskMeaning D → D → BoundEndpoint → ℕ → List BookEntry → List NumberedMessage
due meaning desk bound sender book = filter (is_due (meaning.aim desk) bound sender) (with_numbers 0 book)

-- the handing is of a message of this sender to this endpoint
abbrev pub is_got : Endpoint → ℕ → Handing → Bool
is_got endpoint sender handing = (handing.sent.sender == sender) && is_to handing.verdict endpoint

-- what an endpoint got from this sender, in the order of handing
abbrev pub got : Endpoint → ℕ → List Handing → List NumberedMessage
got endpoint sender handings = messages_of (filter (is_got endpoint sender) handings)

-- the first list is how the second begins
pub record IsPrefix {X : Type 0} (front whole : List X) : Type 0 where
  pub rest : List X
  pub is : whole ≡ front ++ rest
