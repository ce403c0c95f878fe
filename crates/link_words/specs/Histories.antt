-- The part on histories: what the books say of a pass is what its own list says (own).
use Rattle.std.specs.Prelude.{◌≡◌, ◌≢◌, ℕ, suc, ◌+◌, ◌==◌, ◌&&◌, ◌≤◌, ◌<◌, max, ◌⊎◌, length, Bool, true, false, if◌then◌else◌, List, [], ◌∷◌, ◌++◌, Option, Some}
use Rattle.lane_model.specs.declared.TheConstants.{MANAGER}
use Rattle.rp_base.specs.declared.kinds.End.{End}
use Rattle.rp_base.specs.declared.kinds.End.TheVariants as side
use Rattle.lane_model.specs.declared.lane_links.LaneLink.{LaneLink}
use Rattle.lane_model.specs.declared.states.BookEntry.{BookEntry}
use Rattle.lane_model.specs.declared.states.Holding.{Holding}
use Rattle.lane_model.specs.declared.stages.Sending.{Sending}
use Rattle.lane_model.specs.declared.stages.SendStage.{SendStage}
use Rattle.lane_model.specs.declared.stages.SendStage.TheVariants as stage
use Rattle.lane_model.specs.declared.stages.Turn.{Turn}
use Rattle.lane_model.specs.declared.stages.Receiving.{Receiving}
use Rattle.lane_model.specs.declared.stages.TakeStage.TheVariants as take_stage
use Rattle.lane_model.specs.declared.stages.Work.{Work}
use Rattle.lane_model.specs.declared.stages.Work.TheVariants as work
use Rattle.lane_model.specs.Lanes.{OfCall, message_at}
use Rattle.lane_model.specs.Links.{end_of}
use Rattle.ring_core.specs.declared.states.RingState.{RingState}
use Rattle.link_words.specs.declared.rule.Counted.{Counted}
use Rattle.link_words.specs.declared.rule.Counted.TheVariants.{Room, Waiting, Gave}
use Rattle.link_words.specs.declared.rule.Event.{Event}
use Rattle.link_words.specs.declared.rule.Pass.{Pass}
use Rattle.link_words.specs.declared.rule.Event.TheVariants.{Count, Publish, Step, Take}
use Rattle.link_words.specs.Words.{lane_to}

-- the two ends are one
abbrev pub same_end : End → End → Bool
same_end side.Host side.Host = true
same_end side.Host side.Remote = false
same_end side.Remote side.Host = false
same_end side.Remote side.Remote = true

-- the entries of a caller in a book whose first has this number, with their numbers
abbrev pub entries_by : ℕ → ℕ → List BookEntry → List (ℕ × List ℕ)
entries_by caller number [] = []
entries_by caller number (b ∷ bs) = if b.caller == caller then (number, b.message) ∷ entries_by caller (suc number) bs else entries_by caller (suc number) bs

-- what a pass sent on the lane to this end in this incarnation, with the numbers
abbrev pub sends_in : End → ℕ → List Event → List (ℕ × List ℕ)
sends_in e inc [] = []
sends_in e inc (Step made ∷ es) = sends_in e inc es
sends_in e inc (Count lane i counts ∷ es) = sends_in e inc es
sends_in e inc (Take lane i number message ∷ es) = sends_in e inc es
sends_in e inc (Publish lane i number message ∷ es) = if same_end lane e && (i == inc) then sends_in e inc es ++ (number, message) ∷ [] else sends_in e inc es

-- no step is of a later incarnation
abbrev pub NoneLater : ℕ → List Event → Type 0
NoneLater inc [] = Unit {0}
NoneLater inc (Step made ∷ es) = NoneLater inc es
NoneLater inc (Count lane i counts ∷ es) = (i ≤ inc) × NoneLater inc es
NoneLater inc (Publish lane i number message ∷ es) = (i ≤ inc) × NoneLater inc es
NoneLater inc (Take lane i number message ∷ es) = (i ≤ inc) × NoneLater inc es

-- the numbers that a caller took, of takers whose first has this number
abbrev pub takes_by : ℕ → ℕ → List ℕ → List ℕ
takes_by caller number [] = []
takes_by caller number (c ∷ cs) = if c == caller then number ∷ takes_by caller (suc number) cs else takes_by caller (suc number) cs

-- what a pass took on the lane to this end in this incarnation
abbrev pub takes_in : End → ℕ → List Event → List ℕ
takes_in e inc [] = []
takes_in e inc (Step made ∷ es) = takes_in e inc es
takes_in e inc (Count lane i counts ∷ es) = takes_in e inc es
takes_in e inc (Publish lane i number message ∷ es) = takes_in e inc es
takes_in e inc (Take lane i number message ∷ es) = if same_end lane e && (i == inc) then takes_in e inc es ++ number ∷ [] else takes_in e inc es

-- each message that was taken on this lane in this incarnation is the entry of its number
abbrev pub ReadsIn : End → ℕ → List BookEntry → List Event → Type 0
ReadsIn e inc book [] = Unit {0}
ReadsIn e inc book (Step made ∷ es) = ReadsIn e inc book es
ReadsIn e inc book (Count lane i counts ∷ es) = ReadsIn e inc book es
ReadsIn e inc book (Publish lane i number message ∷ es) = ReadsIn e inc book es
ReadsIn e inc book (Take lane i number message ∷ es) = (same_end lane e ≡ true → i ≡ inc → (number < length book) × (message ≡ message_at book number)) × ReadsIn e inc book es

-- three counts of a lane: the messages that were accepted, those that were handed over, and the buffers that are back
pub record LaneCounts : Type 0 where
  pub accepted : ℕ
  pub handed : ℕ
  pub returned : ℕ

-- the greater one of each
abbrev pub greatest : LaneCounts → LaneCounts → LaneCounts
greatest a b = record { accepted = max a.accepted b.accepted; handed = max a.handed b.handed; returned = max a.returned b.returned }

-- each is at most the other's
pub record IsWithin (a b : LaneCounts) : Type 0 where
  pub accepted : a.accepted ≤ b.accepted
  pub handed : a.handed ≤ b.handed
  pub returned : a.returned ≤ b.returned

-- what a step says of the counts, 0 where it says nothing
abbrev pub counts_told : Counted → LaneCounts
counts_told (Room accepted returned) = record { accepted = accepted; handed = 0; returned = returned }
counts_told (Waiting handed accepted) = record { accepted = accepted; handed = handed; returned = 0 }
counts_told (Gave returned) = record { accepted = 0; handed = 0; returned = returned }

-- and what the acceptance and the handing of the message of this number say
abbrev pub counts_published : ℕ → LaneCounts
counts_published number = record { accepted = number + 1; handed = 0; returned = 0 }

abbrev pub counts_taken : ℕ → LaneCounts
counts_taken number = record { accepted = 0; handed = number + 1; returned = 0 }

-- what a pass has seen of the lane to this end in this incarnation: the greatest counts that it read or made, 0 where there is none
abbrev pub seen : End → ℕ → List Event → LaneCounts
seen e inc [] = record { accepted = 0; handed = 0; returned = 0 }
seen e inc (Step made ∷ es) = seen e inc es
seen e inc (Count lane i counts ∷ es) = if same_end lane e && (i == inc) then greatest (counts_told counts) (seen e inc es) else seen e inc es
seen e inc (Publish lane i number message ∷ es) = if same_end lane e && (i == inc) then greatest (counts_published number) (seen e inc es) else seen e inc es
seen e inc (Take lane i number message ∷ es) = if same_end lane e && (i == inc) then greatest (counts_taken number) (seen e inc es) else seen e inc es

-- what a step reads of the counts is not below what was seen, and what it makes is above it
abbrev pub IsNotBelow : LaneCounts → Counted → Type 0
IsNotBelow before (Room accepted returned) = (before.accepted ≤ accepted) × (before.returned ≤ returned)
IsNotBelow before (Waiting handed accepted) = (before.handed ≤ handed) × (before.accepted ≤ accepted)
IsNotBelow before (Gave returned) = before.returned < returned

-- the counts of the lane to this end never go back: what a step after these says of them in this incarnation is not below what was seen, and no
-- step before it is of a later incarnation
pub record NeverBack (lane : End) (inc : ℕ) (counts : Counted) (own : List Event) : Type 0 where
  pub not_below : IsNotBelow (seen lane inc own) counts
  pub none_later : NoneLater inc own

-- the incarnation of the latest step that names one, 0 where there is none
abbrev pub latest : List Event → ℕ
latest [] = 0
latest (Step made ∷ es) = latest es
latest (Count lane i counts ∷ es) = i
latest (Publish lane i number message ∷ es) = i
latest (Take lane i number message ∷ es) = i

-- who holds something has done its latest step that names an incarnation in this one; nothing is said of the manager's own pass
abbrev pub IsOfNow : ℕ → ℕ → List ℕ → List Event → Type 0
IsOfNow inc number hands own = (number ≡ MANAGER) ⊎ ((hands ≡ []) ⊎ (latest own ≡ inc))

-- what the part on histories reads of a lane: the messages that were accepted, to whom each was handed, who holds what, and how many buffers
-- are back
pub record LaneBooks : Type 0 where
  pub accepted : List BookEntry
  pub takers : List ℕ
  pub held : List Holding
  pub returned : ℕ

-- those of a lane of the ring form
abbrev pub books_of : {D : Type 0} → RingState D → LaneBooks
books_of s = record { accepted = s.lane.lane.accepted; takers = s.lane.lane.takers; held = s.lane.lane.held; returned = s.lane.lane.returned }

-- the counts of a lane
abbrev pub counts_of : LaneBooks → LaneCounts
counts_of books = record { accepted = length books.accepted; handed = length books.takers; returned = books.returned }

-- the books of this incarnation and what a pass did agree, from its first incarnation on: the entries of its number are what it sent, the
-- numbers handed to it are those that it took, each message that it took is the entry of that number, and the counts are at least what it has seen
pub record HasHistory (inc : ℕ) (books : End → LaneBooks) (number first : ℕ) (own : List Event) : Type 0 where
  pub sent : (e : End) → first ≤ inc → entries_by number 0 (books e).accepted ≡ sends_in e inc own
  pub taken : (e : End) → first ≤ inc → takes_by number 0 (books e).takers ≡ takes_in e inc own
  pub read : (e : End) → ReadsIn e inc (books e).accepted own
  pub counts : (e : End) → IsWithin (seen e inc own) (counts_of (books e))
  pub none_later : NoneLater inc own

-- the numbers of what a caller holds, the oldest first
abbrev pub hands_of : ℕ → List Holding → List ℕ
hands_of number [] = []
hands_of number (h ∷ hs) = if h.caller == number then h.number ∷ hands_of number hs else hands_of number hs

-- a pass holds what the lane to its end says
abbrev pub HasHands : List (Option End) → (End → LaneBooks) → ℕ → List ℕ → Type 0
HasHands callers books number hands = (e : End) → end_of callers number ≡ Some e → hands_of number (books e).held ≡ hands

-- a send that has found its incarnation live is of the current one
abbrev pub is_past_era : SendStage → Bool
is_past_era stage.Turn = false
is_past_era stage.Era = true
is_past_era stage.Look = true
is_past_era stage.Buffer = true
is_past_era stage.Entry = true

-- so the send that has the turn, if any, follows this incarnation
abbrev pub IsCurrent : Turn Sending → ℕ → Type 0
IsCurrent t inc = OfCall t (λ caller s. is_past_era s.stage ≡ true → s.follows ≡ inc)

-- and so is a take
abbrev pub is_past_take_era : Work → Bool
is_past_take_era (work.Take take_stage.Turn) = false
is_past_take_era (work.Take take_stage.Era) = true
is_past_take_era (work.Take take_stage.Look) = true
is_past_take_era (work.Take take_stage.Buffer) = true
is_past_take_era (work.Give number stage) = false
is_past_take_era (work.Bind address) = false
is_past_take_era (work.Unbind address) = false

abbrev pub IsCurrentTake : Turn Receiving → ℕ → Type 0
IsCurrentTake t inc = OfCall t (λ caller r. is_past_take_era r.work ≡ true → r.follows ≡ inc)

-- the books of both lanes say nothing of this caller
abbrev pub NoneOf : {D : Type 0} → LaneLink (RingState D) → ℕ → Type 0
NoneOf m n = (e : End) → (entries_by n 0 (lane_to m e).lane.lane.accepted ≡ []) × (takes_by n 0 (lane_to m e).lane.lane.takers ≡ [])

-- no send of this caller that has the turn has found its incarnation live
abbrev pub IsQuiet : Turn Sending → ℕ → Type 0
IsQuiet t n = OfCall t (λ caller s. is_past_era s.stage ≡ true → caller ≢ n)

-- a pass that was reclaimed in this incarnation, which is closed: the books say of it what it did, and no message under its number comes in any more, whoever
-- has that number now
pub record HasEnded {D : Type 0} (m : LaneLink (RingState D)) (p : Pass) : Type 0 where
  pub closed : m.era.is_live ≡ false
  pub history : HasHistory m.era.inc (λ e. books_of (lane_to m e)) p.number p.first p.own
  pub quiet : (e : End) → IsQuiet (lane_to m e).lane.sender p.number
