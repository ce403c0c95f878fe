-- A round of a storm: what its callers are to do, and what they did, by their own lists (own).
use Rattle.std.specs.Prelude.{◌≡◌, ◌≤◌, ◌<◌, ◌*◌, ℕ, zero, suc, List, [], ◌∷◌, ◌++◌, map, length, All, count_by, slice_index_or}
use Rattle.byteorder.specs.Endian.{little_bytes}
use Rattle.rp_base.specs.declared.kinds.End.{End}
use Rattle.rpmsg_header.specs.Headers.{header_bytes}
use Rattle.channel_bus.specs.declared.sides.Side.{Side}
use Rattle.link_words.specs.declared.rule.Event.{Event}
use Rattle.link_words.specs.declared.rule.Event.TheVariants.{Step}
use Rattle.link_words.specs.declared.rule.Made.TheVariants as made
use Rattle.link_words.specs.Histories.{same_end, sends_in}
use Rattle.link_words.specs.Words.{other}
use Rattle.split_ring.specs.declared.callers.Caller.{Caller}
use Rattle.split_ring.specs.declared.callers.CallerId.{CallerId}
use Rattle.split_ring.specs.declared.links.SharedLink.{SharedLink}
use Rattle.split_ring.specs.Callers.{IsCallerOf, own_of}
use Rattle.split_ring.specs.Receives.{message_look}
use Rattle.split_ring.specs.Seats.{pass_in}
use Rattle.split_ring.specs.Sends.{live_era}

-- the message of a caller with this count: from its number to 1024, with the count as 32 bits
abbrev pub storm_message : ℕ → ℕ → List ℕ
storm_message caller count = header_bytes caller 1024 (little_bytes 4 count)

-- its messages with the counts from 0, so many, in their order
abbrev pub storm_messages : ℕ → ℕ → List (List ℕ)
storm_messages caller zero = []
storm_messages caller (suc count) = storm_messages caller count ++ storm_message caller count ∷ []

-- what a caller has sent in the incarnation that it follows, by its own list: the messages with their numbers, the oldest first
abbrev pub mine : Caller → List (ℕ × List ℕ)
mine caller = sends_in (other caller.id.end) caller.id.follows (own_of caller)

-- a caller of this link that is in no call and holds nothing
pub record IsFree (link : SharedLink Side) (caller : Caller) : Type 0 where
  pub rests : IsCallerOf link caller
  pub holds_nothing : (pass_in caller.seat.me).hands ≡ []

-- the callers may begin a round: each is free, and all follow one incarnation
abbrev pub MayBegin : SharedLink Side → List Caller → Type 0
MayBegin link callers = All (λ caller. IsFree link caller) callers × ((inc : ℕ) × All (λ caller. caller.id.follows ≡ inc) callers)

-- the same caller has done more, and these messages are what it has sent more, in their order, none of them to its own end. The incarnation from which the books
-- say what it sent stays
pub record HasSent (messages : List (List ℕ)) (before after : Caller) : Type 0 where
  pub same : after.id ≡ before.id
  pub did : List Event
  pub own : own_of after ≡ did ++ own_of before
  pub new : List (ℕ × List ℕ)
  pub more : mine after ≡ mine before ++ new
  pub said : map (λ sent. sent.1) new ≡ messages
  pub none_here : sends_in before.id.end before.id.follows did ≡ []
  pub first : (pass_in after.seat.me).first ≡ (pass_in before.seat.me).first

-- the steps of a whole take that was answered Empty, the newest first: it found that so many messages were accepted and that each was handed over
abbrev pub empty_walk : CallerId → ℕ → List Event
empty_walk who accepted = Step made.Left ∷ message_look who accepted accepted ∷ Step (made.Era (live_era who.follows)) ∷ Step (made.Turn 0) ∷ []

-- among these entries are those of a take that was answered Empty, where at least so many messages were accepted
pub record HasFoundAll (who : CallerId) (least : ℕ) (did : List Event) : Type 0 where
  pub accepted : ℕ
  pub enough : least ≤ accepted
  pub later : List Event
  pub earlier : List Event
  pub within : did ≡ later ++ (empty_walk who accepted ++ earlier)

-- a caller has done its work: it is free again, has sent so many messages, and has found that at least so many of the other end were handed over
pub record HasWorked (link : SharedLink Side) (count least : ℕ) (before after : Caller) : Type 0 where
  pub free : IsFree link after
  pub sent : HasSent (storm_messages before.id.number count) before after
  pub found : HasFoundAll before.id least sent.did

-- how many of the callers are on this end
abbrev pub count_on : End → List Caller → ℕ
count_on end callers = count_by (λ caller. same_end caller.id.end end) callers

-- each caller has done its work, where each of the other end sends as many messages as it
pub record IsWholeRound (link : SharedLink Side) (count : ℕ) (before after : List Caller) : Type 0 where
  pub as_many : length after ≡ length before
  pub each : (i : ℕ) (d : Caller) → i < length before
      → let caller = slice_index_or before i d in HasWorked link count (count * count_on (other caller.id.end) before) caller (slice_index_or after i d)
