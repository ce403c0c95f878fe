-- What the callers of a life are left with, and what their own lists say (own).
use Rattle.std.specs.Prelude.{◌≡◌, ℕ, List, [], ◌∷◌, ◌++◌, Option, Some, None}
use Rattle.rp_base.specs.declared.kinds.End.{End}
use Rattle.link_words.specs.declared.rule.Event.{Event}
use Rattle.link_words.specs.declared.rule.Event.TheVariants.{Take}
use Rattle.link_words.specs.Histories.{sends_in}
use Rattle.link_words.specs.Words.{other}
use Rattle.split_ring.specs.declared.callers.Caller.{Caller}
use Rattle.split_ring.specs.declared.calls.RingCall.{RingCall}
use Rattle.split_ring.specs.declared.links.SharedLink.{SharedLink}
use Rattle.split_ring.specs.Callers.{IsCallerOf, IsUserOf, own_of}
use Rattle.split_ring.specs.Reclaims.{StandsIn, buffer_in, phase_of}
use Rattle.split_ring.specs.Seats.{pass_in}

module _ {D : Type 0} where
  -- a caller of this link that is in no call and has nothing in hand
  pub record IsFree (link : SharedLink D) (caller : Caller) : Type 0 where
    pub rests : IsCallerOf link caller
    pub hands : (pass_in caller.seat.me).hands ≡ []

  -- and that has done nothing yet
  pub record IsNew (link : SharedLink D) (caller : Caller) : Type 0 where
    pub free : IsFree link caller
    pub own : own_of caller ≡ []

  -- a caller of this link that has stopped in this call, or in none, with nothing in hand
  pub record HasStopped (link : SharedLink D) (caller : Caller) (call : Option (RingCall D)) : Type 0 where
    pub user : IsUserOf link caller
    pub stands : StandsIn link.sizes caller.id (phase_of call) caller.seat.me
    pub hands : (pass_in caller.seat.me).hands ≡ []
    pub buffer : buffer_in (phase_of call) ≡ []

-- the caller has done more
pub record HasGrown (before after : Caller) : Type 0 where
  pub more : List Event
  pub own : own_of after ≡ more ++ own_of before

-- what it has done more published nothing, on no lane and in no incarnation
abbrev pub HasPublishedNone : Caller → Caller → Type 0
HasPublishedNone before after = (lane : End) (inc : ℕ) → sends_in lane inc (own_of after) ≡ sends_in lane inc (own_of before)

-- all that the caller has published on this lane in this incarnation is this message, under this number; or nothing, where there is none
abbrev pub sent_alone : Option ℕ → List ℕ → List (ℕ × List ℕ)
sent_alone None message = []
sent_alone (Some number) message = (number, message) ∷ []

abbrev pub HasSentAlone : Caller → Option ℕ → List ℕ → Type 0
HasSentAlone caller sent message = sends_in (other caller.id.end) caller.id.follows (own_of caller) ≡ sent_alone sent message

-- the caller was handed this message, under this number, in the incarnation that it follows
pub record HasTaken (caller : Caller) (number : ℕ) (message : List ℕ) : Type 0 where
  pub later : List Event
  pub earlier : List Event
  pub own : own_of caller ≡ later ++ Take caller.id.end caller.id.follows number message ∷ earlier
