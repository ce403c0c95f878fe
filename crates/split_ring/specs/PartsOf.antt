-- A reclaim of a caller with its parts: what it asks, and what it answers (own).
use Rattle.std.specs.Prelude.{◌≡◌, ◌⊎◌, ℕ, List, [], Bool, true, false, ◌++◌, map, slice_set, Option, None, Vec}
use mathlib.Core.Option.{some}
use lib.ListN.{get_elem?}
use base.Stored.{Coded}
use Rattle.std.specs.declared.alloc.Global.{Global}
use Rattle.rp_base.specs.declared.kinds.Era.{Era}
use Rattle.lane_model.specs.declared.recoveries.ReclaimByFault.{ReclaimByFault}
use Rattle.lane_model.specs.declared.recoveries.ReclaimRefusal.{ReclaimRefusal}
use Rattle.lane_model.specs.declared.recoveries.ReclaimRefusal.TheVariants as refusal
use Rattle.lane_model.specs.Desks.{DeskMeaning}
use Rattle.lane_model.specs.HeldBuffers.{HeldBuffer}
use Rattle.lane_model.specs.Recoveries.{handed_back}
use Rattle.link_words.specs.Calls.{SeatState}
use Rattle.link_words.specs.Passes.{HasNumber}
use Rattle.split_ring.specs.declared.callers.CallerId.{CallerId}
use Rattle.split_ring.specs.declared.callers.Manager.{Manager}
use Rattle.split_ring.specs.CallPhases.{Phase}
use Rattle.split_ring.specs.declared.calls.RingCall.{RingCall}
use Rattle.split_ring.specs.declared.links.SharedLink.{SharedLink}
use Rattle.split_ring.specs.declared.reclaims.Parts.{Parts}
use Rattle.split_ring.specs.declared.reclaims.ReclaimFault.{ReclaimFault}
use Rattle.split_ring.specs.declared.reclaims.ReclaimFault.TheVariants as fault
use Rattle.split_ring.specs.Callers.{IsUserOf}
use Rattle.split_ring.specs.Carried.{Carries, carried_seat}
use Rattle.split_ring.specs.Receives.{IsHeldBy}
use Rattle.split_ring.specs.Reclaims.{StandsIn, HasRead, HasRetired, IsAnothers, IsNow, buffer_in, is_turn, lacks_receiver, phase_of, turn_in}
use Rattle.split_ring.specs.Seats.{pass_in}

-- each buffer is in the hands of this caller; whatever is in its hands is one of these, or the one that its call gives back or was handed; and that one is in its hands
abbrev pub AreHeldBy : CallerId → List HeldBuffer → SeatState → Type 0
AreHeldBy who held me = (place : ℕ) (buffer : HeldBuffer) → get_elem? held place ≡ some buffer → IsHeldBy who buffer me

abbrev pub HoldsNoOther : Phase → List HeldBuffer → SeatState → Type 0
HoldsNoOther p held me = (number : ℕ) → HasNumber (pass_in me).hands number → HasNumber (buffer_in p ++ map (λ buffer. buffer.number) held) number

abbrev pub HoldsItsOwn : Phase → SeatState → Type 0
HoldsItsOwn p me = (number : ℕ) → HasNumber (buffer_in p) number → HasNumber (pass_in me).hands number

-- whether a caller has something in hand is said right
pub record TellsHands (is_holding : Bool) (me : SeatState) : Type 0 where
  pub some : is_holding ≡ true → (number : ℕ) × HasNumber (pass_in me).hands number
  pub none : is_holding ≡ false → (pass_in me).hands ≡ []

-- a caller needs its receiver's turn that holds something, where its call, in this phase, doesn't have that turn
pub record NeedsTurn (p : Phase) (me : SeatState) : Type 0 where
  pub number : ℕ
  pub holds : HasNumber (pass_in me).hands number
  pub lacks : lacks_receiver (turn_in p) ≡ true

-- its call has a turn, or it holds something: a reclaim looks at the era again with its pass
abbrev pub LooksAgain : Phase → SeatState → Type 0
LooksAgain p me = (is_turn (turn_in p) ≡ true) ⊎ ((number : ℕ) × HasNumber (pass_in me).hands number)

module _ {D : Type 0} where
  -- the parts are all that this caller of the link has: it is in its call, or in none, and the buffers are all that it has in hand beside that of its call
  pub record IsAllOf (link : SharedLink D) (parts : Parts D) : Type 0 where
    pub user : IsUserOf link parts.caller
    pub stands : StandsIn link.sizes parts.caller.id (phase_of parts.call) parts.caller.seat.me
    pub held : AreHeldBy parts.caller.id parts.held.items parts.caller.seat.me
    pub all : HoldsNoOther (phase_of parts.call) parts.held.items parts.caller.seat.me
    pub own : HoldsItsOwn (phase_of parts.call) parts.caller.seat.me

  -- and so they are of a caller that the manager carries
  pub record IsAllCarried (link : SharedLink D) (manager : Manager) (who : CallerId) (call : Option (RingCall D)) (buffers : List HeldBuffer) : Type 0 where
    pub carries : Carries link manager who (phase_of call)
    pub held : AreHeldBy who buffers (carried_seat who (phase_of call) manager)
    pub all : HoldsNoOther (phase_of call) buffers (carried_seat who (phase_of call) manager)
    pub own : HoldsItsOwn (phase_of call) (carried_seat who (phase_of call) manager)

  -- the parts that come back are those that came
  pub record AreSame (before after : Parts D) : Type 0 where
    pub id : after.caller.id ≡ before.caller.id
    pub call : after.call ≡ before.call
    pub held : after.held ≡ before.held
    pub table : after.caller.seat.table_id ≡ before.caller.seat.table_id
    pub seat : IsNow (pass_in before.caller.seat.me) before.caller.seat.me.1 before.caller.seat.me after.caller.seat.me

  -- the caller has ended: its number is free
  pub record IsReclaimed (manager : Manager) (parts : Parts D) (after : Manager) : Type 0 where
    pub retired : HasRetired parts.caller.id (pass_in parts.caller.seat.me) manager.seat.me after.seat.me
    pub users : after.users ≡ slice_set manager.users parts.caller.id.number None

module _ {D : Type 0} (coded : Coded D) (meaning : DeskMeaning D) where
  -- why a caller is not reclaimed, with its parts: the era was found live, by the manager, which did not know it closed, or by a second look; or another has the
  -- turn that the caller needs. The manager has read an era, and knows nothing else
  abbrev pub IsRefusal : SharedLink D → Manager → Parts D → ReclaimFault D → Manager → Type 0
  IsRefusal link manager parts (fault.StillOpen era back) after = (era.is_live ≡ true) × AreSame parts back × IsAllOf link back × (after.users ≡ manager.users) × ((read : Era) × HasRead read manager.seat.me after.seat.me)
      × (manager.seat.me.0.is_closed ≡ true → LooksAgain (phase_of parts.call) parts.caller.seat.me)
  IsRefusal link manager parts (fault.Busy holder back) after = IsAnothers coded meaning parts.caller.id holder × NeedsTurn (phase_of parts.call) parts.caller.seat.me × AreSame parts back × IsAllOf link back × (after.users ≡ manager.users)
      × ((read : Era) × (read.is_live ≡ false) × HasRead read manager.seat.me after.seat.me)

  -- why a caller that the manager carries is not ended, in this phase of its call: the era was found live, by the manager, which did not know it closed, or by a second
  -- look; or another has the turn that the caller needs
  abbrev pub IsRetireRefusal : CallerId → Manager → Phase → ReclaimRefusal → Type 0
  IsRetireRefusal who manager p (refusal.StillOpen era) = (era.is_live ≡ true) × (manager.seat.me.0.is_closed ≡ true → LooksAgain p (carried_seat who p manager))
  IsRetireRefusal who manager p (refusal.Busy holder) = IsAnothers coded meaning who holder × NeedsTurn p (carried_seat who p manager)

  -- and so why it is not reclaimed, with its call and its buffers as they came
  abbrev pub IsRefusalBy : CallerId → Manager → Option (RingCall D) → Vec HeldBuffer Global → ReclaimByFault (RingCall D) → Type 0
  IsRefusalBy who manager call held fault = (why : ReclaimRefusal) × IsRetireRefusal who manager (phase_of call) why × (fault ≡ handed_back call held why)
