-- What the callers of a storm are and do, and what its manager knows of them (own).
use Rattle.std.specs.Prelude.{◌≡◌, ◌+◌, ◌*◌, ◌<◌, ◌≤◌, ℕ, true, List, [], length, nat_lt, if◌then◌else◌, slice_index_or, Some, None}
use mathlib.Core.Option.{some}
use lib.ListN.{get_elem?}
use Rattle.channel_bus.specs.declared.sides.Side.{Side}
use Rattle.lane_model.specs.Links.{end_of}
use Rattle.rp_base.specs.declared.limits.TheConstants.{CALLERS_MOST}
use Rattle.rp_base.specs.declared.kinds.End.{End}
use Rattle.rp_base.specs.declared.kinds.End.TheVariants as side
use Rattle.link_words.specs.declared.rule.Event.{Event}
use Rattle.link_words.specs.declared.rule.Pass.{Pass}
use Rattle.link_words.specs.Histories.{seen, sends_in}
use Rattle.link_words.specs.Passes.{HasNumber}
use Rattle.link_words.specs.Words.{other}
use Rattle.split_ring.specs.Callers.{own_of}
use Rattle.split_ring.specs.Seats.{pass_in}
use Rattle.split_ring.specs.declared.callers.Caller.{Caller}
use Rattle.split_ring.specs.declared.callers.Manager.{Manager}
use Rattle.split_ring.specs.declared.links.SharedLink.{SharedLink}
use Rattle.storm_run.specs.declared.plans.Plan.{Plan}
use Rattle.storm_run.specs.declared.plans.TheConstants.{FIRST}
use Rattle.storm_run.specs.Rounds.{IsFree}

-- the end of the caller of a number: first come those of the host
abbrev pub end_at : Plan → ℕ → End
end_at plan number = if nat_lt number plan.hosts then side.Host else side.Remote

-- how many callers an end has
abbrev pub callers_on : Plan → End → ℕ
callers_on plan side.Host = plan.hosts
callers_on plan side.Remote = plan.remotes

-- a new caller of a storm: it is free, and has done nothing
pub record IsNewCaller (link : SharedLink Side) (plan : Plan) (number : ℕ) (caller : Caller) : Type 0 where
  pub free : IsFree link caller
  pub numbered : caller.id.number ≡ number
  pub end : caller.id.end ≡ end_at plan number
  pub follows : caller.id.follows ≡ FIRST
  pub first : (pass_in caller.seat.me).first ≡ FIRST
  pub idle : own_of caller ≡ []

-- so many new callers of a storm, by number
pub record AreNewCallers (link : SharedLink Side) (plan : Plan) (made : ℕ) (callers : List Caller) : Type 0 where
  pub many : length callers ≡ made
  pub each : (number : ℕ) (d : Caller) → number < made → IsNewCaller link plan number (slice_index_or callers number d)

-- by its own list, a caller of this end has sent so many messages in this incarnation, none of them to its own end, and has found that at least so many were
-- handed over there
pub record HasSentAll (end : End) (inc count least : ℕ) (own : List Event) : Type 0 where
  pub sent : length (sends_in (other end) inc own) ≡ count
  pub kept : sends_in end inc own ≡ []
  pub found : least ≤ (seen end inc own).handed

-- such a caller after the round: it is free again, and has done its work
pub record IsDoneCaller (link : SharedLink Side) (plan : Plan) (number : ℕ) (caller : Caller) : Type 0 where
  pub free : IsFree link caller
  pub numbered : caller.id.number ≡ number
  pub first : (pass_in caller.seat.me).first ≡ FIRST
  pub sent : HasSentAll (end_at plan number) FIRST plan.count (callers_on plan (other (end_at plan number)) * plan.count) (own_of caller)

-- all of them
pub record AreDoneCallers (link : SharedLink Side) (plan : Plan) (callers : List Caller) : Type 0 where
  pub many : length callers ≡ plan.hosts + plan.remotes
  pub each : (number : ℕ) (d : Caller) → number < plan.hosts + plan.remotes → IsDoneCaller link plan number (slice_index_or callers number d)

-- the manager of a storm has made so many callers, and has reclaimed none
pub record HasMade (plan : Plan) (made : ℕ) (manager : Manager) : Type 0 where
  pub inc : manager.seat.me.0.inc ≡ FIRST
  pub many : length manager.users ≡ CALLERS_MOST
  pub used : (number : ℕ) → number < made → end_of manager.users number ≡ Some (end_at plan number)
  pub unused : (number : ℕ) → made ≤ number → end_of manager.users number ≡ None
  pub none_freed : manager.seat.me.0.reclaims ≡ []

-- these are the callers of the first numbers, and each is free
abbrev pub AreNumbered : SharedLink Side → List Caller → Type 0
AreNumbered link callers = (number : ℕ) (d : Caller) → number < length callers → IsFree link (slice_index_or callers number d) × ((slice_index_or callers number d).id.number ≡ number)

-- one of these passes is that of this caller, as far as the books say of it
pub record HasPassOf (caller : Caller) (passes : List Pass) : Type 0 where
  pub place : ℕ
  pub pass : Pass
  pub here : get_elem? passes place ≡ some pass
  pub number : pass.number ≡ caller.id.number
  pub first : pass.first ≡ (pass_in caller.seat.me).first
  pub own : pass.own ≡ own_of caller

-- the manager knows that the link is closed, and has reclaimed so many of its callers, the first ones, whose passes it has kept
pub record HasReclaimed (callers : List Caller) (reclaimed : ℕ) (manager : Manager) : Type 0 where
  pub inc : manager.seat.me.0.inc ≡ FIRST
  pub closed : manager.seat.me.0.is_closed ≡ true
  pub many : length manager.users ≡ CALLERS_MOST
  pub unused : (number : ℕ) → (reclaimed ≤ number → number < length callers → ⊥) → end_of manager.users number ≡ None
  pub freed : (number : ℕ) → HasNumber manager.seat.me.0.reclaims number → number < length callers
  pub kept : (number : ℕ) (d : Caller) → number < reclaimed → HasPassOf (slice_index_or callers number d) manager.seat.me.0.ended_passes
