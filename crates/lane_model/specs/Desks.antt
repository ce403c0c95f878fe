-- What goes with a receiver's turn: the endpoints of that end, and what becomes of a message (Linux drivers/rpmsg/virtio_rpmsg_bus.c).
use Rattle.std.specs.Prelude.{◌≡◌, ◌≢◌, ℕ, ◌+◌, ◌==◌, ◌⊎◌, List, [], find, Option, Some, None, Result, Ok}
use Rattle.std.specs.Option.{option_map, option_and_then}
use Rattle.rp_base.specs.declared.kinds.Endpoint.{Endpoint}
use Rattle.rp_base.specs.declared.kinds.BoundEndpoint.{BoundEndpoint}
use Rattle.rp_base.specs.declared.kinds.Verdict.{Verdict}
use Rattle.rp_base.specs.declared.kinds.Verdict.TheVariants as verdict
use Rattle.rp_base.specs.declared.kinds.BindFault.{BindFault}

-- what a desk is and does: its endpoints with the count of bindings in this incarnation, the address at which a
-- message is aimed, and what each call answers and leaves, as functions of the desk (own)
pub record DeskMeaning (D : Type 0) : Type 0 where
  pub endpoints : D → List BoundEndpoint
  pub bindings : D → ℕ
  pub aim : D → List ℕ → Option ℕ
  pub verdict : D → ℕ → List ℕ → Verdict
  pub delivered : D → ℕ → List ℕ → D
  pub bind_answer : D → ℕ → ℕ → Result Endpoint BindFault
  pub bound : D → ℕ → ℕ → D
  pub unbind_answer : D → ℕ → Result Endpoint BindFault
  pub unbound : D → ℕ → D
  pub fresh : D → D

-- a desk as it is at the start of an incarnation
pub record IsFreshDesk {D : Type 0} (meaning : DeskMeaning D) (desk : D) : Type 0 where
  pub endpoints : meaning.endpoints desk ≡ []
  pub bindings : meaning.bindings desk ≡ 0

-- the endpoint that is bound at an address
abbrev pub bound_at : {D : Type 0} → DeskMeaning D → D → ℕ → Option BoundEndpoint
bound_at meaning desk address = find (λ bound. bound.endpoint.address == address) (meaning.endpoints desk)

-- this endpoint is bound
abbrev pub IsBound : {D : Type 0} → DeskMeaning D → D → BoundEndpoint → Type 0
IsBound meaning desk bound = bound_at meaning desk bound.endpoint.address ≡ Some bound

-- the bound endpoint at the address at which a message is aimed
abbrev pub addressee : {D : Type 0} → DeskMeaning D → D → List ℕ → Option Endpoint
addressee meaning desk message =
    option_map (λ bound. bound.endpoint) (option_and_then (λ address. bound_at meaning desk address) (meaning.aim desk message))

-- what is bound at every address but this one stays (own)
abbrev pub StaysElsewhere : {D : Type 0} → DeskMeaning D → D → D → ℕ → Type 0
StaysElsewhere meaning before after address = (other : ℕ) → other ≢ address → bound_at meaning after other ≡ bound_at meaning before other

-- a change binds none and unbinds none (own)
pub record KeepsEndpoints {D : Type 0} (meaning : DeskMeaning D) (before after : D) : Type 0 where
  pub everywhere : (address : ℕ) → bound_at meaning after address ≡ bound_at meaning before address
  pub counted : meaning.bindings after ≡ meaning.bindings before

-- a change binds this endpoint, at an address that was free: it has the next generation, and so many messages had been handed over; all others stay (own)
pub record BindsOne {D : Type 0} (meaning : DeskMeaning D) (before after : D) (handed : ℕ) (bound : BoundEndpoint) : Type 0 where
  pub free : bound_at meaning before bound.endpoint.address ≡ None
  pub there : IsBound meaning after bound
  pub since : bound.since ≡ handed
  pub generation : bound.endpoint.generation ≡ meaning.bindings before + 1
  pub counted : meaning.bindings after ≡ meaning.bindings before + 1
  pub elsewhere : StaysElsewhere meaning before after bound.endpoint.address

-- a change unbinds this endpoint, and all others stay; no generation is given again (own)
pub record UnbindsOne {D : Type 0} (meaning : DeskMeaning D) (before after : D) (bound : BoundEndpoint) : Type 0 where
  pub was : IsBound meaning before bound
  pub gone : bound_at meaning after bound.endpoint.address ≡ None
  pub counted : meaning.bindings after ≡ meaning.bindings before
  pub elsewhere : StaysElsewhere meaning before after bound.endpoint.address

-- at most one endpoint is bound, and none is unbound (own)
abbrev pub AddsAtMostOne : {D : Type 0} → DeskMeaning D → D → D → ℕ → Type 0
AddsAtMostOne meaning before after handed = KeepsEndpoints meaning before after ⊎ ((bound : BoundEndpoint) × BindsOne meaning before after handed bound)

-- at most one endpoint is unbound, and none is bound (own)
abbrev pub RemovesAtMostOne : {D : Type 0} → DeskMeaning D → D → D → Type 0
RemovesAtMostOne meaning before after = KeepsEndpoints meaning before after ⊎ ((bound : BoundEndpoint) × UnbindsOne meaning before after bound)

-- at what messages are aimed stays (own)
abbrev pub KeepsAim : {D : Type 0} → DeskMeaning D → D → D → Type 0
KeepsAim meaning before after = (message : List ℕ) → meaning.aim after message ≡ meaning.aim before message

-- the laws of a desk, on which it rests that each endpoint is handed what is due to it: a message goes to the endpoint at the address at which it
-- is aimed, which no call changes; a binding adds at most one endpoint, an unbinding removes at most one, and a message does the one or the other
pub record AreDeskLaws {D : Type 0} (meaning : DeskMeaning D) : Type 0 where
  pub to : (desk : D) (number : ℕ) (message : List ℕ) (endpoint : Endpoint)
      → meaning.verdict desk number message ≡ verdict.To endpoint → addressee meaning desk message ≡ Some endpoint
  pub addressed : (desk : D) (number : ℕ) (message : List ℕ) (endpoint : Endpoint)
      → addressee meaning desk message ≡ Some endpoint → meaning.verdict desk number message ≡ verdict.To endpoint
  pub delivered : (desk : D) (number : ℕ) (message : List ℕ)
      → AddsAtMostOne meaning desk (meaning.delivered desk number message) (number + 1) ⊎ RemovesAtMostOne meaning desk (meaning.delivered desk number message)
  pub bound : (desk : D) (address since : ℕ) → AddsAtMostOne meaning desk (meaning.bound desk address since) since
  pub unbound : (desk : D) (address : ℕ) → RemovesAtMostOne meaning desk (meaning.unbound desk address)
  pub delivered_aim : (desk : D) (number : ℕ) (message : List ℕ) → KeepsAim meaning desk (meaning.delivered desk number message)
  pub bound_aim : (desk : D) (address since : ℕ) → KeepsAim meaning desk (meaning.bound desk address since)
  pub unbound_aim : (desk : D) (address : ℕ) → KeepsAim meaning desk (meaning.unbound desk address)
  pub fresh_aim : (desk : D) → KeepsAim meaning desk (meaning.fresh desk)
  pub fresh : (desk : D) → IsFreshDesk meaning (meaning.fresh desk)
  pub answered : (desk : D) (address since : ℕ) (endpoint : Endpoint) → meaning.bind_answer desk address since ≡ Ok endpoint
      → IsBound meaning (meaning.bound desk address since) (record { endpoint = endpoint; since = since })
