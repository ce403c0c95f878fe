-- The endpoints of one end of a link (`struct rpmsg_endpoint` and `virtproc_info.endpoints` of Linux drivers/rpmsg/virtio_rpmsg_bus.c; generations and limits are own).
use Rattle.std.specs.Prelude.{◌≡◌, ◌≢◌, ℕ, ◌+◌, ◌-◌, ◌^◌, ◌<◌, ◌≤◌, Bool, true, false, ◌||◌, not, nat_lt, nat_le, ◌==◌, if◌then◌else◌, List, [], ◌∷◌, ◌++◌, length, filter, find, Option, Some, None, is_some, unwrap_or, Result, Ok, Err, ok_or, option_map, insert, AllPairs}
use Rattle.std.specs.List.{range_with_len, prefix_len, AllWithin}
use Rattle.rp_base.specs.declared.kinds.Endpoint.{Endpoint}
use Rattle.rp_base.specs.declared.kinds.BindFault.{BindFault}
use Rattle.rp_base.specs.declared.kinds.BindFault.TheVariants.{AddressTaken, EndpointsFull, NotBound}
use Rattle.rp_base.specs.declared.kinds.BoundEndpoint.{BoundEndpoint}
use Rattle.rp_base.specs.declared.limits.TheConstants.{ENDPOINTS_MOST}

-- the endpoints of one end in order of their addresses, and how many bindings this incarnation has seen (own)
pub record Bindings : Type 0 where
  pub bound : List BoundEndpoint
  pub count : ℕ

-- an end where nothing was bound yet (own)
abbrev pub no_bindings : Bindings
no_bindings = record { bound = []; count = 0 }

-- the address that asks for any free one (RPMSG_ADDR_ANY of include/linux/rpmsg.h)
abbrev pub any_address : ℕ
any_address = 0xffff_ffff

-- the least address that is given where any is asked for (RPMSG_RESERVED_ADDRESSES of virtio_rpmsg_bus.c)
abbrev pub first_dynamic : ℕ
first_dynamic = 1024

-- the endpoint that is bound
abbrev pub endpoint_of : BoundEndpoint → Endpoint
endpoint_of bound = bound.endpoint

-- whether an endpoint is bound at this address
abbrev pub is_at : ℕ → BoundEndpoint → Bool
is_at address bound = bound.endpoint.address == address

-- what is bound at an address (idr_find in rpmsg_recv_single)
abbrev pub bound_at : Bindings → ℕ → Option BoundEndpoint
bound_at bindings address = find (is_at address) bindings.bound

-- whether something is bound at an address
abbrev pub is_bound : Bindings → ℕ → Bool
is_bound bindings address = is_some (bound_at bindings address)

-- the first address from 1024 on at which nothing is bound: one of as many as are bound, or the next (idr_alloc in __rpmsg_create_ept)
abbrev pub least_free : Bindings → ℕ
least_free bindings =
    unwrap_or (find (λ address. not (is_bound bindings address)) (range_with_len first_dynamic (length bindings.bound + 1))) first_dynamic

-- the address that a binding is for
abbrev pub address_for : Bindings → ℕ → ℕ
address_for bindings asked = if asked == any_address then least_free bindings else asked

-- whether no endpoint can be bound any more: there are as many as an end may have, or the generations are spent (own)
abbrev pub is_full : Bindings → Bool
is_full bindings = nat_le ENDPOINTS_MOST (length bindings.bound) || nat_le (2 ^ 64 - 1) bindings.count

-- the endpoint that is bound next (own: the generation is the number of the binding, from 1)
abbrev pub next_endpoint : Bindings → ℕ → Endpoint
next_endpoint bindings asked = record { address = address_for bindings asked; generation = bindings.count + 1 }

-- what a binding answers
abbrev pub bind_answer : Bindings → ℕ → Result Endpoint BindFault
bind_answer bindings asked =
    if is_bound bindings (address_for bindings asked)
    then Err (AddressTaken (address_for bindings asked))
    else (if is_full bindings then Err EndpointsFull else Ok (next_endpoint bindings asked))

-- how many endpoints in front have lower addresses
abbrev pub place_of : ℕ → List BoundEndpoint → ℕ
place_of address bound = prefix_len (λ b. nat_lt b.endpoint.address address) bound

-- one endpoint more, in its place by its address
abbrev pub with_endpoint : BoundEndpoint → List BoundEndpoint → List BoundEndpoint
with_endpoint one bound = insert bound (place_of one.endpoint.address bound) one

-- what is left after a binding, when `since` messages had been handed over: a refused one changes nothing
abbrev pub after_bind : Bindings → ℕ → ℕ → Bindings
after_bind bindings asked since =
    if is_bound bindings (address_for bindings asked) || is_full bindings
    then bindings
    else record {
      bound = with_endpoint (record { endpoint = next_endpoint bindings asked; since = since }) bindings.bound;
      count = bindings.count + 1;
    }

-- what an unbinding answers
abbrev pub unbind_answer : Bindings → ℕ → Result Endpoint BindFault
unbind_answer bindings address = ok_or (option_map endpoint_of (bound_at bindings address)) (NotBound address)

-- what is left after an unbinding (idr_remove in __rpmsg_destroy_ept)
abbrev pub after_unbind : Bindings → ℕ → Bindings
after_unbind bindings address =
    record { bound = filter (λ b. not (is_at address b)) bindings.bound; count = bindings.count }

-- each address is lower than the next ones
abbrev pub IsAscending : List BoundEndpoint → Type 0
IsAscending bound = AllPairs (λ b c. b.endpoint.address < c.endpoint.address) bound

-- the place among ascending addresses where a new one goes: after all lower ones and before all higher ones
pub record IsPlace (address : ℕ) (bound : List BoundEndpoint) (place : ℕ) : Type 0 where
  pub within : place ≤ length bound
  pub lower : AllWithin (λ b. b.endpoint.address < address) bound 0 place
  pub higher : AllWithin (λ b. address < b.endpoint.address) bound place (length bound)

-- the place among ascending addresses of the first one from 1024 on
pub record IsDynamicPlace (bound : List BoundEndpoint) (place : ℕ) : Type 0 where
  pub within : place ≤ length bound
  pub lower : AllWithin (λ b. b.endpoint.address < first_dynamic) bound 0 place
  pub dynamic : AllWithin (λ b. first_dynamic ≤ b.endpoint.address) bound place (length bound)

-- the least address from 1024 on at which nothing is bound
pub record IsLeastFree (bindings : Bindings) (address : ℕ) : Type 0 where
  pub dynamic : first_dynamic ≤ address
  pub free : is_bound bindings address ≡ false
  pub least : (lower : ℕ) → first_dynamic ≤ lower → lower < address → is_bound bindings lower ≡ true

-- what a binding changes: this endpoint is new, has the next generation, and is found at its address; all others are where they were
pub record BindsOne (before after : Bindings) (endpoint : Endpoint) (since : ℕ) : Type 0 where
  pub free : is_bound before endpoint.address ≡ false
  pub next : endpoint.generation ≡ before.count + 1
  pub counted : after.count ≡ before.count + 1
  pub there : bound_at after endpoint.address ≡ Some (record { endpoint = endpoint; since = since })
  pub elsewhere : (other : ℕ) → other ≢ endpoint.address → bound_at after other ≡ bound_at before other

-- what an unbinding changes: nothing is bound at the address, all others are where they were, and no generation is given again
pub record UnbindsOne (before after : Bindings) (address : ℕ) : Type 0 where
  pub there : bound_at after address ≡ None
  pub elsewhere : (other : ℕ) → other ≢ address → bound_at after other ≡ bound_at before other
  pub counted : after.count ≡ before.count
