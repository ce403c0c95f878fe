-- An end keeps the laws of a desk.
use Rattle.std.specs.Prelude.{◌≡◌, ◌≢◌, ◌⊎◌, ℕ, ◌+◌, Bool, true, false, cond, ◌&&◌, not, eqb, List, [], ◌∷◌, find, Option, Some, None, is_some, Result, Ok, Err, refl}
use Rattle.std.specs.Option.{option_map, option_and_then}
use Rattle.std.proofs.Common.{ap, sym, ◌∙◌, subst, inl, inr}
use Rattle.std.proofs.lemmas.Bool.{eqb-true, eqb-false}
use Rattle.rp_base.specs.declared.kinds.Endpoint.{Endpoint}
use Rattle.rp_base.specs.declared.kinds.BoundEndpoint.{BoundEndpoint}
use Rattle.rp_base.specs.declared.kinds.Verdict.{Verdict}
use Rattle.rp_base.specs.declared.kinds.Verdict.TheVariants as verdict
use Rattle.rp_base.specs.declared.kinds.BindFault.{BindFault}
use Rattle.rp_base.specs.declared.kinds.BindFault.TheVariants as fault
use Rattle.rp_base.specs.declared.kinds.NsKind.{NsKind}
use Rattle.rp_base.specs.declared.kinds.NsKind.TheVariants.{Created, Duplicate, Destroyed, Unknown, ChannelsFull}
use Rattle.rpmsg_header.specs.Headers.{is_whole, destination_of, payload_of}
use Rattle.rpmsg_header.specs.Services.{service_of}
use Rattle.rpmsg_header.specs.declared.services.NsMessage.{NsMessage}
use Rattle.lane_model.specs.Desks.{IsBound, KeepsEndpoints, AddsAtMostOne, RemovesAtMostOne, KeepsAim, AreDeskLaws}
use Rattle.endpoint_map.specs.Bindings.{Bindings, any_address, is_at, bound_at, bind_answer, after_bind, after_unbind, UnbindsOne}
use Rattle.endpoint_map.proofs.Lookups.{binding, refused, unbinding}
use Rattle.name_service.specs.declared.channels.Channel.{Channel}
use Rattle.name_service.specs.Channels.{kind_of}
use Rattle.channel_bus.specs.Sides.{EndState, is_service, is_probed, endpoint_of_channel, without_endpoint, bindings_after_service, channels_after_service, service_verdict, after_service, endpoint_verdict, after_message, side_bind_answer, after_side_bind, after_side_unbind, side_fresh, side_meaning}

-- what is in an option
some_is : {X : Type 0} (x y : X) → Some x ≡ Some y → x ≡ y
some_is {X = X} x y e = ap (λ o. content o) e
  where
    content : Option X → X
    content None = x
    content (Some z) = z

-- nothing is in an option
none_is : {X : Type 0} (o : Option X) → is_some o ≡ false → o ≡ None
none_is None e = refl
none_is (Some x) e = absurd cc

-- what is found passes the test
found_passes : {X : Type 0} (test : X → Bool) (xs : List X) (x : X) → find test xs ≡ Some x → test x ≡ true
found_passes test [] x e = absurd cc
found_passes {X = X} test (y ∷ ys) x e =
    elim (test y) as (λ b. test y ≡ b → cond b (Some y) (find test ys) ≡ Some x → test x ≡ true) [
      | true ↦ λ passes found. subst (λ (z : X). test z ≡ true) (let same : y ≡ x = cc in same) passes
      | false ↦ λ _ found. found_passes test ys x found
    ] refl e

-- an end with these endpoints and channels
abbrev with_ends : EndState → Bindings → List Channel → EndState
with_ends side bindings channels = record side { bindings = bindings; channels = channels }

module _ (side : EndState) (channels : List Channel) where
  same_ends : KeepsEndpoints side_meaning side (with_ends side side.bindings channels)
  same_ends = record { everywhere = λ address. refl; counted = refl }

  -- a binding, by its answer
  bind_adds : (asked handed : ℕ) → AddsAtMostOne side_meaning side (with_ends side (after_bind side.bindings asked handed) channels) handed
  bind_adds asked handed = by (bind_answer side.bindings asked) refl
    where
      by : (answer : Result Endpoint BindFault) → bind_answer side.bindings asked ≡ answer → AddsAtMostOne side_meaning side (with_ends side (after_bind side.bindings asked handed) channels) handed
      by (Ok endpoint) e =
          let made = binding side.bindings asked handed endpoint e in
          inr (
            record { endpoint = endpoint; since = handed },
            record {
              free = none_is (bound_at side.bindings endpoint.address) made.free;
              there = made.there;
              since = refl;
              generation = made.next;
              counted = made.counted;
              elsewhere = made.elsewhere;
            },
          )
      by (Err why) e = inl (subst (λ (left : Bindings). KeepsEndpoints side_meaning side (with_ends side left channels)) (sym (refused side.bindings asked handed why e)) same_ends)

  -- an unbinding, by what was bound at the address
  unbind_removes : (address : ℕ) → RemovesAtMostOne side_meaning side (with_ends side (after_unbind side.bindings address) channels)
  unbind_removes address = by (bound_at side.bindings address) refl
    where
      gone : UnbindsOne side.bindings (after_unbind side.bindings address) address
      gone = unbinding side.bindings address

      by : (found : Option BoundEndpoint) → bound_at side.bindings address ≡ found → RemovesAtMostOne side_meaning side (with_ends side (after_unbind side.bindings address) channels)
      by None e = inl (record {
        everywhere = λ other.
            elim (eqb other address) as (λ b. eqb other address ≡ b → bound_at (after_unbind side.bindings address) other ≡ bound_at side.bindings other) [
              | true ↦ λ is.
                  let same : other ≡ address = eqb-true other address is in
                  ap (bound_at (after_unbind side.bindings address)) same ∙ gone.there ∙ sym e ∙ ap (bound_at side.bindings) (sym same)
              | false ↦ λ is. gone.elsewhere other (eqb-false other address is)
            ] refl;
        counted = gone.counted;
      })
      by (Some bound) e =
          let at : bound.endpoint.address ≡ address = eqb-true bound.endpoint.address address (found_passes (is_at address) side.bindings.bound bound e) in
          inr (
            bound,
            record {
              was = ap (bound_at side.bindings) at ∙ e;
              gone = ap (bound_at (after_unbind side.bindings address)) at ∙ gone.there;
              counted = gone.counted;
              elsewhere = λ other apart. gone.elsewhere other (λ same. apart (same ∙ sym at));
            },
          )

  -- a channel that is made binds at most one, one that is gone unbinds at most one
  served_changes : (number : ℕ) (ns : NsMessage) (kind : NsKind)
      → AddsAtMostOne side_meaning side (with_ends side (bindings_after_service side number ns kind) channels) (number + 1)
      ⊎ RemovesAtMostOne side_meaning side (with_ends side (bindings_after_service side number ns kind) channels)
  served_changes number ns Created =
      elim (is_probed side number ns.name) as (λ b.
      AddsAtMostOne side_meaning side (with_ends side (cond b (after_bind side.bindings any_address (number + 1)) side.bindings) channels) (number + 1)
      ⊎ RemovesAtMostOne side_meaning side (with_ends side (cond b (after_bind side.bindings any_address (number + 1)) side.bindings) channels)) [
        | true ↦ inl (bind_adds any_address (number + 1))
        | false ↦ inl (inl same_ends)
      ]
  served_changes number ns Destroyed =
      elim (endpoint_of_channel side ns) as (λ o.
      AddsAtMostOne side_meaning side (with_ends side (without_endpoint side.bindings o) channels) (number + 1)
      ⊎ RemovesAtMostOne side_meaning side (with_ends side (without_endpoint side.bindings o) channels)) [
        | None ↦ inl (inl same_ends)
        | Some endpoint ↦ inr (unbind_removes endpoint.address)
      ]
  served_changes number ns Duplicate = inl (inl same_ends)
  served_changes number ns Unknown = inl (inl same_ends)
  served_changes number ns ChannelsFull = inl (inl same_ends)

same_side : (side : EndState) → KeepsEndpoints side_meaning side side
same_side side = same_ends side side.channels

message_changes : (side : EndState) (number : ℕ) (message : List ℕ)
    → AddsAtMostOne side_meaning side (after_message side number message) (number + 1) ⊎ RemovesAtMostOne side_meaning side (after_message side number message)
message_changes side number message =
    elim (is_whole message && is_service side (destination_of message)) as (λ b.
    AddsAtMostOne side_meaning side (cond b (after_service side number (service_of (payload_of message))) side) (number + 1)
    ⊎ RemovesAtMostOne side_meaning side (cond b (after_service side number (service_of (payload_of message))) side)) [
      | true ↦ by (service_of (payload_of message))
      | false ↦ inl (inl (same_side side))
    ]
  where
    by : (told : Option NsMessage) → AddsAtMostOne side_meaning side (after_service side number told) (number + 1) ⊎ RemovesAtMostOne side_meaning side (after_service side number told)
    by None = inl (inl (same_side side))
    by (Some ns) = served_changes side (channels_after_service side number ns (kind_of side.channels ns)) number ns (kind_of side.channels ns)

bound_adds : (side : EndState) (address since : ℕ) → AddsAtMostOne side_meaning side (after_side_bind side address since) since
bound_adds side address since =
    elim (is_service side address) as (λ b. AddsAtMostOne side_meaning side (cond b side (record side { bindings = after_bind side.bindings address since })) since) [
      | true ↦ inl (same_side side)
      | false ↦ bind_adds side side.channels address since
    ]

unbound_removes : (side : EndState) (address : ℕ) → RemovesAtMostOne side_meaning side (after_side_unbind side address)
unbound_removes side address =
    elim (is_service side address) as (λ b. RemovesAtMostOne side_meaning side (cond b side (record side { bindings = after_unbind side.bindings address }))) [
      | true ↦ inl (same_side side)
      | false ↦ unbind_removes side side.channels address
    ]

-- at what an end aims messages, by whether it has the name service
aim_by : (before after : EndState) → after.has_service ≡ before.has_service → KeepsAim side_meaning before after
aim_by before after service message = ap (λ b. cond (is_whole message && not (b && eqb (destination_of message) 53)) (Some (destination_of message)) None) service

-- what stays of the name service
service_stays : (side : EndState) (service : Bool) (after : EndState) → after.has_service ≡ side.has_service → (cond service side after).has_service ≡ side.has_service
service_stays side true after same = refl
service_stays side false after same = same

served_service : (side : EndState) (number : ℕ) (told : Option NsMessage) → (after_service side number told).has_service ≡ side.has_service
served_service side number None = refl
served_service side number (Some ns) = refl

delivered_service : (side : EndState) (number : ℕ) (told : Option NsMessage) (served : Bool) → (cond served (after_service side number told) side).has_service ≡ side.has_service
delivered_service side number told true = served_service side number told
delivered_service side number told false = refl

-- the endpoint of a verdict
endpoint_in : Verdict → Option Endpoint
endpoint_in (verdict.To endpoint) = Some endpoint
endpoint_in _ = None

served_to_none : (side : EndState) (number : ℕ) (told : Option NsMessage) (endpoint : Endpoint) → service_verdict side number told ≢ verdict.To endpoint
served_to_none side number None endpoint e = cc
served_to_none side number (Some ns) endpoint e = cc

-- the verdict on a message and its addressee, by whether it is whole and for the name service
to_by : (whole service : Bool) (served : Verdict) (address : ℕ) (find : ℕ → Option BoundEndpoint) (endpoint : Endpoint) → served ≢ verdict.To endpoint
    → cond whole (cond service served (endpoint_verdict address (find address))) verdict.Malformed ≡ verdict.To endpoint
    → option_map (λ (b : BoundEndpoint). b.endpoint) (option_and_then find (cond (whole && not service) (Some address) None)) ≡ Some endpoint
unfolding endpoint_in
to_by true true served address find endpoint other e = absurd (other e)
to_by true false served address find endpoint other e = by (find address) e
  where
    by : (found : Option BoundEndpoint) → endpoint_verdict address found ≡ verdict.To endpoint → option_map (λ (b : BoundEndpoint). b.endpoint) found ≡ Some endpoint
    by None h = absurd cc
    by (Some bound) h = ap endpoint_in h
to_by false service served address find endpoint other e = absurd cc

addressed_by : (whole service : Bool) (served : Verdict) (address : ℕ) (find : ℕ → Option BoundEndpoint) (endpoint : Endpoint)
    → option_map (λ (b : BoundEndpoint). b.endpoint) (option_and_then find (cond (whole && not service) (Some address) None)) ≡ Some endpoint
    → cond whole (cond service served (endpoint_verdict address (find address))) verdict.Malformed ≡ verdict.To endpoint
addressed_by true true served address find endpoint e = absurd cc
addressed_by true false served address find endpoint e = by (find address) e
  where
    by : (found : Option BoundEndpoint) → option_map (λ (b : BoundEndpoint). b.endpoint) found ≡ Some endpoint → endpoint_verdict address found ≡ verdict.To endpoint
    by None h = absurd cc
    by (Some bound) h = ap verdict.To (some_is bound.endpoint endpoint h)
addressed_by false service served address find endpoint e = absurd cc

answered_by : (side : EndState) (address since : ℕ) (endpoint : Endpoint) → side_bind_answer side address ≡ Ok endpoint
    → IsBound side_meaning (after_side_bind side address since) (record { endpoint = endpoint; since = since })
answered_by side address since endpoint e =
    elim (is_service side address) as (λ b. cond b (Err (fault.AddressTaken address)) (bind_answer side.bindings address) ≡ Ok endpoint
    → IsBound side_meaning (cond b side (record side { bindings = after_bind side.bindings address since })) (record { endpoint = endpoint; since = since })) [
      | true ↦ λ h. absurd cc
      | false ↦ λ h. (binding side.bindings address since endpoint h).there
    ] e

pub side_laws : AreDeskLaws side_meaning
side_laws = record {
  to = λ side number message endpoint e. to_by (is_whole message) (is_service side (destination_of message)) (service_verdict side number (service_of (payload_of message))) (destination_of message) (λ address. bound_at side.bindings address) endpoint (served_to_none side number (service_of (payload_of message)) endpoint) e;
  addressed = λ side number message endpoint e. addressed_by (is_whole message) (is_service side (destination_of message)) (service_verdict side number (service_of (payload_of message))) (destination_of message) (λ address. bound_at side.bindings address) endpoint e;
  delivered = message_changes;
  bound = bound_adds;
  unbound = unbound_removes;
  delivered_aim = λ side number message. aim_by side (after_message side number message)
      (delivered_service side number (service_of (payload_of message)) (is_whole message && is_service side (destination_of message)));
  bound_aim = λ side address since. aim_by side (after_side_bind side address since) (service_stays side (is_service side address) (record side { bindings = after_bind side.bindings address since }) refl);
  unbound_aim = λ side address. aim_by side (after_side_unbind side address) (service_stays side (is_service side address) (record side { bindings = after_unbind side.bindings address }) refl);
  fresh_aim = λ side. aim_by side (side_fresh side) refl;
  fresh = λ side. record { endpoints = refl; bindings = refl };
  answered = answered_by;
}
