-- What a message that is delivered leaves of an end.
use Rattle.std.proofs.Common.{◌≡◌, ℕ, ◌+◌, ◌==◌, ◌&&◌, Bool, true, false, cond, not, List, [], ◌∷◌, ◌++◌, Option, Some, None, is_some, bytes_eq, refl, ap, sym, ◌∙◌, subst}
use Rattle.std.specs.Bool.{then_some}
use Rattle.std.specs.Option.{option_and_then}
use Rattle.std.specs.Result.{result_ok}
use Rattle.std.specs.Cmp.{nat_eq_equiv}
use Rattle.std.proofs.lemmas.Cmp.{lists_equiv}
use Rattle.std.proofs.lemmas.Bool.{eqb-true, false≢true}
use Rattle.std.proofs.lemmas.Slice.Eq.{bytes_eq-Decides}
use Rattle.rp_base.specs.declared.kinds.Endpoint.{Endpoint}
use Rattle.rp_base.specs.declared.kinds.BoundEndpoint.{BoundEndpoint}
use Rattle.rp_base.specs.declared.kinds.Verdict.TheVariants as verdict
use Rattle.rp_base.specs.declared.kinds.NsKind.{NsKind}
use Rattle.rp_base.specs.declared.kinds.NsKind.TheVariants.{Created, Duplicate, Destroyed, Unknown, ChannelsFull}
use Rattle.rp_base.specs.Texts.{padded_name}
use Rattle.rpmsg_header.specs.Headers.{is_whole, destination_of, payload_of}
use Rattle.rpmsg_header.specs.Services.{service_of}
use Rattle.rpmsg_header.specs.declared.services.NsMessage.{NsMessage}
use Rattle.endpoint_map.specs.Bindings.{Bindings, is_at, any_address, bound_at, bind_answer, after_bind}
use Rattle.name_service.specs.declared.channels.Channel.{Channel}
use Rattle.name_service.specs.Channels.{Key, is_same_key, key_of, key_in, channel_at, has_channel, endpoint_at, is_full, kind_of, without, with_endpoint, naming}
use Rattle.name_service.specs.Channels.{after_service as channels_after}
use Rattle.name_service.proofs.Entries.{kind_by, left_is, without_none}
use Rattle.channel_bus.specs.Sides.{EndState, is_service, is_probed, endpoint_for, if_still_bound, endpoint_of_channel, endpoint_in_verdict, without_endpoint, bindings_after_service, channels_after_service, service_verdict, after_service, endpoint_verdict, verdict_on, after_message}
use Rattle.end_laws.specs.Changes.{AddsAtMost, RemovesAtMost, CreatesChannel, DestroysChannel, Leaves}
use Rattle.end_laws.proofs.EndChanges.{found_passes, find_filtered, adds, removes}

-- the endpoint of a new channel
probed : (side : EndState) (number : ℕ) (name : List ℕ)
    → AddsAtMost side.bindings (cond (is_probed side number name) (after_bind side.bindings any_address (number + 1)) side.bindings)
    (cond (is_probed side number name) (result_ok (bind_answer side.bindings any_address)) None) (number + 1)
probed side number name = by (is_probed side number name)
  where
    by : (fits : Bool) → AddsAtMost side.bindings (cond fits (after_bind side.bindings any_address (number + 1)) side.bindings)
        (cond fits (result_ok (bind_answer side.bindings any_address)) None) (number + 1)
    by true = adds side.bindings any_address (number + 1) (bind_answer side.bindings any_address) refl
    by false = refl

-- a channel is known by itself
itself : (key : Key) → is_same_key key key ≡ true
itself key = ap (λ t. t && (key.1 == key.1)) ((lists_equiv nat_eq_equiv).refl (padded_name key.0)) ∙ nat_eq_equiv.refl key.1

-- the endpoint of the last channel
last_named : (channels : List Channel) (new : Channel) (endpoint : Option Endpoint) → has_channel (key_of new) channels ≡ false
    → with_endpoint (key_of new) endpoint (channels ++ new ∷ []) ≡ channels ++ naming endpoint new ∷ []
last_named [] new endpoint none = ap (λ b. cond b (naming endpoint new ∷ []) (new ∷ [])) (itself (key_of new))
last_named (channel ∷ rest) new endpoint none =
    elim (is_same_key (key_of new) (key_of channel)) as (λ b. is_some (cond b (Some channel) (channel_at (key_of new) rest)) ≡ false
    → cond b (naming endpoint channel ∷ rest ++ new ∷ []) (channel ∷ with_endpoint (key_of new) endpoint (rest ++ new ∷ [])) ≡ channel ∷ rest ++ naming endpoint new ∷ []) [
      | true ↦ λ there. absurd cc
      | false ↦ λ apart. ap (λ channels. channel ∷ channels) (last_named rest new endpoint apart)
    ] none

-- what a kind says of the message and of the channels before it
made_facts : (destroy there full : Bool) → kind_by destroy there full ≡ Created → (destroy ≡ false) × (there ≡ false) × (full ≡ false)
made_facts true true full e = absurd cc
made_facts true false full e = absurd cc
made_facts false true full e = absurd cc
made_facts false false true e = absurd cc
made_facts false false false e = (refl, refl, refl)

gone_facts : (destroy there full : Bool) → kind_by destroy there full ≡ Destroyed → (destroy ≡ true) × (there ≡ true)
gone_facts true true full e = (refl, refl)
gone_facts true false full e = absurd cc
gone_facts false true full e = absurd cc
gone_facts false false true e = absurd cc
gone_facts false false false e = absurd cc

unknown_facts : (destroy there full : Bool) → kind_by destroy there full ≡ Unknown → (destroy ≡ true) × (there ≡ false)
unknown_facts true true full e = absurd cc
unknown_facts true false full e = (refl, refl)
unknown_facts false true full e = absurd cc
unknown_facts false false true e = absurd cc
unknown_facts false false false e = absurd cc

duplicate_facts : (destroy there full : Bool) → kind_by destroy there full ≡ Duplicate → (destroy ≡ false) × (there ≡ true)
duplicate_facts true true full e = absurd cc
duplicate_facts true false full e = absurd cc
duplicate_facts false true full e = (refl, refl)
duplicate_facts false false true e = absurd cc
duplicate_facts false false false e = absurd cc

full_facts : (destroy there full : Bool) → kind_by destroy there full ≡ ChannelsFull → (destroy ≡ false) × (there ≡ false) × (full ≡ true)
full_facts true true full e = absurd cc
full_facts true false full e = absurd cc
full_facts false true full e = absurd cc
full_facts false false true e = (refl, refl, refl)
full_facts false false false e = absurd cc

-- a name and an address that go
apart_stays : (key other : Key) (channel : Channel) → is_same_key key other ≡ false → is_same_key other (key_of channel) ≡ true → not (is_same_key key (key_of channel)) ≡ true
apart_stays key other channel apart same =
    elim (is_same_key key (key_of channel)) as (λ b. is_same_key key (key_of channel) ≡ b → not b ≡ true) [
      | true ↦ λ is. absurd (false≢true (sym apart ∙ one_key key other (key_of channel) is same))
      | false ↦ λ _. refl
    ] refl
  where
    parts : (a b : Bool) → (a && b) ≡ true → (a ≡ true) × (b ≡ true)
    parts true b e = (refl, e)
    parts false b e = absurd (false≢true e)

    one_key : (a b c : Key) → is_same_key a c ≡ true → is_same_key b c ≡ true → is_same_key a b ≡ true
    one_key a b c ac bc =
        let left = parts _ _ ac in
        let right = parts _ _ bc in
        let names : padded_name b.0 ≡ padded_name a.0 = (bytes_eq-Decides (padded_name b.0) (padded_name c.0)).0 right.0 ∙ sym ((bytes_eq-Decides (padded_name a.0) (padded_name c.0)).0 left.0) in
        let addresses : b.1 ≡ a.1 = eqb-true b.1 c.1 right.1 ∙ sym (eqb-true a.1 c.1 left.1) in
        ap (λ name. bytes_eq (padded_name a.0) name && (a.1 == b.1)) names ∙ ap (λ address. bytes_eq (padded_name a.0) (padded_name a.0) && (a.1 == address)) addresses ∙ itself a

-- the endpoint that goes with a channel is the one that the channel names
own : (bindings : Bindings) (named : Option Endpoint) (unbound : Endpoint) → option_and_then (λ endpoint. if_still_bound bindings endpoint) named ≡ Some unbound → named ≡ Some unbound
own bindings None unbound e = absurd cc
own bindings (Some endpoint) unbound e = found (bound_at bindings endpoint.address) e
  where
    tested : (same : Bool) → then_some same endpoint ≡ Some unbound → Some endpoint ≡ Some unbound
    tested true t = t
    tested false t = absurd cc

    found : (at : Option BoundEndpoint) → option_and_then (λ (bound : BoundEndpoint). then_some (bound.endpoint.generation == endpoint.generation) endpoint) at ≡ Some unbound → Some endpoint ≡ Some unbound
    found None t = absurd cc
    found (Some bound) t = tested (bound.endpoint.generation == endpoint.generation) t

-- it is unbound where it is still bound
own_goes : (bindings : Bindings) (named : Option Endpoint)
    → RemovesAtMost bindings (without_endpoint bindings (option_and_then (λ endpoint. if_still_bound bindings endpoint) named)) (option_and_then (λ endpoint. if_still_bound bindings endpoint) named)
own_goes bindings None = refl
own_goes bindings (Some endpoint) = found (bound_at bindings endpoint.address) refl
  where
    tested : (bound : BoundEndpoint) (same : Bool) → bound_at bindings endpoint.address ≡ Some bound → (bound.endpoint.generation == endpoint.generation) ≡ same
        → RemovesAtMost bindings (without_endpoint bindings (then_some same endpoint)) (then_some same endpoint)
    tested bound false at is = refl
    tested bound true at is =
        let address : bound.endpoint.address ≡ endpoint.address = eqb-true bound.endpoint.address endpoint.address (found_passes (is_at endpoint.address) bindings.bound bound at) in
        let generation : bound.endpoint.generation ≡ endpoint.generation = eqb-true bound.endpoint.generation endpoint.generation is in
        let same : bound.endpoint ≡ endpoint = λ i. record { address = address i; generation = generation i } in
        subst (λ (one : Endpoint). RemovesAtMost bindings (without_endpoint bindings (Some endpoint)) (Some one)) same (removes bindings endpoint.address (Some bound) at)

    found : (at : Option BoundEndpoint) → bound_at bindings endpoint.address ≡ at
        → RemovesAtMost bindings (without_endpoint bindings (option_and_then (λ (bound : BoundEndpoint). then_some (bound.endpoint.generation == endpoint.generation) endpoint) at))
        (option_and_then (λ (bound : BoundEndpoint). then_some (bound.endpoint.generation == endpoint.generation) endpoint) at)
    found None at = refl
    found (Some bound) at = tested bound (bound.endpoint.generation == endpoint.generation) at refl

-- an end of which a service message leaves this
abbrev served : EndState → ℕ → NsMessage → NsKind → EndState
served side number ns kind = record side { bindings = bindings_after_service side number ns kind; channels = channels_after_service side number ns kind }

unchanged : (side : EndState) (channels : List Channel) → channels ≡ side.channels → record side { bindings = side.bindings; channels = channels } ≡ side
unchanged side channels e = λ i. record side { bindings = side.bindings; channels = e i }

created : (side : EndState) (number : ℕ) (ns : NsMessage) → kind_of side.channels ns ≡ Created
    → CreatesChannel side (served side number ns Created) number (record { name = ns.name; address = ns.address; endpoint = endpoint_for side number ns })
created side number ns e =
    let facts = made_facts ns.destroy (has_channel (key_in ns) side.channels) (is_full side.channels) e in
    let new : Channel = record { name = ns.name; address = ns.address; endpoint = None } in
    record {
      service = refl;
      drivers = refl;
      new = facts.1;
      channels = ap (with_endpoint (key_in ns) (endpoint_for side number ns)) (sym (left_is side.channels ns false false false facts.0 facts.1 facts.2))
          ∙ last_named side.channels new (endpoint_for side number ns) facts.1;
      endpoints = probed side number ns.name;
    }

destroyed : (side : EndState) (number : ℕ) (ns : NsMessage) → kind_of side.channels ns ≡ Destroyed
    → DestroysChannel side (served side number ns Destroyed) (key_in ns) (endpoint_of_channel side ns)
destroyed side number ns e =
    let facts = gone_facts ns.destroy (has_channel (key_in ns) side.channels) (is_full side.channels) e in
    let left : channels_after side.channels ns ≡ without (key_in ns) side.channels = sym (left_is side.channels ns true true (is_full side.channels) facts.0 facts.1 refl) in
    record {
      service = refl;
      drivers = refl;
      there = facts.1;
      gone = ap (has_channel (key_in ns)) left ∙ ap is_some (find_filtered (λ channel. is_same_key (key_in ns) (key_of channel)) (λ channel. not (is_same_key (key_in ns) (key_of channel))) false side.channels (λ channel same. ap not same));
      others = λ other apart. ap (channel_at other) left
          ∙ find_filtered (λ channel. is_same_key other (key_of channel)) (λ channel. not (is_same_key (key_in ns) (key_of channel))) true side.channels (λ channel same. apart_stays (key_in ns) other channel apart same);
      channels = left;
      own = λ unbound is. own side.bindings (endpoint_at (key_in ns) side.channels) unbound is;
      endpoints = own_goes side.bindings (endpoint_at (key_in ns) side.channels);
    }

-- a service message, by what it did
service_leaves : (side : EndState) (number : ℕ) (ns : NsMessage) (kind : NsKind) → kind_of side.channels ns ≡ kind
    → Leaves side (served side number ns kind) number (verdict.Service kind ns.name ns.address (endpoint_in_verdict side number ns kind))
service_leaves side number ns Created e = created side number ns e
service_leaves side number ns Destroyed e = destroyed side number ns e
service_leaves side number ns Duplicate e =
    let facts = duplicate_facts ns.destroy (has_channel (key_in ns) side.channels) (is_full side.channels) e in
    unchanged side _ (sym (left_is side.channels ns false true (is_full side.channels) facts.0 facts.1 refl))
service_leaves side number ns Unknown e =
    let facts = unknown_facts ns.destroy (has_channel (key_in ns) side.channels) (is_full side.channels) e in
    unchanged side _ (sym (left_is side.channels ns true false (is_full side.channels) facts.0 facts.1 refl) ∙ without_none (key_in ns) side.channels facts.1)
service_leaves side number ns ChannelsFull e =
    let facts = full_facts ns.destroy (has_channel (key_in ns) side.channels) (is_full side.channels) e in
    unchanged side _ (sym (left_is side.channels ns false false true facts.0 facts.1 facts.2))

-- a message that is delivered, by its verdict
pub message_leaves : (side : EndState) (number : ℕ) (message : List ℕ) → Leaves side (after_message side number message) number (verdict_on side number message)
message_leaves side number message = by (is_whole message) (is_service side (destination_of message))
  where
    told : (said : Option NsMessage) → Leaves side (after_service side number said) number (service_verdict side number said)
    told None = refl
    told (Some ns) = service_leaves side number ns (kind_of side.channels ns) refl

    found : (at : Option BoundEndpoint) → Leaves side side number (endpoint_verdict (destination_of message) at)
    found None = refl
    found (Some bound) = refl

    by : (whole service : Bool) → Leaves side (cond (whole && service) (after_service side number (service_of (payload_of message))) side) number
        (cond whole (cond service (service_verdict side number (service_of (payload_of message))) (endpoint_verdict (destination_of message) (bound_at side.bindings (destination_of message)))) verdict.Malformed)
    by true true = told (service_of (payload_of message))
    by true false = found (bound_at side.bindings (destination_of message))
    by false service = refl
