-- What a service message is answered and leaves, by what it did.
use Rattle.std.proofs.Common.{◌≡◌, ◌⊎◌, inl, inr, ℕ, List, Option, None, Some, ap, sym, ◌∙◌}
use Rattle.rp_base.specs.declared.kinds.Endpoint.{Endpoint}
use Rattle.rp_base.specs.declared.kinds.NsKind.{NsKind}
use Rattle.rp_base.specs.declared.kinds.NsKind.TheVariants.{Created, Duplicate, Destroyed, Unknown, ChannelsFull}
use Rattle.rp_base.specs.declared.kinds.Verdict.TheVariants as verdict
use Rattle.rpmsg_header.specs.declared.services.NsMessage.{NsMessage}
use Rattle.endpoint_map.specs.Bindings.{Bindings}
use Rattle.name_service.specs.declared.channels.Channel.{Channel}
use Rattle.name_service.specs.Channels.{key_in, kind_of, with_endpoint}
use Rattle.name_service.specs.Channels.{after_service as channels_after}
use Rattle.channel_bus.specs.Sides.{EndState, endpoint_for, endpoint_of_channel, endpoint_in_verdict, without_endpoint, bindings_after_create, bindings_after_service, channels_after_service, service_verdict, after_service}

-- an end once a service message did this
abbrev pub served : EndState → ℕ → NsMessage → NsKind → EndState
served side number ns kind = record side { bindings = bindings_after_service side number ns kind; channels = channels_after_service side number ns kind }

pub verdict_is : (side : EndState) (number : ℕ) (ns : NsMessage) (told : Option NsMessage) (kind : NsKind) (endpoint : Option Endpoint)
    → told ≡ Some ns → kind ≡ kind_of side.channels ns → endpoint ≡ endpoint_in_verdict side number ns kind
    → verdict.Service kind ns.name ns.address endpoint ≡ service_verdict side number told
verdict_is side number ns told kind endpoint is does names =
    ap (λ (e : Option Endpoint). verdict.Service kind ns.name ns.address e) names
    ∙ ap (λ (k : NsKind). verdict.Service k ns.name ns.address (endpoint_in_verdict side number ns k)) does
    ∙ ap (service_verdict side number) (sym is)

pub left_is : (side : EndState) (number : ℕ) (ns : NsMessage) (told : Option NsMessage) (kind : NsKind) (left : EndState)
    → told ≡ Some ns → kind ≡ kind_of side.channels ns → left ≡ served side number ns kind
    → left ≡ after_service side number told
left_is side number ns told kind left is does stands = stands ∙ ap (served side number ns) does ∙ ap (after_service side number) (sym is)

-- the kinds that neither bind nor unbind
abbrev pub IsQuiet : NsKind → Type 0
IsQuiet kind = (kind ≡ Duplicate) ⊎ ((kind ≡ Unknown) ⊎ (kind ≡ ChannelsFull))

pub quiet_none : (side : EndState) (number : ℕ) (ns : NsMessage) (kind : NsKind) → IsQuiet kind → None ≡ endpoint_in_verdict side number ns kind
quiet_none side number ns kind quiet =
    elim quiet [
      | inl is ↦ ap (endpoint_in_verdict side number ns) (sym is)
      | inr (inl is) ↦ ap (endpoint_in_verdict side number ns) (sym is)
      | inr (inr is) ↦ ap (endpoint_in_verdict side number ns) (sym is)
    ]

pub quiet_left : (side : EndState) (number : ℕ) (ns : NsMessage) (kind : NsKind) → IsQuiet kind → record side { channels = channels_after side.channels ns } ≡ served side number ns kind
quiet_left side number ns kind quiet =
    elim quiet [
      | inl is ↦ ap (served side number ns) (sym is)
      | inr (inl is) ↦ ap (served side number ns) (sym is)
      | inr (inr is) ↦ ap (served side number ns) (sym is)
    ]

pub created_left : (side : EndState) (number : ℕ) (ns : NsMessage) (kind : NsKind) (channels : List Channel) → kind ≡ Created
    → channels ≡ with_endpoint (key_in ns) (endpoint_for side number ns) (channels_after side.channels ns)
    → record side { bindings = bindings_after_create side number ns; channels = channels } ≡ served side number ns kind
created_left side number ns kind channels is made =
    ap (λ (c : List Channel). record side { bindings = bindings_after_create side number ns; channels = c }) made ∙ ap (served side number ns) (sym is)

pub destroyed_left : (side : EndState) (number : ℕ) (ns : NsMessage) (kind : NsKind) (bound : Option Endpoint) (bindings : Bindings) (channels : List Channel) → kind ≡ Destroyed
    → bound ≡ endpoint_of_channel side ns → bindings ≡ without_endpoint side.bindings bound → channels ≡ channels_after side.channels ns
    → record side { bindings = bindings; channels = channels } ≡ served side number ns kind
destroyed_left side number ns kind bound bindings channels is goes stay rest =
    ap (λ (b : Bindings). record side { bindings = b; channels = channels }) (stay ∙ ap (without_endpoint side.bindings) goes)
    ∙ ap (λ (c : List Channel). record side { bindings = without_endpoint side.bindings (endpoint_of_channel side ns); channels = c }) rest
    ∙ ap (served side number ns) (sym is)
