-- The channels that the name service keeps (`rpmsg_ns_cb`, `rpmsg_register_device` and `rpmsg_unregister_device` of Linux drivers/rpmsg/rpmsg_ns.c and rpmsg_core.c; the limit is own).
use Rattle.std.specs.Prelude.{ℕ, Bool, ◌&&◌, ◌||◌, not, nat_le, ◌==◌, if◌then◌else◌, bytes_eq, List, [], ◌∷◌, ◌++◌, length, filter, find, Option, None, is_some, option_and_then}
use Rattle.rp_base.specs.Texts.{padded_name}
use Rattle.rp_base.specs.declared.kinds.Endpoint.{Endpoint}
use Rattle.rp_base.specs.declared.kinds.NsKind.{NsKind}
use Rattle.rp_base.specs.declared.kinds.NsKind.TheVariants.{Created, Duplicate, Destroyed, Unknown, ChannelsFull}
use Rattle.rp_base.specs.declared.limits.TheConstants.{CHANNELS_MOST}
use Rattle.rpmsg_header.specs.declared.services.NsMessage.{NsMessage}
use Rattle.name_service.specs.declared.channels.Channel.{Channel}

-- a channel is known by its name and its address on the remote core (struct rpmsg_channel_info)
abbrev pub Key : Type 0
Key = List ℕ × ℕ

-- two names are one where their fields of 32 bytes agree (struct rpmsg_channel_info, name)
abbrev pub is_same_name : List ℕ → List ℕ → Bool
is_same_name a b = bytes_eq (padded_name a) (padded_name b)

-- whether name and address agree (rpmsg_device_match of rpmsg_core.c)
abbrev pub is_same_key : Key → Key → Bool
is_same_key a b = is_same_name a.0 b.0 && a.1 == b.1

abbrev pub key_of : Channel → Key
key_of channel = (channel.name, channel.address)

abbrev pub key_in : NsMessage → Key
key_in ns = (ns.name, ns.address)

-- the channel of this name and address (rpmsg_find_device)
abbrev pub channel_at : Key → List Channel → Option Channel
channel_at key channels = find (λ channel. is_same_key key (key_of channel)) channels

-- whether the channel is there
abbrev pub has_channel : Key → List Channel → Bool
has_channel key channels = is_some (channel_at key channels)

-- the endpoint that a channel names (struct rpmsg_device, ept)
abbrev pub endpoint_at : Key → List Channel → Option Endpoint
endpoint_at key channels = option_and_then (λ (channel : Channel). channel.endpoint) (channel_at key channels)

-- whether there is no room for one more (own)
abbrev pub is_full : List Channel → Bool
is_full channels = nat_le CHANNELS_MOST (length channels)

-- what a service message does (rpmsg_ns_cb; a channel that is there is not made again: rpmsg_register_device)
abbrev pub kind_of : List Channel → NsMessage → NsKind
kind_of channels ns =
    if ns.destroy
    then (if has_channel (key_in ns) channels then Destroyed else Unknown)
    else (if has_channel (key_in ns) channels then Duplicate else (if is_full channels then ChannelsFull else Created))

-- the channels but this one, in their order
abbrev pub without : Key → List Channel → List Channel
without key channels = filter (λ channel. not (is_same_key key (key_of channel))) channels

-- a new channel, without an endpoint, after the others
abbrev pub with_channel : Key → List Channel → List Channel
with_channel key channels = channels ++ (record { name = key.0; address = key.1; endpoint = None }) ∷ []

-- the channels after a service message
abbrev pub after_service : List Channel → NsMessage → List Channel
after_service channels ns =
    if ns.destroy
    then without (key_in ns) channels
    else (if has_channel (key_in ns) channels || is_full channels then channels else with_channel (key_in ns) channels)

-- a channel with this endpoint in place of the one that it had
abbrev pub naming : Option Endpoint → Channel → Channel
naming endpoint channel = record channel { endpoint = endpoint }

-- the channels, of which this one has the endpoint
abbrev pub with_endpoint : Key → Option Endpoint → List Channel → List Channel
with_endpoint key endpoint [] = []
with_endpoint key endpoint (channel ∷ rest) =
    if is_same_key key (key_of channel) then naming endpoint channel ∷ rest else channel ∷ with_endpoint key endpoint rest
