-- What goes with a receiver's turn: endpoints, channels and drivers (Linux drivers/rpmsg/virtio_rpmsg_bus.c, rpmsg_ns.c and rpmsg_core.c).
use Rattle.std.specs.Prelude.{ℕ, ◌+◌, ◌-◌, ◌^◌, nat_lt, Bool, ◌&&◌, not, ◌==◌, if◌then◌else◌, List, [], Option, Some, None, Result, Err}
use Rattle.std.specs.Bool.{then_some}
use Rattle.std.specs.List.{list_any}
use Rattle.std.specs.Option.{option_and_then}
use Rattle.std.specs.Result.{result_ok}
use Rattle.rp_base.specs.declared.kinds.Endpoint.{Endpoint}
use Rattle.rp_base.specs.declared.kinds.BoundEndpoint.{BoundEndpoint}
use Rattle.rp_base.specs.declared.kinds.Verdict.{Verdict}
use Rattle.rp_base.specs.declared.kinds.Verdict.TheVariants as verdict
use Rattle.rp_base.specs.declared.kinds.BindFault.{BindFault}
use Rattle.rp_base.specs.declared.kinds.BindFault.TheVariants as fault
use Rattle.rp_base.specs.declared.kinds.NsKind.{NsKind}
use Rattle.rp_base.specs.declared.kinds.NsKind.TheVariants.{Created, Duplicate, Destroyed, Unknown, ChannelsFull}
use Rattle.rpmsg_header.specs.Headers.{is_whole, destination_of, payload_of}
use Rattle.rpmsg_header.specs.Services.{service_of}
use Rattle.rpmsg_header.specs.declared.services.NsMessage.{NsMessage}
use Rattle.lane_model.specs.Desks.{DeskMeaning}
use Rattle.endpoint_map.specs.Bindings.{Bindings, no_bindings, any_address, bound_at, bind_answer, after_bind, unbind_answer, after_unbind}
use Rattle.name_service.specs.declared.channels.Channel.{Channel}
use Rattle.name_service.specs.Channels.{is_same_name, key_in, endpoint_at, kind_of, with_endpoint}
use Rattle.name_service.specs.Channels.{after_service as channels_after}

-- one end of a link: whether it has the name service, the names of its drivers, its endpoints and its channels (own)
pub record EndState : Type 0 where
  pub has_service : Bool
  pub drivers : List (List ℕ)
  pub bindings : Bindings
  pub channels : List Channel

-- the address of the name service (RPMSG_NS_ADDR of include/linux/rpmsg/ns.h)
abbrev pub name_service_address : ℕ
name_service_address = 53

-- whether an address is the name service of this end
abbrev pub is_service : EndState → ℕ → Bool
is_service side address = side.has_service && address == name_service_address

-- whether a driver of this name is declared (rpmsg_id_match of rpmsg_core.c)
abbrev pub has_driver : EndState → List ℕ → Bool
has_driver side name = list_any (λ driver. is_same_name driver name) side.drivers

-- whether a channel of this name that the message of this number makes gets an endpoint: its driver is declared, and
-- the messages that are handed over then can be counted in 64 bits (own; no lane is handed so many)
abbrev pub is_probed : EndState → ℕ → List ℕ → Bool
is_probed side number name = nat_lt number (2 ^ 64 - 1) && has_driver side name

-- the endpoint that a new channel gets: one at the least free address, if an endpoint fits (rpmsg_dev_probe)
abbrev pub endpoint_for : EndState → ℕ → NsMessage → Option Endpoint
endpoint_for side number ns = if is_probed side number ns.name then result_ok (bind_answer side.bindings any_address) else None

-- the endpoint, unless it was unbound before (own: an endpoint that was bound later at its address has another generation)
abbrev pub if_still_bound : Bindings → Endpoint → Option Endpoint
if_still_bound bindings endpoint =
    option_and_then (λ (bound : BoundEndpoint). then_some (bound.endpoint.generation == endpoint.generation) endpoint) (bound_at bindings endpoint.address)

-- the endpoint that goes with a channel (rpmsg_dev_remove)
abbrev pub endpoint_of_channel : EndState → NsMessage → Option Endpoint
endpoint_of_channel side ns =
    option_and_then (λ endpoint. if_still_bound side.bindings endpoint) (endpoint_at (key_in ns) side.channels)

-- the endpoint that a service message binds or unbinds
abbrev pub endpoint_in_verdict : EndState → ℕ → NsMessage → NsKind → Option Endpoint
endpoint_in_verdict side number ns Created = endpoint_for side number ns
endpoint_in_verdict side number ns Destroyed = endpoint_of_channel side ns
endpoint_in_verdict side number ns Duplicate = None
endpoint_in_verdict side number ns Unknown = None
endpoint_in_verdict side number ns ChannelsFull = None

-- the endpoints without one that goes
abbrev pub without_endpoint : Bindings → Option Endpoint → Bindings
without_endpoint bindings None = bindings
without_endpoint bindings (Some endpoint) = after_unbind bindings endpoint.address

-- the endpoints after a new channel: one that is bound for it is bound when its message is handed over
abbrev pub bindings_after_create : EndState → ℕ → NsMessage → Bindings
bindings_after_create side number ns = if is_probed side number ns.name then after_bind side.bindings any_address (number + 1) else side.bindings

-- the endpoints after a service message
abbrev pub bindings_after_service : EndState → ℕ → NsMessage → NsKind → Bindings
bindings_after_service side number ns Created = bindings_after_create side number ns
bindings_after_service side number ns Destroyed = without_endpoint side.bindings (endpoint_of_channel side ns)
bindings_after_service side number ns Duplicate = side.bindings
bindings_after_service side number ns Unknown = side.bindings
bindings_after_service side number ns ChannelsFull = side.bindings

-- the channels after a service message: a new one names its endpoint
abbrev pub channels_after_service : EndState → ℕ → NsMessage → NsKind → List Channel
channels_after_service side number ns Created = with_endpoint (key_in ns) (endpoint_for side number ns) (channels_after side.channels ns)
channels_after_service side number ns Destroyed = channels_after side.channels ns
channels_after_service side number ns Duplicate = channels_after side.channels ns
channels_after_service side number ns Unknown = channels_after side.channels ns
channels_after_service side number ns ChannelsFull = channels_after side.channels ns

-- what a service message does, and what is left after it; number is that of the message
abbrev pub service_verdict : EndState → ℕ → Option NsMessage → Verdict
service_verdict side number None = verdict.ServiceMalformed
service_verdict side number (Some ns) =
    let kind = kind_of side.channels ns in
    verdict.Service kind ns.name ns.address (endpoint_in_verdict side number ns kind)

abbrev pub after_service : EndState → ℕ → Option NsMessage → EndState
after_service side number None = side
after_service side number (Some ns) =
    let kind = kind_of side.channels ns in
    record side { bindings = bindings_after_service side number ns kind; channels = channels_after_service side number ns kind }

-- the verdict on a message for an endpoint (rpmsg_recv_single)
abbrev pub endpoint_verdict : ℕ → Option BoundEndpoint → Verdict
endpoint_verdict address None = verdict.Dropped address
endpoint_verdict address (Some bound) = verdict.To bound.endpoint

-- the verdict on a message
abbrev pub verdict_on : EndState → ℕ → List ℕ → Verdict
verdict_on side number message =
    if is_whole message
    then (
    if is_service side (destination_of message)
    then service_verdict side number (service_of (payload_of message))
    else endpoint_verdict (destination_of message) (bound_at side.bindings (destination_of message))
    )
    else verdict.Malformed

-- what is left after the message of this number
abbrev pub after_message : EndState → ℕ → List ℕ → EndState
after_message side number message =
    if is_whole message && is_service side (destination_of message)
    then after_service side number (service_of (payload_of message))
    else side

-- the address at which a message is aimed: its destination, if it is whole and not for the name service
abbrev pub aim_of : EndState → List ℕ → Option ℕ
aim_of side message = if is_whole message && not (is_service side (destination_of message)) then Some (destination_of message) else None

-- a binding by a call: the address of the name service counts as bound
abbrev pub side_bind_answer : EndState → ℕ → Result Endpoint BindFault
side_bind_answer side address = if is_service side address then Err (fault.AddressTaken address) else bind_answer side.bindings address

abbrev pub after_side_bind : EndState → ℕ → ℕ → EndState
after_side_bind side address since = if is_service side address then side else record side { bindings = after_bind side.bindings address since }

-- an unbinding by a call: the name service stays
abbrev pub side_unbind_answer : EndState → ℕ → Result Endpoint BindFault
side_unbind_answer side address = if is_service side address then Err (fault.NotBound address) else unbind_answer side.bindings address

abbrev pub after_side_unbind : EndState → ℕ → EndState
after_side_unbind side address = if is_service side address then side else record side { bindings = after_unbind side.bindings address }

-- the start of an incarnation: nothing is bound and no channel is there; service and drivers stay
abbrev pub side_fresh : EndState → EndState
side_fresh side = record side { bindings = no_bindings; channels = [] }

-- an end as a desk
abbrev pub side_meaning : DeskMeaning EndState
side_meaning = record {
  endpoints = λ side. side.bindings.bound;
  bindings = λ side. side.bindings.count;
  aim = aim_of;
  verdict = verdict_on;
  delivered = after_message;
  bind_answer = λ side address since. side_bind_answer side address;
  bound = after_side_bind;
  unbind_answer = side_unbind_answer;
  unbound = after_side_unbind;
  fresh = side_fresh;
}
