-- The drivers of a host end and what they send (`struct rpmsg_driver` of Linux include/linux/rpmsg.h; samples/rpmsg/rpmsg_client_sample.c for `sample`; `sink` and `echo` are own).
use Rattle.std.specs.Prelude.{◌≡◌, ℕ, ◌+◌, ◌-◌, ◌^◌, min, nat_lt, nat_le, Bool, true, ◌&&◌, ◌||◌, not, ◌==◌, if◌then◌else◌, List, [], length, codes, map, filter, find, insert, Option, Some, None, is_some, AllPairs}
use Rattle.std.specs.List.{prefix_len}
use Rattle.std.specs.Option.{option_map, option_and_then}
use Rattle.rp_base.specs.declared.kinds.Endpoint.{Endpoint}
use Rattle.rp_base.specs.declared.kinds.DriverKind.{DriverKind}
use Rattle.rp_base.specs.declared.kinds.DriverKind.TheVariants.{Sink, Echo, Sample}
use Rattle.rp_base.specs.declared.limits.TheConstants.{ENDPOINTS_MOST}
use Rattle.rpmsg_header.specs.Headers.{header_bytes, source_of, payload_of}
use Rattle.name_service.specs.Channels.{is_same_name}
use Rattle.host_driver.specs.declared.driven.DrivenEndpoint.{DrivenEndpoint}
use Rattle.host_driver.specs.declared.drivers.DriverFault.{DriverFault}
use Rattle.host_driver.specs.declared.drivers.DriverFault.TheVariants.{DriverTaken, DriversFull}
use Rattle.host_driver.specs.declared.drivers.TheConstants.{DRIVERS_MOST}

-- a declared driver: the name of the channels that it drives (rpmsg_driver, id_table), and its kind
abbrev pub Declared : Type 0
Declared = List ℕ × DriverKind

-- the declared drivers, and the endpoints that are driven, in order of their addresses and generations
pub record DriversState : Type 0 where
  pub kinds : List Declared
  pub driven : List DrivenEndpoint

-- ---- what a driver sends

-- the payload of a sample driver (MSG of rpmsg_client_sample.c)
abbrev pub sample_text : List ℕ
sample_text = codes "hello world!"

-- how many messages a sample driver sends (count of rpmsg_client_sample.c)
abbrev pub sample_count : ℕ
sample_count = 100

-- a message from a driven endpoint (rpmsg_send)
abbrev pub message_from : DrivenEndpoint → ℕ → List ℕ → List ℕ
message_from one to payload = header_bytes one.endpoint.address to payload

-- what it sends to its channel as it is bound (rpmsg_sample_probe)
abbrev pub probe_message : DriverKind → DrivenEndpoint → Option (List ℕ)
probe_message Sink one = None
probe_message Echo one = None
probe_message Sample one = Some (message_from one one.channel sample_text)

-- the endpoint, once one more message is delivered to it; the count stays at its end (own)
abbrev pub with_delivery : DrivenEndpoint → DrivenEndpoint
with_delivery one = record one { deliveries = min (one.deliveries + 1) (2 ^ 64 - 1) }

-- what it sends for a message that is delivered and counted (rpmsg_sample_cb: `if (++rx_count >= count) return`)
abbrev pub reply_to : DriverKind → DrivenEndpoint → List ℕ → Option (List ℕ)
reply_to Sink one message = None
reply_to Echo one message = Some (message_from one (source_of message) (payload_of message))
reply_to Sample one message =
    if nat_lt one.deliveries sample_count then Some (message_from one one.channel sample_text) else None

-- ---- which driver, and which endpoint

-- the kind of the driver that is declared for channels of this name (rpmsg_id_match of rpmsg_core.c)
abbrev pub kind_of : List ℕ → List Declared → Option DriverKind
kind_of name kinds = option_map (λ (declared : Declared). declared.1) (find (λ declared. is_same_name declared.0 name) kinds)

-- whether two endpoints are one: the same address, bound by the same binding (own)
abbrev pub is_same_endpoint : Endpoint → Endpoint → Bool
is_same_endpoint a b = a.address == b.address && a.generation == b.generation

-- the order of endpoints: by address, then by generation (own)
abbrev pub is_before : Endpoint → Endpoint → Bool
is_before a b = nat_lt a.address b.address || (a.address == b.address && nat_lt a.generation b.generation)

-- whether this is the endpoint that is driven
abbrev pub drives : Endpoint → DrivenEndpoint → Bool
drives endpoint one = is_same_endpoint one.endpoint endpoint

-- how an endpoint is driven
abbrev pub driven_at : Endpoint → List DrivenEndpoint → Option DrivenEndpoint
driven_at endpoint driven = find (drives endpoint) driven

-- the driven endpoints but this one
abbrev pub without : Endpoint → List DrivenEndpoint → List DrivenEndpoint
without endpoint driven = filter (λ one. not (drives endpoint one)) driven

-- how many driven endpoints come before one
abbrev pub place_of : Endpoint → List DrivenEndpoint → ℕ
place_of endpoint driven = prefix_len (λ one. is_before one.endpoint endpoint) driven

-- one driven endpoint more, in its place
abbrev pub with_one : DrivenEndpoint → List DrivenEndpoint → List DrivenEndpoint
with_one one others = insert others (place_of one.endpoint others) one

-- each driven endpoint comes before the next ones
abbrev pub IsAscending : List DrivenEndpoint → Type 0
IsAscending driven = AllPairs (λ one other. is_before one.endpoint other.endpoint ≡ true) driven

-- ---- the calls

-- an endpoint as it is when its driver is bound to a channel (rpmsg_dev_probe of rpmsg_core.c)
abbrev pub newly_driven : DriverKind → Endpoint → ℕ → DrivenEndpoint
newly_driven kind endpoint channel = record { endpoint = endpoint; kind = kind; channel = channel; deliveries = 0 }

-- the kind of the driver that the endpoint of a new channel gets: one is declared for the channel's name, and no more than 256 endpoints are driven at a time (own; an end has no more)
abbrev pub kind_for : DriversState → List ℕ → Option DriverKind
kind_for drivers name = if nat_le ENDPOINTS_MOST (length drivers.driven) then None else kind_of name drivers.kinds

-- what is sent as the endpoint of a new channel is bound
abbrev pub created_answer : DriversState → List ℕ → Endpoint → ℕ → Option (List ℕ)
created_answer drivers name endpoint channel =
    option_and_then (λ kind. probe_message kind (newly_driven kind endpoint channel)) (kind_for drivers name)

-- with an endpoint driven by this kind of driver, if it is one
abbrev pub driven_by : Option DriverKind → Endpoint → ℕ → List DrivenEndpoint → List DrivenEndpoint
driven_by None endpoint channel driven = driven
driven_by (Some kind) endpoint channel driven = with_one (newly_driven kind endpoint channel) (without endpoint driven)

-- what is left then: the endpoint is driven, if it gets a driver
abbrev pub after_created : DriversState → List ℕ → Endpoint → ℕ → DriversState
after_created drivers name endpoint channel =
    record drivers { driven = driven_by (kind_for drivers name) endpoint channel drivers.driven }

-- what is sent for a delivered message
abbrev pub delivered_answer : DriversState → Endpoint → List ℕ → Option (List ℕ)
delivered_answer drivers endpoint message =
    option_and_then (λ one. reply_to one.kind (with_delivery one) message) (driven_at endpoint drivers.driven)

-- what is left then: the delivery is counted at its endpoint
abbrev pub after_delivered : DriversState → Endpoint → DriversState
after_delivered drivers endpoint =
    record drivers { driven = map (λ one. if drives endpoint one then with_delivery one else one) drivers.driven }

-- what is left once an endpoint is unbound (rpmsg_dev_remove of rpmsg_core.c)
abbrev pub after_destroyed : DriversState → Endpoint → DriversState
after_destroyed drivers endpoint = record drivers { driven = without endpoint drivers.driven }

-- what is left after a reset
abbrev pub after_reset : DriversState → DriversState
after_reset drivers = record drivers { driven = [] }

-- why one driver more is not declared, if out of memory is not why (own)
abbrev pub driver_fault : List Declared → List ℕ → Option DriverFault
driver_fault kinds name =
    if is_some (kind_of name kinds)
    then Some DriverTaken
    else (if nat_le DRIVERS_MOST (length kinds) then Some DriversFull else None)
