-- What a change of an end makes of its endpoints and channels (own; what a service message does is that of Linux drivers/rpmsg/rpmsg_ns.c and rpmsg_core.c).
use Rattle.std.specs.Prelude.{◌≡◌, ℕ, ◌+◌, ◌≤◌, true, false, List, [], ◌∷◌, ◌++◌, Option, Some, None, option_map}
use Rattle.rp_base.specs.declared.kinds.Endpoint.{Endpoint}
use Rattle.rp_base.specs.declared.kinds.BoundEndpoint.{BoundEndpoint}
use Rattle.rp_base.specs.declared.kinds.Verdict.{Verdict}
use Rattle.rp_base.specs.declared.kinds.Verdict.TheVariants as verdict
use Rattle.rp_base.specs.declared.kinds.NsKind.TheVariants.{Created, Destroyed}
use Rattle.endpoint_map.specs.Bindings.{Bindings, bound_at, endpoint_of, BindsOne, UnbindsOne}
use Rattle.name_service.specs.declared.channels.Channel.{Channel}
use Rattle.name_service.specs.Channels.{Key, is_same_key, key_of, channel_at, has_channel, endpoint_at, without}
use Rattle.channel_bus.specs.Sides.{EndState, side_meaning}

-- what may change an end: a binding of an address when so many messages had been handed over, an unbinding, a message under its number
pub data EndChange : Type 0 where
  Bind : ℕ → ℕ → EndChange
  Unbind : ℕ → EndChange
  Deliver : ℕ → List ℕ → EndChange

-- an end after a change
abbrev pub end_after : EndState → EndChange → EndState
end_after side (Bind address since) = side_meaning.bound side address since
end_after side (Unbind address) = side_meaning.unbound side address
end_after side (Deliver number message) = side_meaning.delivered side number message

-- an end after changes, one after the other
abbrev pub end_after_all : EndState → List EndChange → EndState
end_after_all side [] = side
end_after_all side (change ∷ changes) = end_after_all (end_after side change) changes

-- this endpoint was bound, and is bound no more; all others are where they were
pub record IsUnbound (before after : Bindings) (endpoint : Endpoint) : Type 0 where
  pub bound : option_map endpoint_of (bound_at before endpoint.address) ≡ Some endpoint
  pub gone : UnbindsOne before after endpoint.address

-- one endpoint more where one is named, at an address that was free, else the same
abbrev pub AddsAtMost : Bindings → Bindings → Option Endpoint → ℕ → Type 0
AddsAtMost before after None since = after ≡ before
AddsAtMost before after (Some endpoint) since = BindsOne before after endpoint since

-- one endpoint fewer where one is named, else the same
abbrev pub RemovesAtMost : Bindings → Bindings → Option Endpoint → Type 0
RemovesAtMost before after None = after ≡ before
RemovesAtMost before after (Some endpoint) = IsUnbound before after endpoint

-- the service, the drivers and the channels stay
pub record KeepsChannels (before after : EndState) : Type 0 where
  pub service : after.has_service ≡ before.has_service
  pub drivers : after.drivers ≡ before.drivers
  pub channels : after.channels ≡ before.channels

-- this channel is new and comes after the others; its endpoint, if it has one, is new too, and counts its own message as handed over
pub record CreatesChannel (before after : EndState) (number : ℕ) (channel : Channel) : Type 0 where
  pub service : after.has_service ≡ before.has_service
  pub drivers : after.drivers ≡ before.drivers
  pub new : has_channel (key_of channel) before.channels ≡ false
  pub channels : after.channels ≡ before.channels ++ channel ∷ []
  pub endpoints : AddsAtMost before.bindings after.bindings channel.endpoint (number + 1)

-- the channel of this name and address is gone, the others stay in their order; no endpoint but its own is unbound
pub record DestroysChannel (before after : EndState) (key : Key) (endpoint : Option Endpoint) : Type 0 where
  pub service : after.has_service ≡ before.has_service
  pub drivers : after.drivers ≡ before.drivers
  pub there : has_channel key before.channels ≡ true
  pub gone : has_channel key after.channels ≡ false
  pub others : (other : Key) → is_same_key key other ≡ false → channel_at other after.channels ≡ channel_at other before.channels
  pub channels : after.channels ≡ without key before.channels
  pub own : (unbound : Endpoint) → endpoint ≡ Some unbound → endpoint_at key before.channels ≡ Some unbound
  pub endpoints : RemovesAtMost before.bindings after.bindings endpoint

-- what the message of this number leaves of an end, by what became of it
abbrev pub Leaves : EndState → EndState → ℕ → Verdict → Type 0
Leaves before after number (verdict.Service Created name address endpoint) =
    CreatesChannel before after number (record { name = name; address = address; endpoint = endpoint })
Leaves before after number (verdict.Service Destroyed name address endpoint) = DestroysChannel before after (name, address) endpoint
Leaves before after number other = after ≡ before

-- no endpoint has a generation above the count of bindings
abbrev pub AreCounted : Bindings → Type 0
AreCounted bindings =
    (bound : BoundEndpoint) → bound_at bindings bound.endpoint.address ≡ Some bound → bound.endpoint.generation ≤ bindings.count
