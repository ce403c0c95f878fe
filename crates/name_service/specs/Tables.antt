-- The channels as they are kept: a map from name and address to the endpoint, in order of creation.
use Rattle.std.specs.Prelude.{Option}
use Rattle.rp_base.specs.declared.kinds.Endpoint.{Endpoint}
use Rattle.name_service.specs.declared.channels.Channel.{Channel}
use Rattle.name_service.specs.Channels.{Key}

-- the channel of an entry
abbrev pub channel_of : Key × Option Endpoint → Channel
channel_of entry = record { name = entry.0.0; address = entry.0.1; endpoint = entry.1 }
