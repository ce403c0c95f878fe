-- What is written of the channels of a link (own).
use Rattle.std.specs.Prelude.{ℕ, List, [], ◌∷◌, map, Option, Some, None, Result, Ok, Err, Vec}
use Rattle.std.specs.declared.alloc.Global.{Global}
use Rattle.lane_model.specs.Lanes.{holder}
use Rattle.name_service.specs.declared.channels.Channel.{Channel}
use Rattle.vring_layout.specs.declared.snapshots.SnapshotFault.{SnapshotFault}
use Rattle.vring_layout.specs.declared.snapshots.SnapshotFault.TheVariants as snapshot_fault
use Rattle.journal.specs.declared.events.Event.{Event}
use Rattle.journal.specs.declared.events.Event.TheVariants as event
use Rattle.link_bench.specs.Benches.{BenchState, link_in}

-- a channel, with the endpoint that was bound for it
abbrev pub channel_event : List ℕ → Channel → Event
channel_event name channel = event.Channel name channel.name channel.address channel.endpoint

-- what is written of the channels that a link answers; out of memory writes nothing
abbrev pub found_channels : List ℕ → Result (Vec Channel Global) SnapshotFault → Option (List Event)
found_channels name (Ok channels) = Some (map (channel_event name) channels.items)
found_channels name (Err (snapshot_fault.StillTurn caller)) = Some (event.StillTurn name caller ∷ [])
found_channels name (Err snapshot_fault.NoMemory) = None

-- the channels of the host end, where no caller has the turn with which they go
abbrev pub channel_events_unless : List ℕ → BenchState → Option ℕ → List Event
channel_events_unless name bench (Some caller) = event.StillTurn name caller ∷ []
channel_events_unless name bench None = map (channel_event name) (link_in bench).to_host.desk.channels

-- `channels X`
unfoldable pub channels_events : List ℕ → BenchState → List Event
channels_events name bench = channel_events_unless name bench (holder (link_in bench).to_host.receiver)
