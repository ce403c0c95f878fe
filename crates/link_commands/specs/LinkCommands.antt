-- What is done under the name of a link of a run (own).
use Rattle.std.specs.Prelude.{ℕ, List, [], ◌∷◌, length}
use Rattle.lane_model.specs.declared.states.LaneState.{LaneState}
use Rattle.channel_bus.specs.Sides.{EndState}
use Rattle.journal.specs.declared.events.Event.{Event}
use Rattle.journal.specs.declared.events.Event.TheVariants as event
use Rattle.link_bench.specs.Benches.{BenchState, link_in}
use Rattle.link_commands.specs.declared.acts.LinkView.{LinkView}
use Rattle.link_commands.specs.declared.acts.LinkView.TheVariants as view
use Rattle.link_commands.specs.declared.acts.ManagerAct.{ManagerAct}
use Rattle.link_commands.specs.declared.acts.ManagerAct.TheVariants as manager
use Rattle.link_commands.specs.declared.acts.NamedAct.{NamedAct}
use Rattle.link_commands.specs.declared.acts.NamedAct.TheVariants as under
use Rattle.link_commands.specs.ChannelLists.{channels_events}
use Rattle.link_commands.specs.Effects.{Effect, act_effect, tells, tells_all}
use Rattle.link_commands.specs.NamedLinks.{NamedLink}
use Rattle.link_commands.specs.Recoveries.{close_effect, reopen_effect}
use Rattle.link_commands.specs.RingDumps.{bench_ring_events}

-- the counts of a lane
abbrev pub lane_event : List ℕ → ℕ → LaneState EndState → Event
lane_event name number state =
    event.LaneAcceptedHandedReturned name number (length state.lane.accepted) (length state.lane.takers) state.lane.returned

-- what a link shows
unfoldable pub view_events : List ℕ → BenchState → LinkView → List Event
view_events name bench view.Books = lane_event name 0 (link_in bench).to_host ∷ lane_event name 1 (link_in bench).to_remote ∷ []
view_events name bench (view.Ring lane) = bench_ring_events name bench lane
view_events name bench view.Channels = channels_events name bench

-- what the manager does
abbrev pub manager_effect : List ℕ → BenchState → ℕ → ManagerAct → Effect
manager_effect name bench steps manager.Close = close_effect name bench steps
manager_effect name bench steps manager.Reopen = reopen_effect name bench steps

-- what is done under the name of a link
unfoldable pub link_effect : NamedLink → ℕ → NamedAct (List ℕ) → Effect
link_effect link steps (under.Make made) = tells link.bench steps (event.Exists link.name)
link_effect link steps (under.Link asked) = act_effect link.name link.bench steps asked
link_effect link steps (under.Manage managed) = manager_effect link.name link.bench steps managed
link_effect link steps (under.Show shown) = tells_all link.bench steps (view_events link.name link.bench shown)
link_effect link steps (under.Core asked) = tells link.bench steps (event.Unknown link.name)
