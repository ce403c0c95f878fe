-- How the links of a run come about, and what they have handed over (own).
use Rattle.std.specs.Prelude.{◌≡◌, ℕ, All}
use Rattle.rp_base.specs.declared.kinds.End.{End}
use Rattle.rp_base.specs.declared.kinds.BoundEndpoint.{BoundEndpoint}
use Rattle.lane_model.specs.Desks.{IsBound}
use Rattle.lane_laws.specs.Handings.{IsPrefix, due, got, handed_front, messages_of, with_numbers}
use Rattle.lane_model.specs.Links.{LinkState}
use Rattle.lane_laws.specs.Moves.{handings_to, lane_to}
use Rattle.channel_bus.specs.Sides.{EndState, side_meaning}
use Rattle.core_laws.specs.BenchMoves.{IsReached, IsReachedBench, IsReachedCore, WasBoundOnTheWay, history_of}
use Rattle.command_run.specs.NamedCores.{NamedCoreState}
use Rattle.link_commands.specs.NamedLinks.{NamedLink}
use Rattle.command_run.specs.Runs.{ObjectsState}

-- each link of a script comes by moves from the start of its incarnation, and so does the link of each core
pub record AreReached (objects : ObjectsState) : Type 0 where
  pub links : All (λ (named : NamedLink). IsReachedBench named.bench) objects.links
  pub cores : All (λ (named : NamedCoreState). IsReachedCore named.core) objects.cores

-- a link, with a way on which it came from the start of its incarnation, and what it handed over on that way: to each end each number once and in order, and to an endpoint from each sender a prefix of what is due to it, and all of it that was handed over where the endpoint is bound
pub record HandsInOrder (link : LinkState EndState) : Type 0 where
  pub reached : IsReached link
  pub once : (end : End) → messages_of (handings_to (history_of link reached) end) ≡ with_numbers 0 (handed_front (lane_to link end).lane)
  pub front : (end : End) (bound : BoundEndpoint) (sender : ℕ) → WasBoundOnTheWay link reached end bound
      → IsPrefix (got bound.endpoint sender (handings_to (history_of link reached) end)) (due side_meaning (lane_to link end).desk bound sender (lane_to link end).lane.accepted)
  pub whole : (end : End) (bound : BoundEndpoint) (sender : ℕ) → IsBound side_meaning (lane_to link end).desk bound
      → got bound.endpoint sender (handings_to (history_of link reached) end) ≡ due side_meaning (lane_to link end).desk bound sender (handed_front (lane_to link end).lane)
