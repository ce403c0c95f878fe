-- How a link comes about within its incarnation: by the moves that may befall it, one after the other (own).
use Rattle.std.specs.Prelude.{◌≡◌, ◌≤◌, ◌++◌, ℕ, List, length, IfSome, All}
use Rattle.rp_base.specs.declared.limits.TheConstants.{MESSAGE_MOST}
use Rattle.lane_model.specs.declared.stages.Sending.{Sending}
use Rattle.lane_model.specs.declared.states.LaneState.{LaneState}
use Rattle.lane_model.specs.Lanes.{OfCall, message_at}
use Rattle.rp_base.specs.declared.kinds.End.{End}
use Rattle.rp_base.specs.declared.kinds.BoundEndpoint.{BoundEndpoint}
use Rattle.lane_model.specs.Desks.{DeskMeaning, IsBound}
use Rattle.lane_model.specs.Links.{LinkState}
use Rattle.lane_laws.specs.Moves.{Move, MayMoves, Recorded, no_handings, after_moves, lane_to, IsNewLink}
use Rattle.channel_bus.specs.Sides.{EndState, side_meaning}
use Rattle.core_actors.specs.Actors.{ActorsState}
use Rattle.link_bench.specs.Benches.{BenchState, AreFitCalls, IsSendable, link_in}
use Rattle.crash_recover.specs.Cores.{CoreState}

-- one link is left of another by moves, each of which may be made where the ones before it have been
pub record ComesBy {D : Type 0} (desk : DeskMeaning D) (before after : LinkState D) : Type 0 where
  pub moves : List Move
  pub may : MayMoves desk before moves
  pub left : (after_moves desk (no_handings before) moves).link ≡ after

-- each message of a lane, accepted or under way, fits a buffer
pub record IsShortLane (state : LaneState EndState) : Type 0 where
  pub accepted : (number : ℕ) → length (message_at state.lane.accepted number) ≤ MESSAGE_MOST
  pub under_way : OfCall state.sender (λ caller (sending : Sending). length sending.message ≤ MESSAGE_MOST)

-- the same of both lanes
pub record IsShortLink (link : LinkState EndState) : Type 0 where
  pub to_host : IsShortLane link.to_host
  pub to_remote : IsShortLane link.to_remote

-- a link comes by moves from the start of its incarnation, and its messages fit buffers
pub record IsReached (link : LinkState EndState) : Type 0 where
  pub start : LinkState EndState
  pub new : IsNewLink side_meaning start
  pub came : ComesBy side_meaning start link
  pub short : IsShortLink link

-- the link, with what it has handed over in its incarnation on the way that it came
abbrev pub history_of : (link : LinkState EndState) → IsReached link → Recorded EndState
history_of link reached = after_moves side_meaning (no_handings reached.start) reached.came.moves

-- at some time on the way that a link came, this endpoint of this end was bound
pub record WasBoundOnTheWay (link : LinkState EndState) (reached : IsReached link) (end : End) (bound : BoundEndpoint) : Type 0 where
  pub before : List Move
  pub since : List Move
  pub way : reached.came.moves ≡ before ++ since
  pub bound_then : IsBound side_meaning (lane_to (after_moves side_meaning (no_handings reached.start) before).link end).desk bound

-- the link of a bench is reached, and the first step of each call that is begun may be done
pub record IsReachedBench (bench : BenchState) : Type 0 where
  pub link : IsReached (link_in bench)
  pub fit : AreFitCalls (link_in bench) bench.begun

-- each message that an actor of a core is yet to send fits a buffer
pub record AreSendable (actors : ActorsState) : Type 0 where
  pub host : All IsSendable actors.host_calls
  pub worker : All IsSendable actors.worker_calls

-- a core whose link, if it has one, is reached, and whose actors have messages that fit
pub record IsReachedCore (core : CoreState) : Type 0 where
  pub bench : IfSome core.bench IsReachedBench
  pub calls : AreSendable core.actors
