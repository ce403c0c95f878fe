-- What the link of a core keeps: the core's own two callers, turns of callers alone, the incarnation of its life, and what the calls of its actors give back (own).
use Rattle.std.specs.Prelude.{◌≡◌, Bool, true, List, Option, IfSome}
use Rattle.rp_base.specs.declared.kinds.LifeState.{LifeState}
use Rattle.proc_state.specs.Lives.{CoreLife, is_up}
use Rattle.lane_model.specs.declared.calls.Wish.{Wish}
use Rattle.lane_model.specs.declared.states.LaneState.{LaneState}
use Rattle.lane_model.specs.declared.stages.Turn.{Turn}
use Rattle.lane_model.specs.declared.stages.Turn.TheVariants as turn
use Rattle.lane_model.specs.Links.{LinkState}
use Rattle.channel_bus.specs.Sides.{EndState}
use Rattle.link_bench.specs.Benches.{BenchState, link_in}
use Rattle.core_actors.specs.Actors.{ActorsState}
use Rattle.core_actors.specs.PendingCalls.{AreOwnUsed, HasNoneBegun, HoldGiven}

-- a turn that is free or a caller's, and not the manager's
abbrev pub IsUnmanagedTurn : {C : Type 0} → Turn C → Type 0
IsUnmanagedTurn turn.Free = Unit {0}
IsUnmanagedTurn (turn.Taken caller call) = Unit {0}
IsUnmanagedTurn (turn.Leaving caller end) = Unit {0}
IsUnmanagedTurn turn.Manager = ⊥

-- the same of both turns of a lane
pub record IsUnmanagedLane (state : LaneState EndState) : Type 0 where
  pub sender : IsUnmanagedTurn state.sender
  pub receiver : IsUnmanagedTurn state.receiver

-- no turn of a link is the manager's
pub record IsUnmanaged (link : LinkState EndState) : Type 0 where
  pub to_host : IsUnmanagedLane link.to_host
  pub to_remote : IsUnmanagedLane link.to_remote

-- the link of a core in this life: it is in the life's incarnation, and live exactly while the core is up
pub record IsKeptLink (life : CoreLife) (link : LinkState EndState) : Type 0 where
  pub unmanaged : IsUnmanaged link
  pub own : AreOwnUsed link.callers
  pub inc : link.era.inc ≡ life.incarnation
  pub live : link.era.is_live ≡ is_up life.state

-- the same of a bench
abbrev pub IsKeptBench : CoreLife → BenchState → Type 0
IsKeptBench life bench = IsKeptLink life (link_in bench)

-- the link that a core in this state has, if it has one, where its actors are yet to make these calls: none has begun a call without a step of it, and while the core is up they hold what their calls give back
pub record ReadyLink (state : LifeState) (host_calls : List Wish) (is_taking : Bool) (worker_calls : List Wish) (link : Option BenchState) : Type 0 where
  pub begun : IfSome link HasNoneBegun
  pub calls : is_up state ≡ true → IfSome link (HoldGiven host_calls is_taking worker_calls)

-- the same of these actors: it is ready for their next steps
abbrev pub IsReadyLink : LifeState → ActorsState → Option BenchState → Type 0
IsReadyLink state actors link = ReadyLink state actors.host_calls actors.is_taking actors.worker_calls link
