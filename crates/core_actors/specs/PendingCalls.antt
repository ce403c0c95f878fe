-- The calls that a core's actors are yet to make, beside the calls under way and the buffers that they hold: the next call of an actor may always begin (own).
use Rattle.std.specs.Prelude.{◌≡◌, ℕ, ◌==◌, Bool, true, false, IsTrue, not, List, [], ◌∷◌, drop, Option, Some, None}
use Rattle.std.specs.List.{list_any}
use Rattle.rp_base.specs.declared.kinds.End.{End}
use Rattle.rp_base.specs.declared.kinds.End.TheVariants as side
use Rattle.lane_model.specs.declared.calls.CallEnd.{CallEnd}
use Rattle.lane_model.specs.declared.calls.CallEnd.TheVariants as end
use Rattle.lane_model.specs.declared.calls.Wish.{Wish}
use Rattle.lane_model.specs.declared.calls.Wish.TheVariants as wish
use Rattle.lane_model.specs.declared.stages.Receiving.{Receiving}
use Rattle.lane_model.specs.declared.stages.Sending.{Sending}
use Rattle.lane_model.specs.declared.stages.Turn.{Turn}
use Rattle.lane_model.specs.declared.stages.Turn.TheVariants as turn
use Rattle.lane_model.specs.declared.stages.Work.{Work}
use Rattle.lane_model.specs.declared.stages.Work.TheVariants as work
use Rattle.lane_model.specs.declared.states.Holding.{Holding}
use Rattle.lane_model.specs.declared.states.LaneState.{LaneState}
use Rattle.lane_model.specs.Lanes.{has_call, holds}
use Rattle.lane_model.specs.Links.{Lanes, end_of, lanes_of}
use Rattle.channel_bus.specs.Sides.{EndState}
use Rattle.core_actors.specs.Actors.{ActorsState}
use Rattle.link_bench.specs.Benches.{BenchState, begun_call_of, link_in}

-- the numbers of the messages whose buffers these calls give back
abbrev pub give_numbers : List Wish → List ℕ
give_numbers [] = []
give_numbers (wish.Send message ∷ later) = give_numbers later
give_numbers (wish.Take ∷ later) = give_numbers later
give_numbers (wish.Give number ∷ later) = number ∷ give_numbers later
give_numbers (wish.Bind address ∷ later) = give_numbers later
give_numbers (wish.Unbind address ∷ later) = give_numbers later

-- whether a number is one of these
abbrev pub is_among : List ℕ → ℕ → Bool
is_among numbers number = list_any (λ other. other == number) numbers

-- a caller holds the buffer of each of these numbers, of which none is there twice
abbrev pub AreGivable : List Holding → ℕ → List ℕ → Type 0
AreGivable held caller [] = Unit {0}
AreGivable held caller (number ∷ later) = IsTrue (holds held number caller) × (is_among later number ≡ false) × AreGivable held caller later

-- what is yet to be given back once a call has ended so: what it was handed too, and no more what it gave back
abbrev pub give_numbers_after : CallEnd → List Wish → List ℕ
give_numbers_after (end.Took number judged) calls = number ∷ give_numbers calls
give_numbers_after (end.Gave number) calls = give_numbers (drop 1 calls)
give_numbers_after ended calls = give_numbers calls

-- a give under way is the first of these calls; the flag says that the call under way is one of them
abbrev pub IsNamed : Work → Bool → List Wish → Type 0
IsNamed (work.Take stage) is_first calls = Unit {0}
IsNamed (work.Give number stage) is_first calls = (is_first ≡ true) × (number ∷ give_numbers (drop 1 calls) ≡ give_numbers calls)
IsNamed (work.Bind address) is_first calls = Unit {0}
IsNamed (work.Unbind address) is_first calls = Unit {0}

-- the same of a give that is about to end
abbrev pub IsNamedEnd : CallEnd → Bool → Type 0
IsNamedEnd (end.Gave number) is_first = is_first ≡ true
IsNamedEnd ended is_first = Unit {0}

-- the receiver's turn, where a call of the actor has it
abbrev pub IsOwnTurn : Turn Receiving → List Holding → ℕ → Bool → List Wish → Type 0
IsOwnTurn turn.Free held caller is_first calls = Unit {0}
IsOwnTurn (turn.Taken other call) held caller is_first calls = AreGivable held caller (give_numbers calls) × IsNamed call.work is_first calls
IsOwnTurn (turn.Leaving other ended) held caller is_first calls = AreGivable held caller (give_numbers_after ended calls) × IsNamedEnd ended is_first
IsOwnTurn turn.Manager held caller is_first calls = Unit {0}

-- the lane that an actor takes from: it holds what its calls give back
pub record IsFitLane (state : LaneState EndState) (caller : ℕ) (is_first : Bool) (calls : List Wish) : Type 0 where
  pub own : has_call state.receiver caller ≡ true → IsOwnTurn state.receiver state.lane.held caller is_first calls
  pub other : has_call state.receiver caller ≡ false → AreGivable state.lane.held caller (give_numbers calls)

-- a send ends with neither a handing nor a return
abbrev pub IsSendsEnd : CallEnd → Type 0
IsSendsEnd (end.Took number judged) = ⊥
IsSendsEnd (end.Gave number) = ⊥
IsSendsEnd ended = Unit {0}

abbrev pub IsSendsTurn : Turn Sending → Type 0
IsSendsTurn turn.Free = Unit {0}
IsSendsTurn (turn.Taken caller call) = Unit {0}
IsSendsTurn (turn.Leaving caller ended) = IsSendsEnd ended
IsSendsTurn turn.Manager = Unit {0}

-- the lanes of an actor
pub record AreFitLanes (lanes : Lanes (LaneState EndState)) (caller : ℕ) (is_first : Bool) (calls : List Wish) : Type 0 where
  pub sends : IsSendsTurn lanes.outgoing.sender
  pub receives : IsFitLane lanes.incoming caller is_first calls

-- the callers that are a core's own are in use on its link: 0 at the host, 1 at the remote
pub record AreOwnUsed (callers : List (Option End)) : Type 0 where
  pub host : end_of callers 0 ≡ Some side.Host
  pub remote : end_of callers 1 ≡ Some side.Remote

-- the link of a core on which its actors, who are yet to make these calls, hold what the calls give back; the flag says that the host actor is in a take that is not among them
pub record HoldGiven (host_calls : List Wish) (is_taking : Bool) (worker_calls : List Wish) (bench : BenchState) : Type 0 where
  pub host : AreFitLanes (lanes_of (link_in bench) side.Host) 0 (not is_taking) host_calls
  pub worker : AreFitLanes (lanes_of (link_in bench) side.Remote) 1 true worker_calls

-- the same of these actors
abbrev pub IsReadyBench : ActorsState → BenchState → Type 0
IsReadyBench actors bench = HoldGiven actors.host_calls actors.is_taking actors.worker_calls bench

-- no actor has begun a call without a step of it
pub record HasNoneBegun (bench : BenchState) : Type 0 where
  pub host : begun_call_of bench 0 ≡ None
  pub worker : begun_call_of bench 1 ≡ None

-- the actors are ready for their next steps on this link: they have begun no call without a step of it, and hold what their calls give back
pub record AreReady (actors : ActorsState) (bench : BenchState) : Type 0 where
  pub begun : HasNoneBegun bench
  pub calls : IsReadyBench actors bench
