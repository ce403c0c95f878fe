-- A bench: a link with the calls that are begun and have done no step, and what its calls do (own).
use Rattle.std.specs.Prelude.{◌≡◌, ◌≢◌, ◌≤◌, ℕ, zero, suc, ◌+◌, ◌==◌, ◌||◌, Bool, List, length, slice_get, slice_set, replicate, Option, Some, None, option_and_then, is_some, if◌then◌else◌}
use Rattle.std.specs.Option.{option_or}
use Rattle.rp_base.specs.declared.kinds.End.{End}
use Rattle.rp_base.specs.declared.kinds.End.TheVariants as side
use Rattle.rp_base.specs.declared.limits.TheConstants.{CALLERS_MOST, STEPS_MOST, MESSAGE_MOST}
use Rattle.lane_model.specs.declared.states.LaneState.{LaneState}
use Rattle.lane_model.specs.declared.calls.Wish.{Wish}
use Rattle.lane_model.specs.declared.calls.Wish.TheVariants as wish
use Rattle.lane_model.specs.declared.calls.Outcome.{Outcome}
use Rattle.lane_model.specs.declared.calls.Outcome.TheVariants as outcome
use Rattle.lane_model.specs.declared.calls.LinkConfig.{LinkConfig}
use Rattle.lane_model.specs.declared.lane_links.LaneLink.{LaneLink}
use Rattle.lane_model.specs.Forms.{FormMeaning, list_form}
use Rattle.lane_model.specs.Lanes.{Stepped}
use Rattle.lane_model.specs.Links.{LinkState, caller_step, end_of, form_step, link_of, with_caller}
use Rattle.lane_model.specs.Conditions.{MayStep, is_calling, is_holding}
use Rattle.ring_core.specs.declared.states.RingState.{RingState}
use Rattle.ring_core.specs.RingLinks.{opened_ring_link}
use Rattle.managed_link.specs.Managed.{counts_to}
pub use Rattle.managed_link.specs.Known.{LinkRings, lists_of, on_rings}
pub use Rattle.managed_link.specs.Managed.{message_for}
pub use Rattle.managed_link.specs.Taken.{HoldsTaken}
use Rattle.link_bench.specs.declared.benches.BegunCall.{BegunCall}
use Rattle.link_bench.specs.declared.benches.Reach.{Reach}
use Rattle.link_bench.specs.declared.benches.Reach.TheVariants as reach
use Rattle.link_bench.specs.declared.benches.BenchFault.{BenchFault}
use Rattle.link_bench.specs.declared.benches.BenchFault.TheVariants as fault
use Rattle.channel_bus.specs.Sides.{EndState}
use Rattle.channel_bus.specs.Sides.{side_meaning}

-- the form of a lane that has its lists alone
abbrev pub on_lists : FormMeaning (LaneState EndState) EndState
on_lists = list_form side_meaning

-- a link, and for each number of a caller the call that it has begun and of which no step is done
pub record BenchState : Type 0 where
  pub rings : LinkRings
  pub begun : List (Option BegunCall)

-- the link of a bench: its lists and counts, without the words
abbrev pub link_in : BenchState → LinkState EndState
link_in bench = lists_of bench.rings

-- nothing is begun
abbrev pub no_begun_calls : List (Option BegunCall)
no_begun_calls = replicate CALLERS_MOST None

-- a bench over a new link
abbrev pub new_bench_of : LinkConfig → EndState → EndState → BenchState
new_bench_of config host remote = record { rings = opened_ring_link config host remote; begun = no_begun_calls }

-- the call that a caller has begun and of which no step is done
abbrev pub begun_call_of : BenchState → ℕ → Option BegunCall
begun_call_of bench caller = option_and_then (λ found. found) (slice_get bench.begun caller)

-- a caller is in a call from its beginning on
abbrev pub is_in_call : BenchState → ℕ → Bool
is_in_call bench caller = is_some (begun_call_of bench caller) || is_calling (link_in bench) caller

-- a step of a call on a link of some form. What it does to the call, the lists alone say
abbrev pub step_on : {L : Type 0} → FormMeaning L EndState → LaneLink L → ℕ → ℕ → Option Wish → Stepped (LaneLink L)
step_on form link caller follows wished = record {
  state = (form_step form side_meaning link caller follows wished).state;
  outcome = (caller_step side_meaning (link_of form link) caller follows wished).outcome;
}

-- how far a call came: the link that it leaves, the steps of the run until then, and what it reached
pub record Walk (L : Type 0) : Type 0 where
  pub link : LaneLink L
  pub steps : ℕ
  pub reach : Reach

-- what a step does to the call: it ends it, or the later steps say
abbrev pub walk_on : {L : Type 0} → LaneLink L → ℕ → Outcome → (ℕ → Walk L) → Walk L
walk_on link steps (outcome.At step) later = later step
walk_on link steps (outcome.Ended ended) later = record { link = link; steps = steps; reach = reach.Ended ended }

-- the later steps of a call, at most so many: up to its end, or to the most steps of a run; `last` is the step that was done last
unfoldable pub later_steps : {L : Type 0} → FormMeaning L EndState → ℕ → ℕ → ℕ → LaneLink L → ℕ → Walk L
later_steps form zero last steps link caller = record { link = link; steps = steps; reach = reach.At last }
later_steps form (suc more) last steps link caller =
    if steps == STEPS_MOST then record { link = link; steps = steps; reach = reach.Limit }
    else (let step = step_on form link caller 0 None in
    walk_on step.state (steps + 1) step.outcome (λ done. later_steps form more done (steps + 1) step.state caller))

-- a call from its first step on, with at most so many steps after it
unfoldable pub call_steps : {L : Type 0} → FormMeaning L EndState → ℕ → ℕ → LaneLink L → ℕ → ℕ → Wish → Walk L
call_steps form more steps link caller follows wish =
    if steps == STEPS_MOST then record { link = link; steps = steps; reach = reach.Limit }
    else (let step = step_on form link caller follows (Some wish) in
    walk_on step.state (steps + 1) step.outcome (λ done. later_steps form more done (steps + 1) step.state caller))

-- a walk, with the lists that its link stands for
abbrev pub walk_lists : {L : Type 0} → FormMeaning L EndState → Walk L → Walk (LaneState EndState)
walk_lists form walk = record { link = link_of form walk.link; steps = walk.steps; reach = walk.reach }

-- the bench with a new caller at an end, under this number if there is one
abbrev pub with_new_caller : BenchState → End → Option ℕ → BenchState
with_new_caller bench end number = record bench { rings = record bench.rings { callers = with_caller bench.rings.callers end number } }

-- the bench in which a caller has begun this call, or none
abbrev pub with_begun_call : BenchState → ℕ → Option BegunCall → BenchState
with_begun_call bench caller call = record bench { begun = slice_set bench.begun caller call }

-- how far a call of a bench came
pub record BenchWalk : Type 0 where
  pub bench : BenchState
  pub steps : ℕ
  pub reach : Reach

-- the bench over the rings that a call leaves
abbrev pub bench_walk : BenchState → Walk (RingState EndState) → BenchWalk
bench_walk bench walk = record { bench = record bench { rings = walk.link }; steps = walk.steps; reach = walk.reach }

-- one step of the call that a caller is in and at most so many more, from its first step or from where it is; a call is begun no more once a step of it is done
abbrev pub advance_steps : BenchState → ℕ → ℕ → ℕ → Option BegunCall → BenchWalk
advance_steps bench more steps caller (Some call) =
    if steps == STEPS_MOST then record { bench = bench; steps = steps; reach = reach.Limit }
    else bench_walk (with_begun_call bench caller None) (call_steps on_rings more steps bench.rings caller call.follows call.wish)
advance_steps bench more steps caller None = bench_walk bench (later_steps on_rings (more + 1) 0 steps bench.rings caller)

-- so many steps of the call that a caller is in
abbrev pub advance_walk : BenchState → ℕ → ℕ → ℕ → BenchWalk
advance_walk bench more steps caller = advance_steps bench more steps caller (begun_call_of bench caller)

-- a call of a caller that is in none, with at most so many steps after its first; it follows the incarnation that the link is in
abbrev pub begin_walk : BenchState → ℕ → ℕ → ℕ → Wish → BenchWalk
begin_walk bench more steps caller wanted = bench_walk bench (call_steps on_rings more steps bench.rings caller (link_in bench).era.inc wanted)

-- a whole call, which ends within seven steps
abbrev pub call_walk : BenchState → ℕ → ℕ → Wish → BenchWalk
call_walk bench steps caller wanted = begin_walk bench 6 steps caller wanted

-- the first step of a call
abbrev pub start_walk : BenchState → ℕ → ℕ → Wish → BenchWalk
start_walk bench steps caller wanted = begin_walk bench 0 steps caller wanted

-- the next step of each call that is begun may be done
abbrev pub AreFitCalls : LinkState EndState → List (Option BegunCall) → Type 0
AreFitCalls link begun =
    (caller : ℕ) (call : BegunCall) → slice_get begun caller ≡ Some (Some call) → MayStep link caller (Some call.wish)

-- a caller that isn't in use
abbrev pub used_fault : Option End → Option BenchFault
used_fault None = Some fault.NoCaller
used_fault (Some end) = None

-- a caller that is in a call
abbrev pub calling_fault : Bool → Option BenchFault
calling_fault in_call = if in_call then Some fault.InCall else None

-- a caller that isn't in use, or one that is in a call
abbrev pub caller_fault : Option End → Bool → Option BenchFault
caller_fault None in_call = Some fault.NoCaller
caller_fault (Some end) in_call = calling_fault in_call

-- why a caller can't begin a call
abbrev pub ready_fault : BenchState → ℕ → Option BenchFault
ready_fault bench caller = caller_fault (end_of (link_in bench).callers caller) (is_in_call bench caller)

-- a give names what its caller holds
abbrev pub wish_fault : BenchState → ℕ → Wish → Option BenchFault
wish_fault bench caller (wish.Send message) = None
wish_fault bench caller wish.Take = None
wish_fault bench caller (wish.Give number) = if is_holding (link_in bench) caller number then None else Some (fault.NotHeld number)
wish_fault bench caller (wish.Bind address) = None
wish_fault bench caller (wish.Unbind address) = None

-- why this call can't begin: the caller before what it wants
abbrev pub begin_fault : BenchState → ℕ → Wish → Option BenchFault
begin_fault bench caller wanted = option_or (ready_fault bench caller) (wish_fault bench caller wanted)

-- why no step of a call can be done: a caller that isn't in use, or one in no call
abbrev pub advance_fault : Option End → Bool → Option BenchFault
advance_fault None in_call = Some fault.NoCaller
advance_fault (Some end) in_call = if in_call then None else Some fault.NoCall

-- the same of a caller of a bench
abbrev pub step_fault : BenchState → ℕ → Option BenchFault
step_fault bench caller = advance_fault (end_of (link_in bench).callers caller) (is_in_call bench caller)

-- the next step of every other caller may be done where it might before
abbrev pub OthersMay : LinkState EndState → LinkState EndState → ℕ → Type 0
OthersMay before after caller = (other : ℕ) (wanted : Option Wish) → caller ≢ other → MayStep before other wanted → MayStep after other wanted

-- the counts of lane 0, to the host, or of lane 1
abbrev pub counts_of : BenchState → ℕ → ℕ × ℕ × ℕ
counts_of bench lane = counts_to (link_in bench) (if lane == 0 then side.Host else side.Remote)

-- a message fits a buffer
abbrev pub IsSendable : Wish → Type 0
IsSendable (wish.Send message) = length message ≤ MESSAGE_MOST
IsSendable wish.Take = Unit {0}
IsSendable (wish.Give number) = Unit {0}
IsSendable (wish.Bind address) = Unit {0}
IsSendable (wish.Unbind address) = Unit {0}

-- where a call of this caller came to its end with a message, the caller holds its buffer and is in no call
abbrev pub HoldsReachTaken : LinkState EndState → ℕ → Reach → Type 0
HoldsReachTaken link caller (reach.At step) = Unit {0}
HoldsReachTaken link caller (reach.Ended end) = HoldsTaken link caller end
HoldsReachTaken link caller reach.Limit = Unit {0}
