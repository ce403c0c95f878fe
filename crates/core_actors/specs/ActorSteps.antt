-- What the actors of a core do on its link, step by step, and when they have nothing to do (own).
use Rattle.std.specs.Prelude.{ℕ, ◌==◌, Bool, true, false, not, ◌&&◌, ◌||◌, List, [], ◌∷◌, ◌++◌, length, Option, Some, None, if◌then◌else◌}
use Rattle.addr_translate.specs.Maps.{Mapping}
use Rattle.channel_bus.specs.Sides.{EndState}
use Rattle.lane_model.specs.Links.{LinkState}
use Rattle.lane_model.specs.declared.calls.Wish.{Wish}
use Rattle.lane_model.specs.declared.calls.Wish.TheVariants as wish
use Rattle.remote_core.specs.Works.{work_of, after_work}
use Rattle.remote_core.specs.declared.workers.Work.{Work}
use Rattle.remote_core.specs.declared.workers.Work.TheVariants as work
use Rattle.link_bench.specs.declared.benches.Reach.{Reach}
use Rattle.link_bench.specs.declared.benches.Reach.TheVariants as reach
use Rattle.link_bench.specs.Benches.{BenchState, BenchWalk, HoldsTaken, is_in_call, advance_walk, counts_of, start_walk}
use Rattle.core_actors.specs.declared.actors.Actor.{Actor}
use Rattle.core_actors.specs.declared.progress.DriveOutcome.{DriveOutcome}
use Rattle.core_actors.specs.declared.progress.DriveOutcome.TheVariants as driven
use Rattle.core_actors.specs.Actors.{ActorsState, other_actor}
use Rattle.core_actors.specs.ActorEnds.{actors_after_drivers, host_after_call, message_of, worker_after_call}

-- where a step ended a call that was handed a message, the call's caller holds its buffer and is in no call
abbrev pub HoldsDrivenTaken : LinkState EndState → DriveOutcome → Type 0
HoldsDrivenTaken link driven.Idle = Unit {0}
HoldsDrivenTaken link driven.Stepped = Unit {0}
HoldsDrivenTaken link (driven.Ended caller end) = HoldsTaken link caller end
HoldsDrivenTaken link (driven.Worker fault closed) = Unit {0}
HoldsDrivenTaken link (driven.Crashed kind closed) = Unit {0}

-- whether a step found that there was nothing to do
abbrev pub is_rest : DriveOutcome → Bool
is_rest driven.Idle = true
is_rest other = false

-- what a step does on the link: a call under way goes on by one step, else one begins and does its first
abbrev pub link_step : BenchState → ℕ → Wish → BenchWalk
link_step bench caller wanted = if is_in_call bench caller then advance_walk bench 0 0 caller else start_walk bench 0 caller wanted

-- the first call, or a take where there is none
abbrev pub first_or_take : List Wish → Wish
first_or_take [] = wish.Take
first_or_take (first ∷ later) = first

abbrev pub is_empty : List Wish → Bool
is_empty calls = length calls == 0

-- the host actor as it makes its step: without a call it begins a take
abbrev pub host_at_step_as : Bool → ActorsState → ActorsState
host_at_step_as in_call actors = if in_call then actors else record actors { is_taking = is_empty actors.host_calls }

abbrev pub host_at_step : BenchState → ActorsState → ActorsState
host_at_step bench actors = host_at_step_as (is_in_call bench 0) actors

-- the host actor, by how far its call came
abbrev pub host_after_step : ActorsState → BenchState → Reach → ActorsState
host_after_step actors bench (reach.Ended end) = actors_after_drivers (host_after_call actors end) (message_of bench 0 end) end
host_after_step actors bench goes_on = actors

-- what a step on the link was
abbrev pub drive_of_reach : ℕ → Reach → DriveOutcome
drive_of_reach caller (reach.Ended end) = driven.Ended caller end
drive_of_reach caller goes_on = driven.Stepped

-- the worker, by how far its call came
abbrev pub worker_after_step : ActorsState → BenchState → Reach → ActorsState
worker_after_step actors bench (reach.Ended end) = worker_after_call actors (message_of bench 1 end) end
worker_after_step actors bench goes_on = actors

-- the call that a record asks for, if it asks for one
abbrev pub wishes_of_work : Work → List Wish
wishes_of_work (work.Ask wanted) = wanted ∷ []
wishes_of_work work.Nothing = []
wishes_of_work work.Halted = []
wishes_of_work (work.Crash kind) = []
wishes_of_work (work.Fault fault) = []

-- what the step of a record was; it has closed no link yet
abbrev pub drive_of_work : Work → DriveOutcome
drive_of_work work.Nothing = driven.Stepped
drive_of_work (work.Ask wanted) = driven.Stepped
drive_of_work work.Halted = driven.Stepped
drive_of_work (work.Crash kind) = driven.Crashed kind None
drive_of_work (work.Fault fault) = driven.Worker fault None

-- the actors once the worker ran a record of this memory
abbrev pub actors_after_record : ActorsState → List ℕ → Mapping → Bool → ActorsState
actors_after_record actors memory map linked = record actors {
  worker = after_work memory map linked actors.worker;
  worker_calls = actors.worker_calls ++ wishes_of_work (work_of memory map linked actors.worker);
}

-- whether the worker makes a call: one is under way, or is yet to be made
abbrev pub has_calls : Option BenchState → ActorsState → Bool
has_calls None actors = false
has_calls (Some bench) actors = is_in_call bench 1 || not (is_empty actors.worker_calls)

-- whether each message of a lane was handed over
abbrev pub is_drained : BenchState → ℕ → Bool
is_drained bench lane = let counts = counts_of bench lane in counts.0 == counts.1

-- whether the host actor begins no call: it has none to make and no message waits
abbrev pub host_waits : BenchState → ActorsState → Bool
host_waits bench actors = is_empty actors.host_calls && is_drained bench 0

-- whether the host actor has nothing to do: it is in no call, and begins none
abbrev pub host_is_idle : Option BenchState → ActorsState → Bool
host_is_idle None actors = true
host_is_idle (Some bench) actors = not (is_in_call bench 0) && host_waits bench actors

-- whether a call is a take
abbrev pub is_take : Wish → Bool
is_take wish.Take = true
is_take (wish.Send message) = false
is_take (wish.Give number) = false
is_take (wish.Bind address) = false
is_take (wish.Unbind address) = false

-- whether the first call is a take
abbrev pub begins_with_take : List Wish → Bool
begins_with_take [] = false
begins_with_take (first ∷ later) = is_take first

-- whether the worker begins no call and runs no record: it has ended, or its first call is a take of which there is no message
abbrev pub worker_waits : BenchState → ActorsState → Bool
worker_waits bench actors = actors.worker.is_halted || (begins_with_take actors.worker_calls && is_drained bench 1)

-- whether the worker has nothing to do: it is in no call, and begins none and runs no record
abbrev pub worker_is_idle : Option BenchState → ActorsState → Bool
worker_is_idle None actors = actors.worker.is_halted
worker_is_idle (Some bench) actors = not (is_in_call bench 1) && worker_waits bench actors

-- the actors where the turn after this one's step is the other's
abbrev pub with_next_after : Actor → ActorsState → ActorsState
with_next_after actor actors = record actors { next = other_actor actor }
