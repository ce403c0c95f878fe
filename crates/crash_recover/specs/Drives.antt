-- What a drive of a core does, step by step: whose turn it is, and what the step leaves of the core (own).
use Rattle.std.specs.Prelude.{Bool, ◌&&◌, ◌||◌, List, Option, Some, None, is_none, is_some, if◌then◌else◌}
use Rattle.memory_pool.specs.Regions.{memory_len}
use Rattle.memory_pool.specs.declared.regions.Region.{Region}
use Rattle.addr_translate.specs.Mapped.{mapped_blocks}
use Rattle.addr_translate.specs.Maps.{Mapping}
use Rattle.remote_core.specs.Works.{work_of, memory_after}
use Rattle.link_bench.specs.Benches.{BenchState, BenchWalk}
use Rattle.core_actors.specs.declared.actors.Actor.{Actor}
use Rattle.core_actors.specs.declared.actors.Actor.TheVariants as actor
use Rattle.core_actors.specs.declared.progress.DriveOutcome.{DriveOutcome}
use Rattle.core_actors.specs.declared.progress.DriveOutcome.TheVariants as driven
use Rattle.core_actors.specs.Actors.{ActorsState, other_actor}
use Rattle.core_actors.specs.ActorSteps.{actors_after_record, drive_of_reach, drive_of_work, first_or_take, has_calls, host_after_step, host_at_step, host_is_idle, link_step, with_next_after, worker_after_step, worker_is_idle}
use Rattle.crash_recover.specs.Cores.{CoreState, LoadState}
use Rattle.crash_recover.specs.CoreCrashes.{after_report, link_incarnation}

-- ---- one step

-- a step of a core's actors, and what it was
pub record DriveStep : Type 0 where
  pub core : CoreState
  pub driven : DriveOutcome

-- a step of the host actor on a core's link
abbrev pub host_walk_step : CoreState → BenchWalk → ActorsState → DriveStep
host_walk_step core walk actors = record {
  core = record core { bench = Some walk.bench; actors = host_after_step actors walk.bench walk.reach };
  driven = drive_of_reach 0 walk.reach;
}

abbrev pub host_step_on : CoreState → BenchState → DriveStep
host_step_on core bench = host_walk_step core (link_step bench 0 (first_or_take core.actors.host_calls)) (host_at_step bench core.actors)

-- the same of a core that may have no link, where there is no host actor
abbrev pub host_step : CoreState → Option BenchState → DriveStep
host_step core None = record { core = core; driven = driven.Idle }
host_step core (Some bench) = host_step_on core bench

-- a step of the worker on a core's link
abbrev pub worker_walk_step : CoreState → BenchWalk → DriveStep
worker_walk_step core walk = record {
  core = record core { bench = Some walk.bench; actors = worker_after_step core.actors walk.bench walk.reach };
  driven = drive_of_reach 1 walk.reach;
}

-- the map of what was placed among regions
abbrev pub placed_map : List Region → LoadState → Mapping
placed_map regions load = record { blocks = mapped_blocks regions load.placed; memory_len = memory_len regions }

-- the core, of which a step of the worker may have reported a crash
abbrev pub core_with_report : DriveOutcome → CoreState → CoreState
core_with_report driven.Idle core = core
core_with_report driven.Stepped core = core
core_with_report (driven.Ended caller end) core = core
core_with_report (driven.Worker fault closed) core = after_report core
core_with_report (driven.Crashed kind closed) core = after_report core

-- the step with the incarnation that the report closed: the core was up, so its link was open
abbrev pub driven_with_report : DriveOutcome → CoreState → DriveOutcome
driven_with_report driven.Idle core = driven.Idle
driven_with_report driven.Stepped core = driven.Stepped
driven_with_report (driven.Ended caller end) core = driven.Ended caller end
driven_with_report (driven.Worker fault closed) core = driven.Worker fault (link_incarnation core.bench)
driven_with_report (driven.Crashed kind closed) core = driven.Crashed kind (link_incarnation core.bench)

-- the core then
abbrev pub after_record : CoreState → LoadState → Mapping → CoreState
after_record core load map = record core {
  loaded = Some (record load { memory = memory_after load.memory map (is_some core.bench) core.actors.worker });
  actors = actors_after_record core.actors load.memory map (is_some core.bench);
}

-- a record that the worker runs by a map of the core's memory
abbrev pub run_by : CoreState → LoadState → Mapping → DriveStep
run_by core load map = record {
  core = after_record core load map;
  driven = drive_of_work (work_of load.memory map (is_some core.bench) core.actors.worker);
}

-- the same by the map of what was placed; without memory there is no worker
abbrev pub record_run : CoreState → Option LoadState → DriveStep
record_run core None = record { core = core; driven = driven.Idle }
record_run core (Some load) = run_by core load (placed_map core.regions load)

-- the same, with a crash reported
abbrev pub step_with_report : DriveStep → DriveStep
step_with_report step = record { core = core_with_report step.driven step.core; driven = driven_with_report step.driven step.core }

abbrev pub record_step : CoreState → DriveStep
record_step core = step_with_report (record_run core core.loaded)

-- a step of the worker on the link of a core
abbrev pub worker_call : CoreState → Option BenchState → DriveStep
worker_call core None = record { core = core; driven = driven.Idle }
worker_call core (Some bench) = worker_walk_step core (link_step bench 1 (first_or_take core.actors.worker_calls))

-- a step of the worker: on the link where it makes a call, else it runs a record
abbrev pub worker_step : CoreState → DriveStep
worker_step core = if has_calls core.bench core.actors then worker_call core core.bench else record_step core

-- a step of an actor
abbrev pub actor_step : Actor → CoreState → DriveStep
actor_step actor.Host core = host_step core core.bench
actor_step actor.Worker core = worker_step core

-- ---- whose turn

-- whether an actor has nothing to do; the worker of a core without memory has not
abbrev pub is_idle_actor : CoreState → Actor → Bool
is_idle_actor core actor.Host = host_is_idle core.bench core.actors
is_idle_actor core actor.Worker = is_none core.loaded || worker_is_idle core.bench core.actors

-- whether both actors have nothing to do
abbrev pub is_idle : CoreState → Bool
is_idle core = is_idle_actor core actor.Host && is_idle_actor core actor.Worker

-- the actor that makes the next step: the one whose turn it is, or the other where that is idle
abbrev pub actor_to_step : CoreState → Actor
actor_to_step core = if is_idle_actor core core.actors.next then other_actor core.actors.next else core.actors.next

-- the core where the turn after an actor's step is the other's
abbrev pub with_turn_after : Actor → CoreState → CoreState
with_turn_after actor core = record core { actors = with_next_after actor core.actors }

-- a step of an actor that may have nothing to do
abbrev pub step_or_rest : Actor → CoreState → DriveStep
step_or_rest actor core =
    if is_idle_actor core actor then record { core = core; driven = driven.Idle }
    else actor_step actor (with_turn_after actor core)

-- one step of the actors of a core
abbrev pub drive_step : CoreState → DriveStep
drive_step core =
    if is_idle core then record { core = core; driven = driven.Idle }
    else actor_step (actor_to_step core) (with_turn_after (actor_to_step core) core)
