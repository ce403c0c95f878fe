-- What a step of an actor leaves of both.
use Rattle.std.proofs.Common.{◌≡◌, ℕ, Bool, true, false, cond, List, Option, Some, None, is_some, refl, sym, subst, ◌∙◌}
use Rattle.remote_core.specs.Workers.{WorkerState}
use Rattle.remote_core.specs.Works.{work_of}
use Rattle.link_bench.specs.declared.benches.Reach.{Reach}
use Rattle.link_bench.specs.declared.benches.Reach.TheVariants as reach
use Rattle.link_bench.specs.Benches.{BenchState, is_in_call}
use Rattle.core_actors.specs.Actors.{ActorsState}
use Rattle.crash_recover.specs.CoreCrashes.{after_report}
use Rattle.crash_recover.specs.Cores.{CoreState, LoadState}
use Rattle.rpmsg_header.specs.Headers.{is_whole, source_of}
use Rattle.core_actors.specs.ActorEnds.{end_answer, gives_of, is_tried_again, message_of, sends_of, taken_number, worker_after_end}
use Rattle.core_actors.specs.ActorSteps.{drive_of_work, first_or_take, has_calls, host_after_step, host_at_step_as, is_empty, link_step, wishes_of_work, worker_after_step}
use Rattle.crash_recover.specs.Drives.{after_record, host_step, placed_map, record_run, record_step, run_by, step_with_report, worker_call, worker_step}
use Rattle.core_laws.proofs.DriveWalks.{reported}
use Rattle.core_laws.proofs.Outcomes.{report_left}
use Rattle.drive_laws.specs.Places.{StaysAt}
use Rattle.drive_laws.specs.Queues.{IsQueued, IsServed, Queued}
use Rattle.drive_laws.proofs.QueueFacts.{more_behind, all_stay, host_queue, worker_queue}

-- ---- the host actor

-- the actors after a step of the host actor
pub record HostStep (before after : ActorsState) : Type 0 where
  pub next : after.next ≡ before.next
  pub worker : after.worker ≡ before.worker
  pub worker_calls : after.worker_calls ≡ before.worker_calls
  pub calls : IsQueued 1 before.host_calls after.host_calls

host_reach : (actors : ActorsState) (bench : BenchState) (far : Reach) → HostStep actors (host_after_step actors bench far)
host_reach actors bench (reach.At step) = record { next = refl; worker = refl; worker_calls = refl; calls = all_stay 1 actors.host_calls }
host_reach actors bench (reach.Ended end) = record {
  next = refl;
  worker = refl;
  worker_calls = refl;
  calls = host_queue actors.host_calls (gives_of (taken_number end)) (sends_of (end_answer actors.drivers (message_of bench 0 end) end)) actors.is_taking (is_tried_again end);
}
host_reach actors bench reach.Limit = record { next = refl; worker = refl; worker_calls = refl; calls = all_stay 1 actors.host_calls }

host_begins : (actors : ActorsState) (in_call : Bool) (bench : BenchState) (far : Reach) → HostStep actors (host_after_step (host_at_step_as in_call actors) bench far)
host_begins actors true bench far = host_reach actors bench far
host_begins actors false bench far =
    let step = host_reach (record actors { is_taking = is_empty actors.host_calls }) bench far in
    record { next = step.next; worker = step.worker; worker_calls = step.worker_calls; calls = step.calls }

pub host_steps : (core : CoreState) (found : Option BenchState) → HostStep core.actors (host_step core found).core.actors
host_steps core None = record { next = refl; worker = refl; worker_calls = refl; calls = all_stay 1 core.actors.host_calls }
host_steps core (Some bench) =
    let walk = link_step bench 0 (first_or_take core.actors.host_calls) in host_begins core.actors (is_in_call bench 0) walk.bench walk.reach

-- ---- the worker

-- the actors after a step of the worker
pub record WorkerStep (before after : ActorsState) : Type 0 where
  pub next : after.next ≡ before.next
  pub host_calls : after.host_calls ≡ before.host_calls
  pub calls : IsServed before.worker_calls after.worker_calls

-- the same of a step on the link, which leaves the worker where it stands
pub record CallStep (before after : ActorsState) : Type 0 where
  pub step : WorkerStep before after
  pub stays : StaysAt before.worker after.worker

itself : (worker : WorkerState) → StaysAt worker worker
itself worker = record { entry = refl; place = refl; turns = refl; halted = refl }

stays_at : (worker : WorkerState) (message : List ℕ) (taken : Option ℕ) → StaysAt worker (worker_after_end worker message taken)
stays_at worker message None = itself worker
stays_at worker message (Some number) = by (is_whole message)
  where
    by : (whole : Bool) → StaysAt worker (cond whole (record worker { source = source_of message }) worker)
    by true = record { entry = refl; place = refl; turns = refl; halted = refl }
    by false = itself worker

worker_reach : (actors : ActorsState) (bench : BenchState) (far : Reach) → CallStep actors (worker_after_step actors bench far)
worker_reach actors bench (reach.At step) =
    record { step = record { next = refl; host_calls = refl; calls = Queued (all_stay 1 actors.worker_calls) }; stays = itself actors.worker }
worker_reach actors bench (reach.Ended end) = record {
  step = record { next = refl; host_calls = refl; calls = worker_queue end actors.worker_calls };
  stays = stays_at actors.worker (message_of bench 1 end) (taken_number end);
}
worker_reach actors bench reach.Limit =
    record { step = record { next = refl; host_calls = refl; calls = Queued (all_stay 1 actors.worker_calls) }; stays = itself actors.worker }

pub call_steps : (core : CoreState) (found : Option BenchState) → CallStep core.actors (worker_call core found).core.actors
call_steps core None = record { step = record { next = refl; host_calls = refl; calls = Queued (all_stay 1 core.actors.worker_calls) }; stays = itself core.actors.worker }
call_steps core (Some bench) = let walk = link_step bench 1 (first_or_take core.actors.worker_calls) in worker_reach core.actors walk.bench walk.reach

-- a report of a crash leaves the actors
pub report_keeps : (core : CoreState) → (after_report core).actors ≡ core.actors
report_keeps core = report_left (λ (left : CoreState). left.actors ≡ core.actors) true core refl (λ life stops. refl)

-- the actors after a record, whatever was reported
pub record_actors : (core : CoreState) (load : LoadState) → let map = placed_map core.regions load in
    (step_with_report (run_by core load map)).core.actors ≡ (after_record core load map).actors
record_actors core load =
    let map = placed_map core.regions load in
    let left = after_record core load map in
    reported (λ (now : CoreState). now.actors ≡ left.actors) (λ now same. report_keeps now ∙ same) (drive_of_work (work_of load.memory map (is_some core.bench) core.actors.worker)) left refl

record_steps : (core : CoreState) (given : Option LoadState) → WorkerStep core.actors (step_with_report (record_run core given)).core.actors
record_steps core None = record { next = refl; host_calls = refl; calls = Queued (all_stay 1 core.actors.worker_calls) }
record_steps core (Some load) =
    subst (λ (left : ActorsState). WorkerStep core.actors left) (sym (record_actors core load)) record {
      next = refl;
      host_calls = refl;
      calls = Queued (more_behind 1 core.actors.worker_calls (wishes_of_work (work_of load.memory (placed_map core.regions load) (is_some core.bench) core.actors.worker)));
    }

pub worker_steps : (core : CoreState) → WorkerStep core.actors (worker_step core).core.actors
worker_steps core = by (has_calls core.bench core.actors)
  where
    by : (calls : Bool) → WorkerStep core.actors (cond calls (worker_call core core.bench) (record_step core)).core.actors
    by true = (call_steps core core.bench).step
    by false = record_steps core core.loaded

-- a call of the worker leaves it where it stands
pub worker_stays : (core : CoreState) → has_calls core.bench core.actors ≡ true → StaysAt core.actors.worker (worker_step core).core.actors.worker
worker_stays core calls =
    subst (λ (made : Bool). StaysAt core.actors.worker (cond made (worker_call core core.bench) (record_step core)).core.actors.worker) (sym calls) (call_steps core core.bench).stays
