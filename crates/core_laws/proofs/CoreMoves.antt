-- What the calls of a core leave of its link is reached where it was.
use Rattle.std.proofs.Common.{◌≡◌, ℕ, true, false, List, [], All, Option, Some, None, IfSome, is_some, option_map, refl, ap}
use Rattle.std.proofs.lemmas.Bool.{cond_both, true≢false}
use Rattle.rp_base.specs.declared.kinds.End.{End}
use Rattle.rp_base.specs.declared.kinds.End.TheVariants as side
use Rattle.lane_model.specs.declared.calls.Wish.{Wish}
use Rattle.lane_model.specs.declared.recoveries.ReclaimRefusal.{ReclaimRefusal}
use Rattle.lane_model.specs.Links.{end_of}
use Rattle.lane_model.specs.Recoveries.{link_reopen_refusal, link_reclaim_refusal, without_caller}
use Rattle.fw_load.specs.declared.rings.RingPair.{RingPair}
use Rattle.crash_recover.specs.declared.core_faults.StartFault.TheVariants as start_fault
use Rattle.std.proofs.lemmas.List.Elements.{All-nil}
use Rattle.memory_pool.specs.declared.regions.Region.{Region}
use Rattle.host_driver.specs.Drivers.{Declared}
use Rattle.core_actors.specs.Actors.{driver_names}
use Rattle.link_bench.specs.Benches.{BenchState, BenchWalk, IsSendable, LinkRings, advance_walk, is_in_call, link_in, on_rings, start_walk}
use Rattle.link_bench.specs.BenchCrashes.{after_reclaim, after_reopen}
use Rattle.crash_recover.specs.CoreBoots.{config_of, core_bench, fresh_end, load_in, started_core}
use Rattle.link_bench.specs.BenchEnds.{crashed_bench, with_fresh_caller, bench_to_reopen, with_new_host_unless, reopen_refusal_of, reopen_refusal_by}
use Rattle.crash_recover.specs.CoreCrashes.{after_report}
use Rattle.crash_recover.specs.CoreRecoveries.{after_recovery, core_to_reopen, fault_with, reopen_fault, reopened_core}
use Rattle.crash_recover.specs.Cores.{CoreState, LoadState, loaded_rings, new_core}
use Rattle.core_actors.specs.declared.actors.Actor.{Actor}
use Rattle.core_actors.specs.ActorSteps.{first_or_take, host_at_step, link_step}
use Rattle.core_actors.proofs.ReadyActors.{MayBegin}
use Rattle.crash_recover.specs.Drives.{drive_step, placed_map, with_turn_after}
use Rattle.core_laws.specs.DriveParts.{MayDrive}
use Rattle.core_laws.proofs.DriveWalks.{AreLeftParts, MayGoOn, drive_left, may_host, may_worker, of_link, turned_may}
use Rattle.core_laws.proofs.Outcomes.{Stays, first_none, none_mapped, report_stays}
use Rattle.proc_state.specs.declared.answers.LifeFault.{LifeFault}
use Rattle.proc_state.specs.Lives.{CoreLife}
use Rattle.core_laws.specs.BenchMoves.{IsReachedBench, IsReachedCore}
use Rattle.core_laws.proofs.ActorCalls.{first_fits, host_begun_fit, host_step_fit, ran_fit, worker_step_fit}
use Rattle.core_laws.proofs.Sendable.{any_end, sendable_calls, short_messages, work_sendable}
use Rattle.link_bench.proofs.BegunCalls.{begin_may}
use Rattle.link_bench.proofs.CrashWalks.{crash_walk, remote_walk}
use Rattle.crash_recover.proofs.KeptCrashes.{close_shut}
use Rattle.core_laws.proofs.BenchMoves.{advanced, called, closed, enlisted, new_reached, reclaimed, reopened, reclaimable_is_shut}

-- the link of a core
pub made_reached : (names : List (List ℕ)) (book first : ℕ) (rings : RingPair) → IsReachedBench (core_bench names book first rings)
unfolding core_bench
made_reached names book first rings =
    enlisted _ side.Remote (enlisted _ side.Host
    (new_reached (config_of rings book first) (fresh_end rings.service names) (fresh_end false []) (record { endpoints = refl; bindings = refl }) (record { endpoints = refl; bindings = refl })))

-- ---- a crash

-- a reached bench in a closed era
record Shut (bench : BenchState) : Type 0 where
  pub reached : IsReachedBench bench
  pub shut : (link_in bench).era.is_live ≡ false

-- a reclaim leaves the era
same_era : (link : LinkRings) (found : Option End) (caller : ℕ) → link.era.is_live ≡ false → (without_caller on_rings link found caller).era.is_live ≡ false
same_era link None caller shut = shut
same_era link (Some side.Host) caller shut = shut
same_era link (Some side.Remote) caller shut = shut

gone_shut : (bench : BenchState) (caller : ℕ) → Shut bench → Shut (after_reclaim bench caller)
gone_shut bench caller is = record {
  reached = reclaimed bench caller is.shut is.reached;
  shut = same_era bench.rings (end_of (link_in bench).callers caller) caller is.shut;
}

fresh_shut : (bench : BenchState) → Shut bench → Shut (with_fresh_caller bench side.Remote)
fresh_shut bench is = record { reached = enlisted bench side.Remote is.reached; shut = is.shut }

pub crashed : (bench : BenchState) → IsReachedBench bench → IsReachedBench (crashed_bench bench)
crashed bench reached = (crash_walk Shut (remote_walk Shut gone_shut fresh_shut) bench (record { reached = closed bench reached; shut = close_shut bench.rings })).reached

-- a core that may have no link
pub map_has : (P : BenchState → Type 0) (found : Option BenchState) (f : BenchState → BenchState) → ((bench : BenchState) → P bench → P (f bench)) → IfSome found P → IfSome (option_map f found) P
map_has P None f each is = is
map_has P (Some bench) f each is = each bench is

-- ---- a recovery

ready_at : (bench : BenchState) (why : Option ReclaimRefusal) → link_reclaim_refusal (link_in bench) 0 ≡ why → IsReachedBench bench → IsReachedBench (with_new_host_unless bench why)
ready_at bench None none reached = enlisted (after_reclaim bench 0) side.Host (reclaimed bench 0 (reclaimable_is_shut (link_in bench) 0 none) reached)
ready_at bench (Some why) is reached = reached

pub readied : (bench : BenchState) → IsReachedBench bench → IsReachedBench (bench_to_reopen bench)
readied bench reached = ready_at bench (link_reclaim_refusal (link_in bench) 0) refl reached

pub core_readied : (core : CoreState) → IsReachedCore core → IsReachedCore (core_to_reopen core)
core_readied core is = record { bench = map_has IsReachedBench core.bench bench_to_reopen readied is.bench; calls = is.calls }

clear_at : (bench : BenchState) (why : Option ReclaimRefusal) → reopen_refusal_by bench why ≡ None → link_reopen_refusal (link_in (with_new_host_unless bench why)) ≡ None
clear_at bench None clear = clear
clear_at bench (Some why) clear = absurd (true≢false (ap is_some clear))

-- where nothing keeps the link of a core from being reopened, what holds of it as it is made ready and reopened holds of it then
pub found_reopened : (P : BenchState → Type 0) (found : Option BenchState) → ((bench : BenchState) → link_reopen_refusal (link_in (bench_to_reopen bench)) ≡ None → P bench → P (after_reopen (bench_to_reopen bench)))
    → IfSome found (λ bench. reopen_refusal_of bench ≡ None) → IfSome found P → IfSome (option_map (λ bench. after_reopen (bench_to_reopen bench)) found) P
found_reopened P None each none is = is
found_reopened P (Some bench) each none is = each bench (clear_at bench (link_reclaim_refusal (link_in bench) 0) none) is

link_reopened : (found : Option BenchState) → IfSome found (λ bench. reopen_refusal_of bench ≡ None) → IfSome found IsReachedBench → IfSome (option_map (λ bench. after_reopen (bench_to_reopen bench)) found) IsReachedBench
link_reopened found none is = found_reopened IsReachedBench found (λ bench clear reached. reopened (bench_to_reopen bench) (readied bench reached) clear) none is

pub core_reopened : (core : CoreState) → IsReachedCore core → IfSome core.bench (λ bench. reopen_refusal_of bench ≡ None) → IsReachedCore (reopened_core core)
core_reopened core is none = record { bench = link_reopened core.bench none is.bench; calls = is.calls }

-- where nothing keeps a core from being started again, nothing keeps its link from being reopened
pub reopens : (found : Option BenchState) (why : Option LifeFault) → fault_with found why ≡ None → IfSome found (λ bench. reopen_refusal_of bench ≡ None)
reopens None why none = tt
reopens (Some bench) why none = none_mapped start_fault.Reopen (reopen_refusal_of bench) (first_none _ (option_map start_fault.Life why) none)

pub core_recovered : (core : CoreState) (given : LoadState) → IsReachedCore core → reopen_fault core ≡ None → IsReachedCore (after_recovery core given)
core_recovered core given is none = record { bench = link_reopened core.bench (reopens core.bench _ none) is.bench; calls = record { host = All-nil IsSendable; worker = All-nil IsSendable } }

-- ---- a boot and a shutdown

rings_reached : (names : List (List ℕ)) (book first : ℕ) (rings : Option RingPair) → IfSome (option_map (core_bench names book first) rings) IsReachedBench
rings_reached names book first None = tt
rings_reached names book first (Some rings) = made_reached names book first rings

pub started_reached : (core : CoreState) (life : CoreLife) → IsReachedCore (started_core life core)
started_reached core life = record {
  bench = rings_reached (driver_names core.actors) core.book life.incarnation (loaded_rings core.loaded);
  calls = record { host = All-nil IsSendable; worker = All-nil IsSendable };
}

-- what brought its link to where it is stays over each call of a core
pub reached_stays : Stays IsReachedCore
reached_stays = record {
  same = λ core life image loaded same load is. record { bench = is.bench; calls = is.calls };
  started = λ core life image loaded up load is. started_reached (record core { image = image; loaded = loaded }) life;
  unlinked = λ core life image loaded load is. record { bench = tt; calls = is.calls };
  crashed = λ core life stops is. record { bench = map_has IsReachedBench core.bench crashed_bench crashed is.bench; calls = is.calls };
  readied = λ core may is. core_readied core is;
  recovered = λ core found clear may opens is. core_recovered core (load_in core found) is opens;
}

pub core_reported : (core : CoreState) → IsReachedCore core → IsReachedCore (after_report core)
core_reported core is = report_stays IsReachedCore reached_stays true core is

-- a core that was never booted
pub new_core_reached : (regions : List Region) (kinds : List Declared) (book : ℕ) → IsReachedCore (new_core regions kinds book)
new_core_reached regions kinds book = record { bench = tt; calls = record { host = All-nil IsSendable; worker = All-nil IsSendable } }

-- ---- steps of the actors

step_reached : (bench : BenchState) (caller : ℕ) (calls : List Wish) → MayGoOn bench caller calls → IsReachedBench bench → IsSendable (first_or_take calls)
    → IsReachedBench (link_step bench caller (first_or_take calls)).bench
step_reached bench caller calls may reached sendable =
    cond_both (is_in_call bench caller) (advance_walk bench 0 0 caller) (start_walk bench 0 caller (first_or_take calls)) (λ (walk : BenchWalk). IsReachedBench walk.bench)
    (λ in_call. advanced bench 0 0 caller reached in_call) (λ none. called bench 0 0 caller (first_or_take calls) reached (may none) sendable)

pub first_sendable : (calls : List Wish) → All IsSendable calls → IsSendable (first_or_take calls)
first_sendable calls are = first_fits sendable_calls calls are

-- a core whose actors may make their next steps, and what brought its link to where it is
pub record StandsReady (core : CoreState) : Type 0 where
  pub may : MayDrive core
  pub reached : IsReachedCore core

-- whose turn is next is nothing to it
pub turned_stands : (who : Actor) (core : CoreState) → StandsReady core → StandsReady (with_turn_after who core)
turned_stands who core is = record {
  may = turned_may who core is.may;
  reached = record { bench = is.reached.bench; calls = record { host = is.reached.calls.host; worker = is.reached.calls.worker } };
}

module _ (core : CoreState) (bench : BenchState) (there : core.bench ≡ Some bench) (is : StandsReady core) where
  pub link_reached : IsReachedBench bench
  link_reached = of_link IsReachedBench core bench there is.reached.bench

  -- an actor in no call may do the first step of its next
  pub host_may : MayBegin bench 0 core.actors.host_calls
  host_may none = begin_may bench 0 (first_or_take core.actors.host_calls) (first_sendable core.actors.host_calls is.reached.calls.host) (may_host core bench there is.may none)

  pub worker_may : MayBegin bench 1 core.actors.worker_calls
  worker_may none = begin_may bench 1 (first_or_take core.actors.worker_calls) (first_sendable core.actors.worker_calls is.reached.calls.worker) (may_worker core bench there is.may none)

-- each part of a step of the actors leaves a core whose link is reached
pub reached_parts : AreLeftParts StandsReady IsReachedCore
reached_parts = record {
  turn = turned_stands;
  host = λ core bench there busy is.
      let calls = is.reached.calls in
      let walk = link_step bench 0 (first_or_take core.actors.host_calls) in
      let left = step_reached bench 0 core.actors.host_calls (may_host core bench there is.may) (link_reached core bench there is) (first_sendable core.actors.host_calls calls.host) in
      record {
        bench = left;
        calls = host_step_fit sendable_calls (host_at_step bench core.actors) walk.bench walk.reach (short_messages (link_in walk.bench) left.link.short) (any_end walk.reach)
            (host_begun_fit sendable_calls bench core.actors calls);
      };
  call = λ core bench there busy is.
      let calls = is.reached.calls in
      let walk = link_step bench 1 (first_or_take core.actors.worker_calls) in
      record {
        bench = step_reached bench 1 core.actors.worker_calls (may_worker core bench there is.may) (link_reached core bench there is) (first_sendable core.actors.worker_calls calls.worker);
        calls = worker_step_fit sendable_calls core.actors walk.bench walk.reach (any_end walk.reach) calls;
      };
  run = λ core load there silent busy is.
      let map = placed_map core.regions load in
      record {
        bench = is.reached.bench;
        calls = ran_fit sendable_calls core.actors load.memory map (is_some core.bench) (work_sendable load.memory map (is_some core.bench) core.actors.worker) is.reached.calls;
      };
  report = core_reported;
}

pub core_driven : (core : CoreState) → MayDrive core → IsReachedCore core → IsReachedCore (drive_step core).core
core_driven core may is = drive_left StandsReady IsReachedCore reached_parts (λ core is. is.reached) core (record { may = may; reached = is })
