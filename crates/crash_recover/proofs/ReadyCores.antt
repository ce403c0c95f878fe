-- What is done to a core leaves its link ready for its actors' next steps: a start, a crash, a recovery, acts of others and steps of the actors.
use Rattle.std.proofs.Common.{◌≡◌, ◌<◌, ℕ, Bool, true, false, List, [], Option, Some, None, IfSome, Result, Ok, Err, OnOk, OnErr, option_map, refl, sym, ap, subst, ◌∙◌}
use Rattle.std.proofs.lemmas.Bool.{false≢true, or_parts}
use Rattle.rp_base.specs.declared.kinds.End.{End}
use Rattle.rp_base.specs.declared.kinds.LifeState.{LifeState}
use Rattle.addr_translate.specs.Maps.{Mapping}
use Rattle.fw_load.specs.declared.rings.RingPair.{RingPair}
use Rattle.proc_state.specs.Lives.{CoreLife, is_up, recovery_fault}
use Rattle.proc_state.proofs.Recoveries.{crashed_life}
use Rattle.lane_model.specs.declared.calls.Wish.{Wish}
use Rattle.lane_model.specs.declared.recoveries.ReclaimRefusal.{ReclaimRefusal}
use Rattle.lane_model.specs.Links.{end_of, free_number}
use Rattle.lane_model.specs.Recoveries.{link_reclaim_refusal}
use Rattle.link_bench.specs.declared.acts.LinkAct.{LinkAct}
use Rattle.link_bench.specs.declared.benches.BegunCall.{BegunCall}
use Rattle.link_bench.specs.declared.benches.Reach.{Reach}
use Rattle.link_bench.specs.declared.benches.Reach.TheVariants as reach
use Rattle.link_bench.specs.Acts.{IsFitAct, link_act}
use Rattle.link_bench.specs.BenchCrashes.{after_reopen, reclaim_leaves}
use Rattle.link_bench.specs.Benches.{AreFitCalls, BenchState, advance_fault, advance_walk, begun_call_of, is_in_call, link_in, step_fault, with_begun_call, with_new_caller}
use Rattle.link_bench.specs.BenchEnds.{bench_to_reopen, crashed_bench, with_new_host_unless}
use Rattle.link_bench.specs.Watchers.{watcher_after}
use Rattle.link_bench.proofs.CrashWalks.{crash_walk, remote_walk}
use Rattle.core_actors.specs.Actors.{ActorsState, driver_names}
use Rattle.core_actors.specs.ActorEnds.{actors_after_end, message_of}
use Rattle.core_actors.specs.ActorSteps.{actors_after_record, has_calls}
use Rattle.core_actors.specs.PendingCalls.{AreGivable, AreReady, HasNoneBegun, IsReadyBench, give_numbers}
use Rattle.core_actors.proofs.ReadyOthers.{advance_ready, begun_ready, reclaim_begun, reclaim_ready, record_bench, seen_ready}
use Rattle.core_actors.proofs.ReadyParts.{act_stands, advance_none, begun_none, reclaim_none}
use Rattle.crash_recover.specs.CoreBoots.{core_bench, started_core}
use Rattle.crash_recover.specs.CoreCrashes.{crashed_core}
use Rattle.crash_recover.specs.CoreRecoveries.{after_recovery, core_to_reopen}
use Rattle.crash_recover.specs.Cores.{CoreState, IsReadyCore, LoadState, loaded_rings}
use Rattle.crash_recover.specs.KeptCores.{IsKeptBench, IsReadyLink}
use Rattle.crash_recover.proofs.SameLives.{IsSame, IsStopped}

-- ---- a crash

crash_begun : (bench : BenchState) → HasNoneBegun bench → HasNoneBegun (crashed_bench bench)
crash_begun bench is =
    crash_walk HasNoneBegun (remote_walk HasNoneBegun reclaim_begun (λ left gone. record { host = gone.host; worker = gone.worker })) bench (record { host = is.host; worker = is.worker })

pub map_begun : (found : Option BenchState) (f : BenchState → BenchState) → ((bench : BenchState) → HasNoneBegun bench → HasNoneBegun (f bench)) → IfSome found HasNoneBegun
    → IfSome (option_map f found) HasNoneBegun
map_begun None f each is = tt
map_begun (Some bench) f each is = each bench is

-- the link of a core that is up no more
pub crash_readies : (state : LifeState) (actors : ActorsState) (bench : BenchState) → is_up state ≡ false → HasNoneBegun bench → IsReadyLink state actors (Some (crashed_bench bench))
crash_readies state actors bench down is = record { begun = crash_begun bench is; calls = λ running. absurd (false≢true (sym down ∙ running)) }

-- a core that has crashed makes no call
pub crashed_ready : (core : CoreState) (life : CoreLife) → IsStopped core.life life → IsReadyCore core → IsReadyCore (crashed_core life core)
crashed_ready core life stops is = record {
  begun = map_begun core.bench crashed_bench crash_begun is.begun;
  calls = λ running. absurd (false≢true (sym stops.stopped ∙ running));
}

-- ---- starts and recoveries

made_begun : (names : List (List ℕ)) (book first : ℕ) (rings : RingPair) → HasNoneBegun (core_bench names book first rings)
unfolding core_bench
made_begun names book first rings = record { host = refl; worker = refl }

made_ready : (actors : ActorsState) (names : List (List ℕ)) (book first : ℕ) (rings : RingPair) → actors.host_calls ≡ [] → actors.worker_calls ≡ [] → IsReadyBench actors (core_bench names book first rings)
unfolding core_bench
made_ready actors names book first rings none_host none_worker = record {
  host = record { sends = tt; receives = record { own = λ _. tt; other = λ _. subst (λ (calls : List Wish). AreGivable [] 0 (give_numbers calls)) (sym none_host) tt } };
  worker = record { sends = tt; receives = record { own = λ _. tt; other = λ _. subst (λ (calls : List Wish). AreGivable [] 1 (give_numbers calls)) (sym none_worker) tt } };
}

rings_begun : (names : List (List ℕ)) (book first : ℕ) (rings : Option RingPair) → IfSome (option_map (core_bench names book first) rings) HasNoneBegun
rings_begun names book first None = tt
rings_begun names book first (Some rings) = made_begun names book first rings

rings_ready : (actors : ActorsState) (names : List (List ℕ)) (book first : ℕ) (rings : Option RingPair) → actors.host_calls ≡ [] → actors.worker_calls ≡ []
    → IfSome (option_map (core_bench names book first) rings) (IsReadyBench actors)
rings_ready actors names book first None none_host none_worker = tt
rings_ready actors names book first (Some rings) none_host none_worker = made_ready actors names book first rings none_host none_worker

-- a new link, of actors without calls
pub started_link : (state : LifeState) (actors : ActorsState) (names : List (List ℕ)) (book first : ℕ) (rings : Option RingPair) → actors.host_calls ≡ [] → actors.worker_calls ≡ []
    → IsReadyLink state actors (option_map (core_bench names book first) rings)
started_link state actors names book first rings none_host none_worker =
    record { begun = rings_begun names book first rings; calls = λ _. rings_ready actors names book first rings none_host none_worker }

renewed_begun : (bench : BenchState) (why : Option ReclaimRefusal) → HasNoneBegun bench → HasNoneBegun (with_new_host_unless bench why)
renewed_begun bench None is = let gone = reclaim_begun bench 0 is in record { host = gone.host; worker = gone.worker }
renewed_begun bench (Some why) is = is

-- the link that a reopening finds
pub readied_link : (life : CoreLife) (actors : ActorsState) (found : Option BenchState) → recovery_fault life ≡ None → IsReadyLink life.state actors found
    → IsReadyLink life.state actors (option_map bench_to_reopen found)
readied_link life actors found may is = record {
  begun = map_begun found bench_to_reopen (λ bench one. renewed_begun bench (link_reclaim_refusal (link_in bench) 0) one) is.begun;
  calls = λ running. absurd (false≢true (sym (ap is_up (crashed_life life may)) ∙ running));
}

pub readied_ready : (core : CoreState) → recovery_fault core.life ≡ None → IsReadyCore core → IsReadyCore (core_to_reopen core)
readied_ready core may is = readied_link core.life core.actors core.bench may is

reopened_calls : (actors : ActorsState) (found : Option BenchState) → actors.host_calls ≡ [] → actors.worker_calls ≡ []
    → IfSome (option_map (λ bench. after_reopen (bench_to_reopen bench)) found) (IsReadyBench actors)
reopened_calls actors None none_host none_worker = tt
reopened_calls actors (Some bench) none_host none_worker = record {
  host = record { sends = tt; receives = record { own = λ _. tt; other = λ _. subst (λ (calls : List Wish). AreGivable [] 0 (give_numbers calls)) (sym none_host) tt } };
  worker = record { sends = tt; receives = record { own = λ _. tt; other = λ _. subst (λ (calls : List Wish). AreGivable [] 1 (give_numbers calls)) (sym none_worker) tt } };
}

-- a link that is reopened, of actors without calls
pub reopened_link : (before after : LifeState) (was actors : ActorsState) (found : Option BenchState) → actors.host_calls ≡ [] → actors.worker_calls ≡ [] → IsReadyLink before was found
    → IsReadyLink after actors (option_map (λ bench. after_reopen (bench_to_reopen bench)) found)
reopened_link before after was actors found none_host none_worker is = record {
  begun = map_begun found (λ bench. after_reopen (bench_to_reopen bench))
      (λ bench one. let renewed = renewed_begun bench (link_reclaim_refusal (link_in bench) 0) one in record { host = renewed.host; worker = renewed.worker }) is.begun;
  calls = λ _. reopened_calls actors found none_host none_worker;
}

pub recovery_ready : (core : CoreState) (given : LoadState) → IsReadyCore core → IsReadyCore (after_recovery core given)
recovery_ready core given is = reopened_link core.life.state (after_recovery core given).life.state core.actors (after_recovery core given).actors core.bench refl refl is

pub started_ready : (core : CoreState) (life : CoreLife) → IsReadyCore (started_core life core)
started_ready core life = started_link life.state (started_core life core).actors (driver_names core.actors) core.book life.incarnation (loaded_rings core.loaded) refl refl

-- ---- others than the actors

-- the link that there is, and where a life goes on as it is
pub same_ready : (before after : CoreLife) (actors : ActorsState) (found : Option BenchState) → IsSame before after → IsReadyLink before.state actors found → IsReadyLink after.state actors found
same_ready before after actors found same is = record { begun = is.begun; calls = λ running. is.calls (sym same.up ∙ running) }

-- a new caller
pub joined_ready : (state : LifeState) (actors : ActorsState) (bench : BenchState) (end : End) → IsReadyLink state actors (Some bench)
    → IsReadyLink state actors (Some (with_new_caller bench end (free_number (link_in bench).callers)))
joined_ready state actors bench end is = record { begun = record { host = is.begun.host; worker = is.begun.worker }; calls = λ up. let one = is.calls up in record { host = one.host; worker = one.worker } }

-- a call that is begun
pub begins_ready : (state : LifeState) (actors : ActorsState) (bench : BenchState) (caller : ℕ) (call : BegunCall) → 1 < caller → IsReadyLink state actors (Some bench)
    → IsReadyLink state actors (Some (with_begun_call bench caller (Some call)))
begins_ready state actors bench caller call other is =
    record { begun = begun_none bench caller call other is.begun; calls = λ up. (begun_ready actors bench caller other is.begun (is.calls up) call).1 }

-- a reclaim
pub reclaims_ready : (state : LifeState) (actors : ActorsState) (bench : BenchState) (caller : ℕ) → 1 < caller → IsReadyLink state actors (Some bench)
    → IsReadyLink state actors (Some (reclaim_leaves bench caller (link_reclaim_refusal (link_in bench) caller)))
reclaims_ready state actors bench caller other is = record {
  begun = reclaim_none bench caller (end_of (link_in bench).callers caller) (link_reclaim_refusal (link_in bench) caller) is.begun;
  calls = λ up. (reclaim_ready actors bench caller other is.begun (is.calls up)).1;
}

watched_ready : (actors : ActorsState) (bench : BenchState) (caller : ℕ) (came : Reach) → IsReadyBench actors bench → IsReadyBench (watcher_after actors_after_end bench caller came actors) bench
watched_ready actors bench caller (reach.At step) is = is
watched_ready actors bench caller reach.Limit is = is
watched_ready actors bench caller (reach.Ended ended) is = seen_ready actors bench (message_of bench caller ended) ended (end_of (link_in bench).callers caller) is

in_call_at : (found : Option End) (in_call : Bool) → advance_fault found in_call ≡ None → in_call ≡ true
in_call_at None in_call none = absurd (cc)
in_call_at (Some end) true none = refl
in_call_at (Some end) false none = absurd (cc)

-- a step of a call, of which the drivers see the end
pub advances_ready : (state : LifeState) (actors : ActorsState) (bench : BenchState) (caller : ℕ) → 1 < caller → AreFitCalls (link_in bench) bench.begun → step_fault bench caller ≡ None
    → IsReadyLink state actors (Some bench)
    → let walk = advance_walk bench 0 0 caller in IsReadyLink state (watcher_after actors_after_end walk.bench caller walk.reach actors) (Some walk.bench)
advances_ready state actors bench caller other fit may is =
    let walk = advance_walk bench 0 0 caller in
    let in_call = in_call_at (end_of (link_in bench).callers caller) (is_in_call bench caller) may in
    record {
      begun = advance_none bench 0 0 caller (begun_call_of bench caller) is.begun;
      calls = λ up. watched_ready actors walk.bench caller walk.reach (advance_ready actors bench caller other is.begun (is.calls up) 0 0 fit in_call).1;
    }

-- an act of others
pub act_ready : (state : LifeState) (actors : ActorsState) (bench : BenchState) (steps : ℕ) (asked : LinkAct (List ℕ)) → IsFitAct asked → AreFitCalls (link_in bench) bench.begun
    → IsReadyLink state actors (Some bench) → let left = link_act actors_after_end 2 bench actors steps asked in IsReadyLink state left.watcher (Some left.bench)
act_ready state actors bench steps asked fit calls is =
    let left = act_stands (is_up state ≡ true) bench actors steps asked fit (record { fit = calls; begun = is.begun; calls = is.calls }) in
    record { begun = left.begun; calls = left.calls }

-- ---- steps of the actors

-- a step that left actors ready who were ready, or failed and left all as it was
pub step_ready : {A E : Type 0} (state : LifeState) (actors acted : ActorsState) (before after : BenchState) (answer : Result A E) → OnOk answer (AreReady acted after) → OnErr answer (after ≡ before)
    → OnErr answer (acted ≡ actors) → IsReadyLink state actors (Some before) → IsReadyLink state acted (Some after)
step_ready state actors acted before after (Ok done) ready same unchanged is = record { begun = ready.begun; calls = λ up. ready.calls }
step_ready state actors acted before after (Err why) ready same unchanged is =
    subst (λ (now : ActorsState). IsReadyLink state now (Some after)) (sym unchanged) (subst (λ (bench : BenchState). IsReadyLink state actors (Some bench)) (sym same) is)

-- a core that is up has actors who may make their steps
pub ready_now : (state : LifeState) (actors : ActorsState) (bench : BenchState) → is_up state ≡ true → IsReadyLink state actors (Some bench) → AreReady actors bench
ready_now state actors bench up is = record { begun = is.begun; calls = is.calls up }

-- ---- a record

pub found_record : (actors : ActorsState) (memory : List ℕ) (map : Mapping) (linked : Bool) (life : CoreLife) (found : Option BenchState) → has_calls found actors ≡ false
    → IfSome found (IsKeptBench life) → IfSome found (IsReadyBench actors) → IfSome found (IsReadyBench (actors_after_record actors memory map linked))
found_record actors memory map linked life None none kept ready = tt
found_record actors memory map linked life (Some bench) none kept ready =
    record_bench actors memory map linked bench kept.own (or_parts (is_in_call bench 1) _ none).0 ready
