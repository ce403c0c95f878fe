-- What is done on the link of a core keeps what it keeps, and so does a life that goes on.
use Rattle.std.proofs.Common.{◌≡◌, ◌<◌, ℕ, ◌+◌, true, List, Option, Some, None, IfSome, option_map, refl, sym, ap, subst, ◌∙◌, arith}
use Rattle.std.proofs.lemmas.Bool.{cond_both}
use Rattle.rp_base.specs.declared.kinds.End.{End}
use Rattle.rp_base.specs.declared.kinds.End.TheVariants as side
use Rattle.proc_state.specs.Lives.{CoreLife, is_up}
use Rattle.fw_load.specs.declared.rings.RingPair.{RingPair}
use Rattle.lane_model.specs.declared.calls.Wish.{Wish}
use Rattle.lane_model.specs.declared.recoveries.ReclaimRefusal.{ReclaimRefusal}
use Rattle.lane_model.specs.Links.{end_of, free_number}
use Rattle.lane_model.specs.Recoveries.{link_reclaim_refusal}
use Rattle.lane_model.proofs.Others.{stays_in_use}
use Rattle.link_bench.specs.BenchCrashes.{after_reopen, reclaim_leaves, reclaim_leaves_at}
use Rattle.link_bench.specs.Benches.{BenchState, BenchWalk, advance_walk, is_in_call, link_in, start_walk, with_new_caller}
use Rattle.crash_recover.specs.CoreBoots.{core_bench}
use Rattle.link_bench.specs.BenchEnds.{bench_to_reopen, with_new_host_unless}
use Rattle.crash_recover.specs.CoreRecoveries.{after_recovery, core_to_reopen, next_life, reopen_fault, reopened_core, with_next_life}
use Rattle.crash_recover.specs.Cores.{CoreState, IsKeptCore, LoadState}
use Rattle.core_actors.specs.ActorSteps.{link_step}
use Rattle.link_bench.specs.declared.acts.LinkAct.{LinkAct}
use Rattle.link_bench.specs.ActParts.{Advances, Begins, Calls, Joins, Reclaims, Sees}
use Rattle.link_bench.specs.Acts.{link_act}
use Rattle.link_bench.proofs.ActParts.{KeptByParts}
use Rattle.link_bench.proofs.ActWalks.{AnyWish, act_kept, any_calls}
use Rattle.core_actors.specs.Actors.{ActorsState}
use Rattle.core_actors.specs.ActorEnds.{actors_after_end}
use Rattle.crash_recover.specs.KeptCores.{IsKeptBench}
use Rattle.crash_recover.proofs.KeptCrashes.{gone_kept, host_renewed}
use Rattle.crash_recover.proofs.KeptLinks.{advance_kept, start_kept, whole_kept}
use Rattle.crash_recover.proofs.Restarts.{restarts}
use Rattle.crash_recover.proofs.SameLives.{IsSame}

-- ---- other callers

-- a new caller
pub caller_kept : (life : CoreLife) (bench : BenchState) (end : End) → IsKeptBench life bench → IsKeptBench life (with_new_caller bench end (free_number (link_in bench).callers))
caller_kept life bench end is = record {
  unmanaged = record { to_host = is.unmanaged.to_host; to_remote = is.unmanaged.to_remote };
  own = record { host = stays_in_use (link_in bench).callers end 0 side.Host is.own.host; remote = stays_in_use (link_in bench).callers end 1 side.Remote is.own.remote };
  inc = is.inc;
  live = is.live;
}

reclaim_at : (life : CoreLife) (bench : BenchState) (caller : ℕ) (end : Option End) (why : Option ReclaimRefusal) → 1 < caller → IsKeptBench life bench
    → IsKeptBench life (reclaim_leaves_at bench caller end why)
reclaim_at life bench caller (Some end) None other is = gone_kept life bench caller (λ same. omega (arith, other, same)) (λ same. omega (arith, other, same)) is
reclaim_at life bench caller (Some end) (Some why) other is = is
reclaim_at life bench caller None why other is = is

-- a reclaim of another caller than the core's own
pub reclaim_kept : (life : CoreLife) (bench : BenchState) (caller : ℕ) → 1 < caller → IsKeptBench life bench
    → IsKeptBench life (reclaim_leaves bench caller (link_reclaim_refusal (link_in bench) caller))
reclaim_kept life bench caller other is = reclaim_at life bench caller (end_of (link_in bench).callers caller) (link_reclaim_refusal (link_in bench) caller) other is

-- ---- lives

made_kept : (life : CoreLife) (names : List (List ℕ)) (book : ℕ) (rings : RingPair) → is_up life.state ≡ true → IsKeptBench life (core_bench names book life.incarnation rings)
unfolding core_bench
made_kept life names book rings up = record {
  unmanaged = record { to_host = record { sender = tt; receiver = tt }; to_remote = record { sender = tt; receiver = tt } };
  own = record { host = refl; remote = refl };
  inc = refl;
  live = sym up;
}

-- the link of a core that is started, where there are rings
pub rings_kept : (life : CoreLife) (names : List (List ℕ)) (book : ℕ) (rings : Option RingPair) → is_up life.state ≡ true
    → IfSome (option_map (core_bench names book life.incarnation) rings) (IsKeptBench life)
rings_kept life names book None up = tt
rings_kept life names book (Some rings) up = made_kept life names book rings up

-- a link is kept in each life of the same incarnation that is up where the one before is
same_life : (before after : CoreLife) (bench : BenchState) → IsSame before after → IsKeptBench before bench → IsKeptBench after bench
same_life before after bench same is = record { unmanaged = is.unmanaged; own = is.own; inc = is.inc ∙ sym same.inc; live = is.live ∙ sym same.up }

pub found_same : (before after : CoreLife) (found : Option BenchState) → IsSame before after → IfSome found (IsKeptBench before) → IfSome found (IsKeptBench after)
found_same before after None same is = tt
found_same before after (Some bench) same is = same_life before after bench same is

-- ---- a crash and a recovery

-- what is done on a link, where there is one
pub map_kept : (before after : CoreLife) (found : Option BenchState) (f : BenchState → BenchState) → ((bench : BenchState) → IsKeptBench before bench → IsKeptBench after (f bench))
    → IfSome found (IsKeptBench before) → IfSome (option_map f found) (IsKeptBench after)
map_kept before after None f each is = tt
map_kept before after (Some bench) f each is = each bench is

ready_at : (life : CoreLife) (bench : BenchState) (why : Option ReclaimRefusal) → IsKeptBench life bench → IsKeptBench life (with_new_host_unless bench why)
ready_at life bench None is = host_renewed life bench is
ready_at life bench (Some why) is = is

-- the link that a reopening finds
pub readied : (life : CoreLife) (bench : BenchState) → IsKeptBench life bench → IsKeptBench life (bench_to_reopen bench)
readied life bench is = ready_at life bench (link_reclaim_refusal (link_in bench) 0) is

-- the same of the link of a core
pub core_readied : (core : CoreState) → IsKeptCore core → IsKeptCore (core_to_reopen core)
core_readied core is = map_kept core.life core.life core.bench bench_to_reopen (readied core.life) is

-- a link that is reopened
opened : (life : CoreLife) (bench : BenchState) → IsKeptBench life bench → IsKeptBench (next_life life) (after_reopen bench)
opened life bench is = record {
  unmanaged = record { to_host = record { sender = tt; receiver = tt }; to_remote = record { sender = tt; receiver = tt } };
  own = is.own;
  inc = ap (λ inc. inc + 1) is.inc;
  live = refl;
}

pub core_reopened : (core : CoreState) → IsKeptCore core → IsKeptCore (with_next_life (reopened_core core))
core_reopened core is =
    map_kept core.life (next_life core.life) core.bench (λ bench. after_reopen (bench_to_reopen bench)) (λ bench one. opened core.life (bench_to_reopen bench) (readied core.life bench one)) is

-- the link of a core that is recovered
pub core_recovered : (core : CoreState) (given : LoadState) → IsKeptCore core → reopen_fault core ≡ None → IsKeptCore (after_recovery core given)
core_recovered core given is opens = subst (λ (life : CoreLife). IfSome (reopened_core core).bench (IsKeptBench life)) (sym (restarts core opens)) (core_reopened core is)

-- ---- steps and acts

-- a step of an actor
pub step_kept : (life : CoreLife) (bench : BenchState) (caller : ℕ) (wanted : Wish) → IsKeptBench life bench → IsKeptBench life (link_step bench caller wanted).bench
step_kept life bench caller wanted is =
    cond_both (is_in_call bench caller) (advance_walk bench 0 0 caller) (start_walk bench 0 caller wanted) (λ (walk : BenchWalk). IsKeptBench life walk.bench)
    (λ _. advance_kept life bench 0 0 caller is) (λ _. start_kept life bench 0 caller wanted is)

kept_part : (life : CoreLife) → KeptByParts actors_after_end 2 AnyWish (λ bench actors. IsKeptBench life bench)
kept_part life bench actors (Joins end) may is = caller_kept life bench end is
kept_part life bench actors (Begins caller wanted) may is = is
kept_part life bench actors (Calls steps caller wanted) may is = whole_kept life bench steps caller wanted is
kept_part life bench actors (Advances more steps caller) may is = advance_kept life bench more steps caller is
kept_part life bench actors (Sees caller came) may is = is
kept_part life bench actors (Reclaims caller) may is = reclaim_kept life bench caller (omega (arith, may)) is

-- an act for others than the core's own callers
pub act_keeps : (life : CoreLife) (bench : BenchState) (actors : ActorsState) (steps : ℕ) (asked : LinkAct (List ℕ)) → IsKeptBench life bench
    → IsKeptBench life (link_act actors_after_end 2 bench actors steps asked).bench
act_keeps life bench actors steps asked is =
    act_kept actors_after_end 2 AnyWish bench actors steps (λ after watcher. IsKeptBench life after) (kept_part life) asked (any_calls asked) is
