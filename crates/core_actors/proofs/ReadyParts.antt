-- An act of callers leaves the actors of a core ready for their next steps: each of its parts does.
use Rattle.std.proofs.Common.{◌<◌, ◌==◌, ℕ, List, Option, Some, None, arith}
use Rattle.std.proofs.lemmas.Bool.{cond_both}
use Rattle.rp_base.specs.declared.kinds.End.{End}
use Rattle.rp_base.specs.declared.limits.TheConstants.{STEPS_MOST}
use Rattle.lane_model.specs.declared.recoveries.ReclaimRefusal.{ReclaimRefusal}
use Rattle.lane_model.specs.Links.{end_of}
use Rattle.lane_model.specs.Recoveries.{link_reclaim_refusal}
use Rattle.link_bench.specs.declared.acts.LinkAct.{LinkAct}
use Rattle.link_bench.specs.declared.benches.BegunCall.{BegunCall}
use Rattle.link_bench.specs.declared.benches.Reach.TheVariants as reach
use Rattle.link_bench.specs.ActParts.{ActPart, Advances, Begins, Calls, Joins, Reclaims, Sees, bench_after, watcher_after_part}
use Rattle.link_bench.specs.Acts.{IsFitAct, link_act}
use Rattle.link_bench.specs.BenchCrashes.{reclaim_leaves_at}
use Rattle.link_bench.specs.Benches.{AreFitCalls, BenchState, BenchWalk, IsSendable, advance_steps, bench_walk, begun_call_of, call_steps, link_in, on_rings, with_begun_call}
use Rattle.link_bench.proofs.ActParts.{KeptByParts, MayPart}
use Rattle.link_bench.proofs.ActWalks.{act_kept}
use Rattle.link_bench.proofs.FitCalls.{fit_part}
use Rattle.link_bench.proofs.SendableActs.{calls_sendable}
use Rattle.core_actors.specs.Actors.{ActorsState}
use Rattle.core_actors.specs.ActorEnds.{actors_after_end, message_of}
use Rattle.core_actors.specs.PendingCalls.{HasNoneBegun, IsReadyBench}
use Rattle.core_actors.proofs.ReadyOthers.{advance_ready, begun_ready, call_ready, cleared_begun, put_other, reclaim_begun, reclaim_ready, seen_ready}

-- the calls that are begun on a link are fit, none of them is an actor's, and while this holds the actors hold what their calls give back
pub record Stands (Up : Type 0) (bench : BenchState) (actors : ActorsState) : Type 0 where
  pub fit : AreFitCalls (link_in bench) bench.begun
  pub begun : HasNoneBegun bench
  pub calls : Up → IsReadyBench actors bench

pub advance_none : (bench : BenchState) (more steps caller : ℕ) (found : Option BegunCall) → HasNoneBegun bench → HasNoneBegun (advance_steps bench more steps caller found).bench
advance_none bench more steps caller None is = record { host = is.host; worker = is.worker }
advance_none bench more steps caller (Some call) is =
    cond_both (steps == STEPS_MOST) (record { bench = bench; steps = steps; reach = reach.Limit })
    (bench_walk (with_begun_call bench caller None) (call_steps on_rings more steps bench.rings caller call.follows call.wish))
    (λ (walk : BenchWalk). HasNoneBegun walk.bench) (λ _. is)
    (λ _. record { host = cleared_begun bench.begun caller 0 is.host; worker = cleared_begun bench.begun caller 1 is.worker })

pub reclaim_none : (bench : BenchState) (caller : ℕ) (found : Option End) (why : Option ReclaimRefusal) → HasNoneBegun bench → HasNoneBegun (reclaim_leaves_at bench caller found why)
reclaim_none bench caller (Some end) None is = reclaim_begun bench caller is
reclaim_none bench caller (Some end) (Some why) is = is
reclaim_none bench caller None why is = is

pub begun_none : (bench : BenchState) (caller : ℕ) (call : BegunCall) → 1 < caller → HasNoneBegun bench → HasNoneBegun (with_begun_call bench caller (Some call))
begun_none bench caller call other is = record {
  host = put_other bench.begun caller 0 (Some call) (λ same. absurd (omega (arith, other, same))) is.host;
  worker = put_other bench.begun caller 1 (Some call) (λ same. absurd (omega (arith, other, same))) is.worker;
}

part_begun : (bench : BenchState) (part : ActPart) → MayPart 2 IsSendable bench part → HasNoneBegun bench → HasNoneBegun (bench_after bench part)
part_begun bench (Joins end) may is = record { host = is.host; worker = is.worker }
part_begun bench (Begins caller wanted) may is = let other = may.0 in begun_none bench caller (record { follows = (link_in bench).era.inc; wish = wanted }) (omega (arith, other)) is
part_begun bench (Calls steps caller wanted) may is = record { host = is.host; worker = is.worker }
part_begun bench (Advances more steps caller) may is = advance_none bench more steps caller (begun_call_of bench caller) is
part_begun bench (Sees caller came) may is = is
part_begun bench (Reclaims caller) may is = reclaim_none bench caller (end_of (link_in bench).callers caller) (link_reclaim_refusal (link_in bench) caller) is

part_ready : (bench : BenchState) (actors : ActorsState) (part : ActPart) → MayPart 2 IsSendable bench part → AreFitCalls (link_in bench) bench.begun → HasNoneBegun bench → IsReadyBench actors bench
    → IsReadyBench (watcher_after_part actors_after_end bench actors part) (bench_after bench part)
part_ready bench actors (Joins end) may fit begun is = record { host = is.host; worker = is.worker }
part_ready bench actors (Begins caller wanted) may fit begun is =
    let other = may.0 in (begun_ready actors bench caller (omega (arith, other)) begun is (record { follows = (link_in bench).era.inc; wish = wanted })).1
part_ready bench actors (Calls steps caller wanted) may fit begun is = let other = may.0 in (call_ready actors bench caller (omega (arith, other)) begun is steps wanted may.1 may.2).1
part_ready bench actors (Advances more steps caller) may fit begun is = let other = may.0 in (advance_ready actors bench caller (omega (arith, other)) begun is more steps fit may.1).1
part_ready bench actors (Sees caller (reach.Ended end)) may fit begun is = seen_ready actors bench (message_of bench caller end) end (end_of (link_in bench).callers caller) is
part_ready bench actors (Sees caller came) may fit begun is = is
part_ready bench actors (Reclaims caller) may fit begun is = (reclaim_ready actors bench caller (omega (arith, may)) begun is).1

part_stands : (Up : Type 0) → KeptByParts actors_after_end 2 IsSendable (Stands Up)
part_stands Up bench actors part may is = record {
  fit = fit_part actors_after_end 2 bench actors part may is.fit;
  begun = part_begun bench part may is.begun;
  calls = λ up. part_ready bench actors part may is.fit is.begun (is.calls up);
}

-- an act of others than the first two callers
pub act_stands : (Up : Type 0) (bench : BenchState) (actors : ActorsState) (steps : ℕ) (asked : LinkAct (List ℕ)) → IsFitAct asked → Stands Up bench actors
    → let left = link_act actors_after_end 2 bench actors steps asked in Stands Up left.bench left.watcher
act_stands Up bench actors steps asked fit is =
    act_kept actors_after_end 2 IsSendable bench actors steps (Stands Up) (part_stands Up) asked (calls_sendable asked fit) is
