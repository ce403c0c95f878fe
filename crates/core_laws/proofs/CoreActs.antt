-- What acts leave of a link and of a core: it is reached, kept and ready where it was.
use Rattle.std.proofs.Common.{ℕ, List, Option, Some, None, IfSome}
use Rattle.link_bench.specs.declared.acts.LinkAct.{LinkAct}
use Rattle.link_bench.specs.declared.benches.Reach.TheVariants as reach
use Rattle.link_bench.specs.ActParts.{ActPart, Advances, Begins, Calls, Joins, Reclaims, Sees, watcher_after_part}
use Rattle.link_bench.specs.Acts.{IsFitAct, link_act}
use Rattle.link_bench.specs.Benches.{BenchState, IsSendable, link_in}
use Rattle.link_bench.specs.Watchers.{Seeing}
use Rattle.link_bench.proofs.ActParts.{KeptByParts}
use Rattle.link_bench.proofs.ActWalks.{act_kept}
use Rattle.link_bench.proofs.SendableActs.{calls_sendable}
use Rattle.core_actors.specs.Actors.{ActorsState}
use Rattle.core_actors.specs.ActorEnds.{actors_after_end}
use Rattle.crash_recover.specs.CoreActs.{core_act, core_act_on}
use Rattle.crash_recover.specs.Cores.{CoreState, IsKeptCore, IsReadyCore}
use Rattle.crash_recover.specs.KeptCores.{IsKeptBench, IsReadyLink}
use Rattle.crash_recover.proofs.KeptBenches.{act_keeps}
use Rattle.crash_recover.proofs.ReadyCores.{act_ready}
use Rattle.core_laws.specs.BenchMoves.{AreSendable, IsReachedBench, IsReachedCore}
use Rattle.core_laws.proofs.BenchMoves.{advanced, begun_reached, called, enlisted, reclaim_tried}
use Rattle.core_laws.proofs.ActorCalls.{seen_fit}
use Rattle.core_laws.proofs.Sendable.{sendable_calls, short_messages}

-- ---- reached

pub part_reached : {W : Type 0} (sees : Seeing W) (own : ℕ) → KeptByParts sees own IsSendable (λ bench watcher. IsReachedBench bench)
part_reached sees own bench watcher (Joins end) may is = enlisted bench end is
part_reached sees own bench watcher (Begins caller wanted) may is = begun_reached bench caller (record { follows = (link_in bench).era.inc; wish = wanted }) is may.1 may.2
part_reached sees own bench watcher (Calls steps caller wanted) may is = called bench 6 steps caller wanted is may.1 may.2
part_reached sees own bench watcher (Advances more steps caller) may is = advanced bench more steps caller is may.1
part_reached sees own bench watcher (Sees caller came) may is = is
part_reached sees own bench watcher (Reclaims caller) may is = reclaim_tried bench caller is

-- an act on any link
pub acted_reached : {W : Type 0} (sees : Seeing W) (own : ℕ) (bench : BenchState) (watcher : W) (steps : ℕ) (asked : LinkAct (List ℕ)) → IsFitAct asked → IsReachedBench bench
    → IsReachedBench (link_act sees own bench watcher steps asked).bench
acted_reached sees own bench watcher steps asked fit is = act_kept sees own IsSendable bench watcher steps (λ bench watcher. IsReachedBench bench) (part_reached sees own) asked (calls_sendable asked fit) is

-- a link and its core's actors
record AreReachedBoth (bench : BenchState) (actors : ActorsState) : Type 0 where
  pub reached : IsReachedBench bench
  pub calls : AreSendable actors

part_calls : (bench : BenchState) (actors : ActorsState) (part : ActPart) → IsReachedBench bench → AreSendable actors → AreSendable (watcher_after_part actors_after_end bench actors part)
part_calls bench actors (Sees caller (reach.Ended end)) reached is = seen_fit sendable_calls actors bench caller end (short_messages (link_in bench) reached.link.short) is
part_calls bench actors other reached is = is

both_part : KeptByParts actors_after_end 2 IsSendable AreReachedBoth
both_part bench actors part may is = record { reached = part_reached actors_after_end 2 bench actors part may is.reached; calls = part_calls bench actors part is.reached is.calls }

reached_on : (core : CoreState) (steps : ℕ) (asked : LinkAct (List ℕ)) (found : Option BenchState) → IsFitAct asked → IsReachedCore core → IfSome found IsReachedBench
    → IsReachedCore (core_act_on core steps asked found).core
reached_on core steps asked None fit is reached = is
reached_on core steps asked (Some bench) fit is reached =
    let left = act_kept actors_after_end 2 IsSendable bench core.actors steps AreReachedBoth both_part asked (calls_sendable asked fit) (record { reached = reached; calls = is.calls }) in
    record { bench = left.reached; calls = left.calls }

-- an act on the link of a core
pub core_act_reached : (core : CoreState) (steps : ℕ) (asked : LinkAct (List ℕ)) → IsFitAct asked → IsReachedCore core → IsReachedCore (core_act core steps asked).core
core_act_reached core steps asked fit is = reached_on core steps asked core.bench fit is is.bench

-- ---- kept

kept_on : (core : CoreState) (steps : ℕ) (asked : LinkAct (List ℕ)) (found : Option BenchState) → IsKeptCore core → IfSome found (IsKeptBench core.life)
    → IsKeptCore (core_act_on core steps asked found).core
kept_on core steps asked None is kept = is
kept_on core steps asked (Some bench) is kept =
    act_keeps core.life bench core.actors steps asked kept

pub core_act_kept : (core : CoreState) (steps : ℕ) (asked : LinkAct (List ℕ)) → IsKeptCore core → IsKeptCore (core_act core steps asked).core
core_act_kept core steps asked is = kept_on core steps asked core.bench is is

-- ---- ready

ready_on : (core : CoreState) (steps : ℕ) (asked : LinkAct (List ℕ)) (found : Option BenchState) → IsFitAct asked → IfSome found IsReachedBench → IsReadyCore core
    → IsReadyLink core.life.state core.actors found → IsReadyCore (core_act_on core steps asked found).core
ready_on core steps asked None fit reached is ready = is
ready_on core steps asked (Some bench) fit reached is ready = act_ready core.life.state core.actors bench steps asked fit reached.fit ready

pub core_act_ready : (core : CoreState) (steps : ℕ) (asked : LinkAct (List ℕ)) → IsFitAct asked → IsReachedCore core → IsReadyCore core → IsReadyCore (core_act core steps asked).core
core_act_ready core steps asked fit reached is = ready_on core steps asked core.bench fit reached.bench is is
