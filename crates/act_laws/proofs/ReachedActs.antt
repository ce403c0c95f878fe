-- What a reached bench allows: the deeds of each act on it.
use Rattle.std.proofs.Common.{◌≡◌, ℕ, true, List, Option, Some, None, slice_get, refl}
use Rattle.lane_model.specs.Conditions.{is_calling}
use Rattle.link_bench.specs.declared.acts.LinkAct.{LinkAct}
use Rattle.link_bench.specs.declared.benches.BegunCall.{BegunCall}
use Rattle.link_bench.specs.ActParts.{ActPart, bench_after}
use Rattle.link_bench.specs.Acts.{IsFitAct, link_act}
use Rattle.link_bench.specs.Benches.{BenchState, IsSendable, begun_call_of, is_in_call, link_in}
use Rattle.link_bench.specs.Watchers.{Seeing}
use Rattle.link_bench.proofs.ActParts.{Does, Done, Then}
use Rattle.link_bench.proofs.ActWalks.{act_done}
use Rattle.link_bench.proofs.FitCalls.{begun_at, begun_or, calling_may}
use Rattle.link_bench.proofs.SendableActs.{calls_sendable}
use Rattle.core_laws.specs.BenchMoves.{IsReachedBench}
use Rattle.core_laws.proofs.BenchMoves.{reclaimable_is_shut}
use Rattle.core_laws.proofs.CoreActs.{part_reached}
use Rattle.act_laws.specs.Deeds.{act_deeds, part_deeds, parts_deeds}
use Rattle.act_laws.proofs.ActLands.{LandsAt, MayAct, MayGo, part_lands, stays, then_at}

-- ---- what a reached bench allows

go_at : (bench : BenchState) (caller : ℕ) (found : Option BegunCall) → begun_call_of bench caller ≡ found → IsReachedBench bench → is_in_call bench caller ≡ true → MayGo bench caller found
go_at bench caller (Some call) is reached in_call = reached.fit caller call (begun_at (slice_get bench.begun caller) call is)
go_at bench caller None none reached in_call = calling_may (link_in bench) caller (begun_or (begun_call_of bench caller) (is_calling (link_in bench) caller) none in_call)

pub may_act : (bench : BenchState) → IsReachedBench bench → MayAct bench
may_act bench reached = record {
  go = λ caller in_call. go_at bench caller (begun_call_of bench caller) refl reached in_call;
  shut = λ caller none. reclaimable_is_shut (link_in bench) caller none;
}

-- ---- the deeds of an act

module _ {W : Type 0} (sees : Seeing W) (own : ℕ) where
  -- the deeds of parts, each of which may be done
  parts_land : {bench left : BenchState} {watcher seen : W} {parts : List ActPart} → Does sees own IsSendable bench watcher parts left seen → IsReachedBench bench
      → LandsAt bench (parts_deeds bench parts) left
  parts_land (Done {bench = bench}) reached = stays bench
  parts_land {left = left} (Then {bench = bench} {watcher = watcher} {part = part} {parts = parts} may rest) reached =
      then_at bench (part_deeds bench part) (bench_after bench part) (parts_deeds (bench_after bench part) parts) left
      (part_lands bench (may_act bench reached) own part may) (parts_land rest (part_reached sees own bench watcher part may reached))

  -- the deeds of an act on a reached bench
  pub deeds_land : (bench : BenchState) (watcher : W) (steps : ℕ) (asked : LinkAct (List ℕ)) → IsFitAct asked → IsReachedBench bench
      → LandsAt bench (act_deeds sees own bench watcher steps asked) (link_act sees own bench watcher steps asked).bench
  unfolding act_deeds
  deeds_land bench watcher steps asked fit reached = parts_land (act_done sees own IsSendable bench watcher steps asked (calls_sendable asked fit)).does reached
