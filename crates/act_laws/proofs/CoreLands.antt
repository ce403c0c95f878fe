-- The deeds of a crash, of a recovery and of the actors of a core leave what these leave of its link.
use Rattle.std.proofs.Common.{◌≡◌, ℕ, zero, suc, ◌+◌, ◌==◌, Bool, true, false, cond, List, Option, Some, None, option_map, Ok, refl, sym, subst, ◌∙◌}
use Rattle.rp_base.specs.declared.kinds.End.{End}
use Rattle.rp_base.specs.declared.kinds.End.TheVariants as side
use Rattle.proc_state.specs.declared.answers.LifeFault.{LifeFault}
use Rattle.lane_model.specs.declared.calls.Wish.{Wish}
use Rattle.lane_model.specs.declared.recoveries.ReclaimRefusal.{ReclaimRefusal}
use Rattle.lane_model.specs.Lanes.{holder}
use Rattle.lane_model.specs.Links.{LinkState, end_of}
use Rattle.lane_model.specs.Recoveries.{link_reclaim_refusal}
use Rattle.lane_laws.specs.Moves.{Close, Enlist, Reclaim}
use Rattle.lane_laws.proofs.LinkRuns.{move_shut}
use Rattle.channel_bus.specs.Sides.{EndState, side_meaning}
use Rattle.link_bench.specs.BenchCrashes.{after_close, after_reclaim}
use Rattle.link_bench.specs.BenchEnds.{bench_to_reopen, crashed_bench, is_first, is_remote, with_fresh_caller, with_new_host_unless, without_one, without_other, without_others, without_remote}
use Rattle.link_bench.specs.Benches.{BenchState, BenchWalk, advance_walk, begun_call_of, is_in_call, link_in, start_walk}
use Rattle.link_bench.proofs.Lists.{reclaim_lists}
use Rattle.core_actors.specs.declared.progress.DriveOutcome.{DriveOutcome}
use Rattle.core_actors.specs.declared.progress.DriveOutcome.TheVariants as driven
use Rattle.crash_recover.specs.declared.core_answers.Crash.{Crash}
use Rattle.crash_recover.specs.declared.core_answers.Crash.TheVariants as crash
use Rattle.crash_recover.specs.CoreCrashes.{report_of}
use Rattle.crash_recover.specs.Cores.{CoreOutcome, CoreState}
use Rattle.core_actors.specs.ActorSteps.{first_or_take, link_step}
use Rattle.core_actors.proofs.ReadyActors.{MayBegin}
use Rattle.crash_recover.specs.Drives.{DriveStep, core_with_report, drive_step, placed_map, run_by, step_with_report}
use Rattle.core_laws.specs.BenchMoves.{IsReachedBench, IsReachedCore}
use Rattle.core_laws.proofs.BenchMoves.{reclaimable_is_shut}
use Rattle.core_laws.specs.DriveParts.{MayDrive}
use Rattle.core_laws.proofs.CallOutcomes.{GoesDown, ReportOutcome, report_outcome}
use Rattle.core_laws.proofs.CoreMoves.{StandsReady, host_may, link_reached, turned_stands, worker_may}
use Rattle.core_laws.proofs.DriveWalks.{HoldOfParts, both_known, drive_walk}
use Rattle.crash_recover.proofs.KeptCrashes.{close_shut}
use Rattle.act_laws.specs.CoreDeeds.{actor_link_deeds, begun_deeds, crash_deeds, drive_deeds, link_deeds, one_remote, other_deeds, others_deeds, ready_deeds, record_deeds, remote_deeds, renewed_deeds, reported_deeds}
use Rattle.act_laws.specs.Deeds.{Deeds, advance_deeds, deeds_then, no_deeds, one_move}
use Rattle.act_laws.proofs.ActLands.{LandsAt, advance_lands, begin_lands, stays, then_at}
use Rattle.act_laws.proofs.Lands.{both_if}
use Rattle.act_laws.proofs.ReachedActs.{may_act}

-- ---- moves of the manager

reclaim_at : (bench : BenchState) (caller : ℕ) → (link_in bench).era.is_live ≡ false → LandsAt bench (one_move (Reclaim caller)) (after_reclaim bench caller)
reclaim_at bench caller shut = record { whole = (tt, tt); may = (shut, tt); leads = refl; takes = λ other. refl }

fresh_at : (bench : BenchState) (end : End) → LandsAt bench (one_move (Enlist end)) (with_fresh_caller bench end)
fresh_at bench end = record { whole = (tt, tt); may = (tt, tt); leads = refl; takes = λ other. refl }

pub close_at : (bench : BenchState) → LandsAt bench (one_move (Close (link_in bench).era.inc)) (after_close bench)
close_at bench = record { whole = (tt, tt); may = (tt, tt); leads = refl; takes = λ other. refl }

-- ---- a crash

-- deeds on a closed bench, which stays closed
record LandsShut (bench : BenchState) (deeds : Deeds) (left : BenchState) : Type 0 where
  pub lands : LandsAt bench deeds left
  pub shut : (link_in left).era.is_live ≡ false

shut_then : (bench : BenchState) (one : Deeds) (mid : BenchState) (other : Deeds) (left : BenchState) → LandsShut bench one mid → LandsShut mid other left → LandsShut bench (deeds_then one other) left
shut_then bench one mid other left first second = record { lands = then_at bench one mid other left first.lands second.lands; shut = second.shut }

reclaim_shut : (bench : BenchState) (caller : ℕ) → (link_in bench).era.is_live ≡ false → LandsShut bench (one_move (Reclaim caller)) (after_reclaim bench caller)
reclaim_shut bench caller shut = record { lands = reclaim_at bench caller shut; shut = subst (λ (link : LinkState EndState). link.era.is_live ≡ false) (sym (reclaim_lists bench caller)) (move_shut side_meaning (link_in bench) (Reclaim caller) shut).shut }

shut_stays : (bench : BenchState) → (link_in bench).era.is_live ≡ false → LandsShut bench no_deeds bench
shut_stays bench shut = record { lands = stays bench; shut = shut }

remote_lands : (bench : BenchState) (caller : ℕ) → (link_in bench).era.is_live ≡ false → LandsShut bench (remote_deeds bench caller) (without_remote bench caller)
remote_lands bench caller shut =
    let gone = reclaim_shut bench caller shut in
    let one = after_reclaim bench caller in
    both_if (is_remote (end_of (link_in bench).callers caller)) (λ (left : BenchState) (deeds : Deeds). LandsShut bench deeds left)
    (cond (caller == 1) (with_fresh_caller one side.Remote) one) bench
    (cond (caller == 1) (deeds_then (one_move (Reclaim caller)) (one_move (Enlist side.Remote))) (one_move (Reclaim caller))) no_deeds
    (both_if (caller == 1) (λ (left : BenchState) (deeds : Deeds). LandsShut bench deeds left) (with_fresh_caller one side.Remote) one
    (deeds_then (one_move (Reclaim caller)) (one_move (Enlist side.Remote))) (one_move (Reclaim caller))
    (record {
      lands = then_at bench (one_move (Reclaim caller)) one (one_move (Enlist side.Remote)) (with_fresh_caller one side.Remote) gone.lands
          (fresh_at one side.Remote);
      shut = gone.shut;
    }) gone)
    (shut_stays bench shut)

one_lands : (bench : BenchState) (found : Option ℕ) → (link_in bench).era.is_live ≡ false → LandsShut bench (one_remote bench found) (without_one bench found)
one_lands bench None shut = shut_stays bench shut
one_lands bench (Some caller) shut = remote_lands bench caller shut

other_lands : (first : Option ℕ) (bench : BenchState) (caller : ℕ) → (link_in bench).era.is_live ≡ false → LandsShut bench (other_deeds first bench caller) (without_other first bench caller)
other_lands first bench caller shut =
    both_if (is_first first caller) (λ (left : BenchState) (deeds : Deeds). LandsShut bench deeds left) bench (without_remote bench caller) no_deeds (remote_deeds bench caller)
    (shut_stays bench shut) (remote_lands bench caller shut)

others_lands : (first : Option ℕ) (bench : BenchState) (at count : ℕ) → (link_in bench).era.is_live ≡ false → LandsShut bench (others_deeds first bench at count) (without_others first bench at count)
unfolding without_others others_deeds
others_lands first bench at zero shut = shut_stays bench shut
others_lands first bench at (suc left) shut =
    let one = other_lands first bench at shut in
    shut_then bench (other_deeds first bench at) (without_other first bench at) (others_deeds first (without_other first bench at) (at + 1) left)
    (without_others first (without_other first bench at) (at + 1) left) one
    (others_lands first (without_other first bench at) (at + 1) left one.shut)

pub crash_lands : (bench : BenchState) → LandsAt bench (crash_deeds bench) (crashed_bench bench)
crash_lands bench =
    let closed = after_close bench in
    let first = holder (link_in closed).to_remote.receiver in
    let one = one_lands closed first (close_shut bench.rings) in
    let left = without_one closed first in
    let others = others_lands first left 0 64 one.shut in
    then_at bench (one_move (Close (link_in bench).era.inc)) closed _ (crashed_bench bench) (close_at bench)
    (then_at closed (one_remote closed first) left (others_deeds first left 0 64) (without_others first left 0 64) one.lands others.lands)

-- ---- a recovery

renewed_lands : (bench : BenchState) (why : Option ReclaimRefusal) → link_reclaim_refusal (link_in bench) 0 ≡ why → LandsAt bench (renewed_deeds why) (with_new_host_unless bench why)
renewed_lands bench None none =
    let gone = reclaim_at bench 0 (reclaimable_is_shut (link_in bench) 0 none) in
    then_at bench (one_move (Reclaim 0)) (after_reclaim bench 0) (one_move (Enlist side.Host)) (with_fresh_caller (after_reclaim bench 0) side.Host) gone
    (fresh_at (after_reclaim bench 0) side.Host)
renewed_lands bench (Some why) found = stays bench

pub ready_lands : (bench : BenchState) → LandsAt bench (ready_deeds bench) (bench_to_reopen bench)
ready_lands bench = renewed_lands bench (link_reclaim_refusal (link_in bench) 0) refl

-- ---- what a core has of a link

-- these deeds leave of the link that a core has, if it has one, the link that it has then
abbrev pub LandsIf : Option BenchState → Deeds → Option BenchState → Type 0
LandsIf None deeds None = Unit {0}
LandsIf None deeds (Some left) = ⊥
LandsIf (Some bench) deeds None = ⊥
LandsIf (Some bench) deeds (Some left) = LandsAt bench deeds left

stays_if : (found : Option BenchState) → LandsIf found no_deeds found
stays_if None = tt
stays_if (Some bench) = stays bench

crash_lands_if : (closed : Option ℕ) (found : Option BenchState) → LandsIf found (reported_deeds (Ok (crash.First closed)) found) (option_map crashed_bench found)
crash_lands_if closed None = tt
crash_lands_if closed (Some bench) = crash_lands bench

outcome_lands : {may_step : Bool} (core : CoreState) {out : CoreOutcome Crash LifeFault} → ReportOutcome may_step core out → LandsIf core.bench (reported_deeds out.answer core.bench) out.core.bench
outcome_lands core (GoesDown first closed was) = crash_lands_if closed core.bench
outcome_lands core came = stays_if core.bench

pub report_lands : (may_step : Bool) (core : CoreState) → LandsIf core.bench (reported_deeds (report_of may_step core).answer core.bench) (report_of may_step core).core.bench
report_lands may_step core = outcome_lands core (report_outcome may_step core)

-- ---- steps of the actors

step_lands : (bench : BenchState) (caller : ℕ) (calls : List Wish) → MayBegin bench caller calls → IsReachedBench bench
    → LandsAt bench (link_deeds bench caller (first_or_take calls)) (link_step bench caller (first_or_take calls)).bench
step_lands bench caller calls may reached =
    let wanted = first_or_take calls in
    both_known (is_in_call bench caller) (λ (walk : BenchWalk) (deeds : Deeds). LandsAt bench deeds walk.bench) (advance_walk bench 0 0 caller) (start_walk bench 0 caller wanted)
    (advance_deeds bench 0 0 caller (begun_call_of bench caller)) (begun_deeds bench caller wanted)
    (λ in_call. advance_lands bench 0 0 caller (begun_call_of bench caller) ((may_act bench reached).go caller in_call))
    (λ none. begin_lands bench 0 0 caller wanted (may none))

reported_lands : (came : DriveOutcome) (core : CoreState) → LandsIf core.bench (record_deeds came core) (core_with_report came core).bench
reported_lands driven.Idle core = stays_if core.bench
reported_lands driven.Stepped core = stays_if core.bench
reported_lands (driven.Ended caller end) core = stays_if core.bench
reported_lands (driven.Worker fault closed) core = report_lands true core
reported_lands (driven.Crashed kind closed) core = report_lands true core

-- beside each part of a step of the actors its deeds leave what the part leaves of the link
lands_parts : (start : Option BenchState)
    → HoldOfParts no_deeds actor_link_deeds record_deeds (λ (core : CoreState). (core.bench ≡ start) × StandsReady core) (λ (step : DriveStep) (deeds : Deeds). LandsIf start deeds step.core.bench)
lands_parts start = record {
  rest = λ core is. subst (LandsIf start no_deeds) (sym is.0) (stays_if start);
  turn = λ who core is. (is.0, turned_stands who core is.1);
  host = λ core bench there busy is.
      let calls = core.actors.host_calls in
      subst (λ (now : Option BenchState). LandsIf now (link_deeds bench 0 (first_or_take calls)) (Some (link_step bench 0 (first_or_take calls)).bench)) (sym there ∙ is.0)
      (step_lands bench 0 calls (host_may core bench there is.1) (link_reached core bench there is.1));
  call = λ core bench there busy is.
      let calls = core.actors.worker_calls in
      subst (λ (now : Option BenchState). LandsIf now (link_deeds bench 1 (first_or_take calls)) (Some (link_step bench 1 (first_or_take calls)).bench)) (sym there ∙ is.0)
      (step_lands bench 1 calls (worker_may core bench there is.1) (link_reached core bench there is.1));
  work = λ core load there silent busy is.
      let done = run_by core load (placed_map core.regions load) in
      subst (λ (now : Option BenchState). LandsIf now (record_deeds done.driven done.core) (step_with_report done).core.bench) is.0 (reported_lands done.driven done.core);
}

-- one step of the actors of a core
pub drive_lands : (core : CoreState) → MayDrive core → IsReachedCore core → LandsIf core.bench (drive_deeds core) (drive_step core).core.bench
drive_lands core may reached = drive_walk no_deeds actor_link_deeds record_deeds _ _ (lands_parts core.bench) core (refl, record { may = may; reached = reached })
