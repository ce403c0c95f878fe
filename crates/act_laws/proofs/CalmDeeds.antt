-- Deeds that close no link, and deeds that tell nothing: each act of callers is of the first kind, and all that the manager does is of the second.
use Rattle.std.proofs.Common.{◌≡◌, ℕ, zero, suc, ◌+◌, ◌-◌, ◌++◌, ◌==◌, Bool, true, false, List, [], ◌∷◌, Option, Some, None, Result, Ok, Err, refl}
use Rattle.std.specs.Prelude.{if◌then◌else◌}
use Rattle.rp_base.specs.declared.kinds.End.{End}
use Rattle.rp_base.specs.declared.kinds.End.TheVariants as side
use Rattle.rp_base.specs.declared.limits.TheConstants.{CALLERS_MOST}
use Rattle.proc_state.specs.declared.answers.LifeFault.{LifeFault}
use Rattle.lane_model.specs.declared.calls.Wish.{Wish}
use Rattle.lane_model.specs.declared.recoveries.ReclaimRefusal.{ReclaimRefusal}
use Rattle.lane_model.specs.Lanes.{holder}
use Rattle.lane_model.specs.Links.{end_of, free_number}
use Rattle.lane_model.specs.Recoveries.{link_reclaim_refusal}
use Rattle.lane_laws.specs.Moves.{Close, Enlist, Move, Reclaim}
use Rattle.link_bench.specs.declared.acts.LinkAct.{LinkAct}
use Rattle.link_bench.specs.declared.benches.BegunCall.{BegunCall}
use Rattle.link_bench.specs.ActParts.{ActPart, Advances, Begins, Calls, Joins, Reclaims, Sees, act_parts, bench_after}
use Rattle.link_bench.specs.BenchCrashes.{after_close}
use Rattle.link_bench.specs.BenchEnds.{is_first, is_remote, without_one, without_other}
use Rattle.link_bench.specs.Benches.{BenchState, advance_steps, begun_call_of, call_walk, is_in_call, link_in, start_walk}
use Rattle.link_bench.specs.Watchers.{Seeing}
use Rattle.core_actors.specs.declared.progress.DriveOutcome.{DriveOutcome}
use Rattle.core_actors.specs.declared.progress.DriveOutcome.TheVariants as driven
use Rattle.core_actors.specs.ActorSteps.{first_or_take}
use Rattle.crash_recover.specs.declared.core_answers.Crash.{Crash}
use Rattle.crash_recover.specs.declared.core_answers.Crash.TheVariants as crash
use Rattle.crash_recover.specs.CoreCrashes.{report_of}
use Rattle.crash_recover.specs.Cores.{CoreState}
use Rattle.crash_recover.specs.Drives.{DriveStep, placed_map, run_by}
use Rattle.core_laws.proofs.DriveWalks.{HoldOfParts, drive_walk}
use Rattle.act_laws.specs.CoreDeeds.{actor_link_deeds, begun_deeds, crash_deeds, drive_deeds, link_deeds, one_remote, other_deeds, others_deeds, ready_deeds, record_deeds, remote_deeds, renewed_deeds, reported_deeds}
use Rattle.act_laws.specs.Deeds.{Deeds, act_deeds, advance_deeds, call_moves, caller_deeds, deeds_then, later_moves, no_deeds, one_move, part_deeds, parts_deeds, reclaim_deeds, whole_deeds}
use Rattle.act_laws.proofs.Closes.{AllCloseNone}

-- ---- deeds that close no link

abbrev pub CloseNone : Deeds → Type 0
CloseNone deeds = AllCloseNone deeds.moves

both_none : (one other : List Move) → AllCloseNone one → AllCloseNone other → AllCloseNone (one ++ other)
both_none [] other first second = second
both_none (move ∷ moves) other first second = (first.0, both_none moves other first.1 second)

then_open : (one other : Deeds) → CloseNone one → CloseNone other → CloseNone (deeds_then one other)
then_open one other first second = both_none one.moves other.moves first second

either_open : (test : Bool) (one other : Deeds) → CloseNone one → CloseNone other → CloseNone (if test then one else other)
either_open true one other first second = first
either_open false one other first second = second

later_open : (count caller : ℕ) → AllCloseNone (later_moves count caller)
later_open zero caller = tt
later_open (suc more) caller = (tt, later_open more caller)

call_open : (count caller follows : ℕ) (wanted : Wish) → AllCloseNone (call_moves count caller follows wanted)
call_open zero caller follows wanted = tt
call_open (suc more) caller follows wanted = (tt, later_open more caller)

whole_open : (bench : BenchState) (steps caller : ℕ) (wanted : Wish) → CloseNone (whole_deeds bench steps caller wanted)
whole_open bench steps caller wanted = call_open ((call_walk bench steps caller wanted).steps - steps) caller (link_in bench).era.inc wanted

advance_open : (bench : BenchState) (more steps caller : ℕ) (found : Option BegunCall) → CloseNone (advance_deeds bench more steps caller found)
advance_open bench more steps caller (Some call) = call_open ((advance_steps bench more steps caller (Some call)).steps - steps) caller call.follows call.wish
advance_open bench more steps caller None = later_open ((advance_steps bench more steps caller None).steps - steps) caller

caller_open : (end : End) (number : Option ℕ) → CloseNone (caller_deeds end number)
caller_open end (Some number) = (tt, tt)
caller_open end None = tt

reclaim_open : (caller : ℕ) (found : Option End) (why : Option ReclaimRefusal) → CloseNone (reclaim_deeds caller found why)
reclaim_open caller (Some end) None = (tt, tt)
reclaim_open caller (Some end) (Some why) = tt
reclaim_open caller None why = tt

part_open : (bench : BenchState) (part : ActPart) → CloseNone (part_deeds bench part)
part_open bench (Joins end) = caller_open end (free_number (link_in bench).callers)
part_open bench (Begins caller wanted) = tt
part_open bench (Calls steps caller wanted) = whole_open bench steps caller wanted
part_open bench (Advances more steps caller) = advance_open bench more steps caller (begun_call_of bench caller)
part_open bench (Sees caller came) = tt
part_open bench (Reclaims caller) = reclaim_open caller (end_of (link_in bench).callers caller) (link_reclaim_refusal (link_in bench) caller)

parts_open : (bench : BenchState) (parts : List ActPart) → CloseNone (parts_deeds bench parts)
parts_open bench [] = tt
parts_open bench (part ∷ parts) = then_open (part_deeds bench part) (parts_deeds (bench_after bench part) parts) (part_open bench part) (parts_open (bench_after bench part) parts)

-- no act of callers closes a link
pub act_open : {W : Type 0} (sees : Seeing W) (own : ℕ) (bench : BenchState) (watcher : W) (steps : ℕ) (asked : LinkAct (List ℕ)) → CloseNone (act_deeds sees own bench watcher steps asked)
unfolding act_deeds
act_open sees own bench watcher steps asked = parts_open bench (act_parts sees own bench watcher steps asked)

-- nor does a step of an actor on the link
link_open : (bench : BenchState) (caller : ℕ) (wanted : Wish) → CloseNone (link_deeds bench caller wanted)
link_open bench caller wanted =
    either_open (is_in_call bench caller) (advance_deeds bench 0 0 caller (begun_call_of bench caller)) (begun_deeds bench caller wanted) (advance_open bench 0 0 caller (begun_call_of bench caller))
    (call_open ((start_walk bench 0 caller wanted).steps - 0) caller (link_in bench).era.inc wanted)

-- nor a recovery
renewed_open : (why : Option ReclaimRefusal) → CloseNone (renewed_deeds why)
renewed_open None = (tt, (tt, tt))
renewed_open (Some why) = tt

pub ready_open : (bench : BenchState) → CloseNone (ready_deeds bench)
ready_open bench = renewed_open (link_reclaim_refusal (link_in bench) 0)

-- ---- deeds that tell nothing

module _ (end : End) where
  abbrev pub TellsNone : Deeds → Type 0
  TellsNone deeds = deeds.takes end ≡ []

  either_none : (test : Bool) (one other : Deeds) → TellsNone one → TellsNone other → TellsNone (if test then one else other)
  either_none true one other first second = first
  either_none false one other first second = second

  then_none : (one other : Deeds) → TellsNone one → TellsNone other → TellsNone (deeds_then one other)
  then_none one other first second = λ i. first i ++ second i

  remote_none : (bench : BenchState) (caller : ℕ) → TellsNone (remote_deeds bench caller)
  remote_none bench caller =
      either_none (is_remote (end_of (link_in bench).callers caller)) _ no_deeds
      (either_none (caller == 1) (deeds_then (one_move (Reclaim caller)) (one_move (Enlist side.Remote))) (one_move (Reclaim caller)) refl refl) refl

  one_none : (bench : BenchState) (found : Option ℕ) → TellsNone (one_remote bench found)
  one_none bench None = refl
  one_none bench (Some caller) = remote_none bench caller

  others_none : (first : Option ℕ) (bench : BenchState) (from count : ℕ) → TellsNone (others_deeds first bench from count)
  unfolding others_deeds
  others_none first bench from zero = refl
  others_none first bench from (suc count) =
      then_none (other_deeds first bench from) (others_deeds first (without_other first bench from) (from + 1) count)
      (either_none (is_first first from) no_deeds (remote_deeds bench from) refl (remote_none bench from))
      (others_none first (without_other first bench from) (from + 1) count)

  crash_none : (bench : BenchState) → TellsNone (crash_deeds bench)
  crash_none bench =
      let first = holder (link_in (after_close bench)).to_remote.receiver in
      let others = others_deeds first (without_one (after_close bench) first) 0 CALLERS_MOST in
      then_none (one_move (Close (link_in bench).era.inc)) (deeds_then (one_remote (after_close bench) first) others) refl
      (then_none (one_remote (after_close bench) first) others (one_none (after_close bench) first) (others_none first (without_one (after_close bench) first) 0 CALLERS_MOST))

  -- a report of a crash tells nothing
  pub reported_none : (answer : Result Crash LifeFault) (found : Option BenchState) → TellsNone (reported_deeds answer found)
  reported_none (Ok (crash.First closed)) (Some bench) = crash_none bench
  reported_none (Ok (crash.First closed)) None = refl
  reported_none (Ok crash.Already) found = refl
  reported_none (Ok crash.Limit) found = refl
  reported_none (Err why) found = refl

  record_none : (came : DriveOutcome) (core : CoreState) → TellsNone (record_deeds came core)
  record_none (driven.Worker fault closed) core = reported_none (report_of true core).answer core.bench
  record_none (driven.Crashed kind closed) core = reported_none (report_of true core).answer core.bench
  record_none driven.Idle core = refl
  record_none driven.Stepped core = refl
  record_none (driven.Ended caller came) core = refl

  -- ---- either

  -- deeds that close no link, or tell nothing at an end
  pub data IsCalm (deeds : Deeds) : Type 0 where
    Open : CloseNone deeds → IsCalm deeds
    Silent : TellsNone deeds → IsCalm deeds

  calm_parts : HoldOfParts no_deeds actor_link_deeds record_deeds (λ (core : CoreState). Unit {0}) (λ (step : DriveStep) (deeds : Deeds). IsCalm deeds)
  calm_parts = record {
    rest = λ core is. Open tt;
    turn = λ who core is. tt;
    host = λ core bench there busy is. Open (link_open bench 0 (first_or_take core.actors.host_calls));
    call = λ core bench there busy is. Open (link_open bench 1 (first_or_take core.actors.worker_calls));
    work = λ core load there silent busy is. let done = run_by core load (placed_map core.regions load) in Silent (record_none done.driven done.core);
  }

  -- a step of the actors of a core
  pub drive_calm : (core : CoreState) → IsCalm (drive_deeds core)
  drive_calm core = drive_walk no_deeds actor_link_deeds record_deeds _ _ calm_parts core tt
