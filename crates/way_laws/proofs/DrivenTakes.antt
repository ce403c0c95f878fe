-- What a step of a core's actors tells of takes is by the call that it ended.
use Rattle.std.proofs.Common.{◌≡◌, ℕ, true, Option, Some, None, is_some, refl}
use Rattle.rp_base.specs.declared.kinds.End.{End}
use Rattle.lane_model.specs.declared.calls.Wish.{Wish}
use Rattle.remote_core.specs.declared.workers.Work.{Work}
use Rattle.remote_core.specs.declared.workers.Work.TheVariants as work
use Rattle.remote_core.specs.Works.{work_of}
use Rattle.link_bench.specs.declared.benches.BegunCall.{BegunCall}
use Rattle.link_bench.specs.declared.benches.Reach.{Reach}
use Rattle.link_bench.specs.declared.benches.Reach.TheVariants as reach
use Rattle.link_bench.specs.Benches.{BenchState, BenchWalk, advance_steps, advance_walk, begun_call_of, is_in_call, link_in, start_walk}
use Rattle.core_actors.specs.ActorSteps.{drive_of_reach, drive_of_work, first_or_take, link_step}
use Rattle.crash_recover.specs.CoreCrashes.{report_of}
use Rattle.crash_recover.specs.Cores.{CoreState}
use Rattle.crash_recover.specs.Drives.{DriveStep, after_record, core_with_report, drive_step, driven_with_report, placed_map}
use Rattle.core_laws.proofs.DriveWalks.{HoldOfParts, drive_walk}
use Rattle.act_laws.specs.CoreDeeds.{actor_link_deeds, begun_deeds, drive_deeds, driven_takes, link_deeds, record_deeds}
use Rattle.act_laws.proofs.CalmDeeds.{reported_none}
use Rattle.act_laws.proofs.Lands.{both_if}
use Rattle.act_laws.specs.Deeds.{Deeds, advance_deeds, no_deeds, reach_takes}

module _ (end : End) where
  -- ---- a step on the link

  -- what this step tells is by the call that it ended
  abbrev IsToldBy : DriveStep → Deeds → Type 0
  IsToldBy step deeds = deeds.takes end ≡ driven_takes step.driven step.core.bench end

  abbrev IsWalkTold : ℕ → BenchWalk → Deeds → Type 0
  IsWalkTold caller walk deeds = deeds.takes end ≡ driven_takes (drive_of_reach caller walk.reach) (Some walk.bench) end

  reach_told : (bench : BenchState) (caller : ℕ) (came : Reach) → reach_takes (link_in bench) caller came end ≡ driven_takes (drive_of_reach caller came) (Some bench) end
  reach_told bench caller (reach.At step) = refl
  reach_told bench caller (reach.Ended ended) = refl
  reach_told bench caller reach.Limit = refl

  advance_told : (bench : BenchState) (caller : ℕ) (found : Option BegunCall) → IsWalkTold caller (advance_steps bench 0 0 caller found) (advance_deeds bench 0 0 caller found)
  advance_told bench caller None = let walk = advance_steps bench 0 0 caller None in reach_told walk.bench caller walk.reach
  advance_told bench caller (Some begun) = let walk = advance_steps bench 0 0 caller (Some begun) in reach_told walk.bench caller walk.reach

  link_told : (bench : BenchState) (caller : ℕ) (wanted : Wish) → IsWalkTold caller (link_step bench caller wanted) (link_deeds bench caller wanted)
  link_told bench caller wanted =
      let walk = start_walk bench 0 caller wanted in
      both_if (is_in_call bench caller) (IsWalkTold caller) (advance_walk bench 0 0 caller) walk (advance_deeds bench 0 0 caller (begun_call_of bench caller)) (begun_deeds bench caller wanted)
      (advance_told bench caller (begun_call_of bench caller)) (reach_told walk.bench caller walk.reach)

  -- ---- a step of an actor

  work_told : (core : CoreState) (done : Work) → (record_deeds (drive_of_work done) core).takes end ≡ driven_takes (driven_with_report (drive_of_work done) core) (core_with_report (drive_of_work done) core).bench end
  work_told core work.Nothing = refl
  work_told core (work.Ask wanted) = refl
  work_told core work.Halted = refl
  work_told core (work.Crash kind) = reported_none end (report_of true core).answer core.bench
  work_told core (work.Fault why) = reported_none end (report_of true core).answer core.bench

  told_parts : HoldOfParts no_deeds actor_link_deeds record_deeds (λ (core : CoreState). Unit {0}) IsToldBy
  told_parts = record {
    rest = λ core is. refl;
    turn = λ who core is. tt;
    host = λ core bench there busy is. link_told bench 0 (first_or_take core.actors.host_calls);
    call = λ core bench there busy is. link_told bench 1 (first_or_take core.actors.worker_calls);
    work = λ core load there silent busy is.
        let map = placed_map core.regions load in work_told (after_record core load map) (work_of load.memory map (is_some core.bench) core.actors.worker);
  }

  -- what a step of the actors of a core tells of takes
  pub drive_told : (core : CoreState) → IsToldBy (drive_step core) (drive_deeds core)
  drive_told core = drive_walk no_deeds actor_link_deeds record_deeds _ _ told_parts core tt
