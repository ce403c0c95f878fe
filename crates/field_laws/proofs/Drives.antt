-- Steps of a core's actors, and acts on its link, keep the numbers and bytes of the core within their types.
use Rattle.std.proofs.Common.{◌≡◌, ℕ, ◌<◌, ◌^◌, true, List, Option, Some, IfSome, is_some, sym, ap, subst, ◌∙◌, arith}
use Rattle.std.proofs.lemmas.Bool.{cond_both, true≢false}
use Rattle.memory_pool.specs.Regions.{memory_len}
use Rattle.remote_core.specs.declared.workers.Work.{Work}
use Rattle.remote_core.specs.declared.workers.Work.TheVariants as work
use Rattle.remote_core.specs.Works.{work_of}
use Rattle.lane_model.specs.declared.calls.Wish.{Wish}
use Rattle.link_bench.specs.declared.acts.LinkAct.{LinkAct}
use Rattle.link_bench.specs.declared.benches.Reach.{Reach}
use Rattle.link_bench.specs.declared.benches.Reach.TheVariants as reach
use Rattle.link_bench.specs.ActParts.{ActPart, Sees, watcher_after_part}
use Rattle.link_bench.specs.Acts.{ActResult, IsFitAct}
use Rattle.link_bench.specs.Benches.{BenchState, IsSendable, advance_walk, is_in_call, link_in, start_walk}
use Rattle.link_bench.proofs.ActParts.{KeptByParts}
use Rattle.link_bench.proofs.ActWalks.{act_kept}
use Rattle.core_actors.specs.declared.progress.DriveOutcome.{DriveOutcome}
use Rattle.core_actors.specs.declared.progress.DriveOutcome.TheVariants as driven
use Rattle.core_actors.specs.Actors.{ActorsState}
use Rattle.core_actors.specs.ActorEnds.{actors_after_end}
use Rattle.core_actors.specs.ActorSteps.{drive_of_reach, drive_of_work, first_or_take, host_at_step, link_step}
use Rattle.crash_recover.specs.CoreActs.{act_on_core, core_after_act}
use Rattle.crash_recover.specs.Cores.{CoreState, LoadState}
use Rattle.crash_recover.specs.Drives.{DriveStep, drive_step, driven_with_report, host_step, placed_map, run_by, step_with_report, worker_call}
use Rattle.core_laws.specs.BenchMoves.{IsReachedBench, IsReachedCore}
use Rattle.core_laws.specs.DriveParts.{MayDrive}
use Rattle.core_laws.proofs.CoreMoves.{StandsReady, first_sendable, link_reached, turned_stands}
use Rattle.core_laws.proofs.DriveWalks.{HoldOfSteps, MayGoOn, may_host, may_worker, of_link, reported, step_walk}
use Rattle.field_laws.specs.Fields.{IsFieldWish}
use Rattle.field_laws.specs.FieldBenches.{IsFieldAct, IsFieldActResult, IsFieldBench, IsFieldReach}
use Rattle.field_laws.specs.FieldCores.{AreFieldCalls, IsFieldCore, IsFieldDriven, IsFieldLoad, IsFieldPlaced}
use Rattle.core_laws.proofs.ActorCalls.{first_fits, host_begun_fit, host_step_fit, ran_fit, seen_fit, worker_step_fit}
use Rattle.field_laws.proofs.Actors.{field_calls, field_end, field_messages, memory_fields, work_fields}
use Rattle.field_laws.proofs.Acts.{HoldsBench, IsFit, act_told, fit_calls, part_holds}
use Rattle.field_laws.proofs.Benches.{HoldsBenchWalk, advance_fields, start_fields}
use Rattle.field_laws.proofs.Cores.{closed_field, report_fields}
use Rattle.field_laws.proofs.Rooms.{memory_longer}

-- a step of the actors, and what it was
pub record HoldsDrive (step : DriveStep) : Type 0 where
  pub core : IsFieldCore step.core
  pub driven : IsFieldDriven step.driven

-- ---- steps on the link

link_fields : (bench : BenchState) (caller : ℕ) (calls : List Wish) → MayGoOn bench caller calls → IsReachedBench bench → IsFieldBench bench → IsSendable (first_or_take calls) → IsFieldWish (first_or_take calls)
    → HoldsBenchWalk (link_step bench caller (first_or_take calls))
link_fields bench caller calls may reached is sendable wishes =
    cond_both (is_in_call bench caller) (advance_walk bench 0 0 caller) (start_walk bench 0 caller (first_or_take calls)) HoldsBenchWalk
    (λ in_call. advance_fields bench 0 0 caller in_call reached is) (λ none. start_fields bench 0 caller (first_or_take calls) (may none) sendable wishes reached is)

by_reach : (caller : ℕ) (came : Reach) → caller < 2 ^ 64 → IsFieldReach came → IsFieldDriven (drive_of_reach caller came)
by_reach caller (reach.At step) small is = tt
by_reach caller (reach.Ended ended) small is = (small, is)
by_reach caller reach.Limit small is = tt

host_at : (core : CoreState) (bench : BenchState) → core.bench ≡ Some bench → StandsReady core → IsFieldCore core → HoldsDrive (host_step core (Some bench))
host_at core bench there ready is =
    let walk = link_step bench 0 (first_or_take core.actors.host_calls) in
    let left = link_fields bench 0 core.actors.host_calls (may_host core bench there ready.may) (link_reached core bench there ready) (of_link IsFieldBench core bench there is.bench)
    (first_sendable core.actors.host_calls ready.reached.calls.host) (first_fits field_calls core.actors.host_calls is.calls.host) in
    record {
      core = record {
        book = is.book;
        life = is.life;
        image = is.image;
        loaded = is.loaded;
        placed = is.placed;
        rest = is.rest;
        bench = left.bench;
        calls = host_step_fit field_calls (host_at_step bench core.actors) walk.bench walk.reach (field_messages (link_in walk.bench) left.bench.link) (field_end walk.reach left.reach)
            (host_begun_fit field_calls bench core.actors is.calls);
      };
      driven = by_reach 0 walk.reach (omega arith) left.reach;
    }

worker_at : (core : CoreState) (bench : BenchState) → core.bench ≡ Some bench → StandsReady core → IsFieldCore core → HoldsDrive (worker_call core (Some bench))
worker_at core bench there ready is =
    let walk = link_step bench 1 (first_or_take core.actors.worker_calls) in
    let left = link_fields bench 1 core.actors.worker_calls (may_worker core bench there ready.may) (link_reached core bench there ready) (of_link IsFieldBench core bench there is.bench)
    (first_sendable core.actors.worker_calls ready.reached.calls.worker) (first_fits field_calls core.actors.worker_calls is.calls.worker) in
    record {
      core = record {
        book = is.book;
        life = is.life;
        image = is.image;
        loaded = is.loaded;
        placed = is.placed;
        rest = is.rest;
        bench = left.bench;
        calls = worker_step_fit field_calls core.actors walk.bench walk.reach (field_end walk.reach left.reach) is.calls;
      };
      driven = by_reach 1 walk.reach (omega arith) left.reach;
    }

-- ---- records

by_work : (done : Work) → IsFieldDriven (drive_of_work done)
by_work work.Nothing = tt
by_work (work.Ask wanted) = tt
by_work work.Halted = tt
by_work (work.Crash kind) = tt
by_work (work.Fault why) = tt

run_fields : (core : CoreState) (load : LoadState) → core.loaded ≡ Some load → IsFieldCore core → IsFieldLoad load → IsFieldPlaced core.regions load
    → HoldsDrive (run_by core load (placed_map core.regions load))
run_fields core load same is here placed =
    let map = placed_map core.regions load in
    record {
      core = record {
        book = is.book;
        life = is.life;
        image = is.image;
        loaded = record { memory = memory_fields load.memory map (is_some core.bench) core.actors.worker here.memory; table = here.table };
        placed = record { memory = memory_longer load.memory map (is_some core.bench) core.actors.worker (memory_len core.regions) placed.memory; few = placed.few; ranges = placed.ranges };
        rest = λ off. absurd (true≢false (ap is_some (sym same ∙ is.rest off)));
        bench = is.bench;
        calls = ran_fit field_calls core.actors load.memory map (is_some core.bench) (work_fields load.memory map (is_some core.bench) core.actors.worker here.memory) is.calls;
      };
      driven = by_work (work_of load.memory map (is_some core.bench) core.actors.worker);
    }

-- what a report closed is a number of the line
closed_fields : (event : DriveOutcome) (core : CoreState) → IsFieldCore core → IsFieldDriven event → IsFieldDriven (driven_with_report event core)
closed_fields driven.Idle core is told = told
closed_fields driven.Stepped core is told = told
closed_fields (driven.Ended caller ended) core is told = told
closed_fields (driven.Worker why closed) core is told = closed_field core.bench is.bench
closed_fields (driven.Crashed kind closed) core is told = closed_field core.bench is.bench

record_fields : (core : CoreState) (load : LoadState) → core.loaded ≡ Some load → IsFieldCore core → HoldsDrive (step_with_report (run_by core load (placed_map core.regions load)))
record_fields core load same is =
    let done = run_by core load (placed_map core.regions load) in
    let ran = run_fields core load same is (subst (λ (found : Option LoadState). IfSome found IsFieldLoad) same is.loaded) (subst (λ (found : Option LoadState). IfSome found (IsFieldPlaced core.regions)) same is.placed) in
    record { core = reported IsFieldCore (λ left is. (report_fields true left is).core) done.driven done.core ran.core; driven = closed_fields done.driven done.core ran.core ran.driven }

-- ---- a step of the actors

-- a core whose actors may make their next steps, with its fields
record HoldsCore (core : CoreState) : Type 0 where
  pub ready : StandsReady core
  pub fields : IsFieldCore core

drive_parts : HoldOfSteps HoldsCore HoldsDrive
drive_parts = record {
  rest = λ core is. record { core = is.fields; driven = tt };
  turn = λ who core is.
      let fields = is.fields in
      record {
        ready = turned_stands who core is.ready;
        fields = record { book = fields.book; life = fields.life; image = fields.image; loaded = fields.loaded; placed = fields.placed; rest = fields.rest; bench = fields.bench; calls = record { host = fields.calls.host; worker = fields.calls.worker } };
      };
  host = λ core bench there busy is. host_at core bench there is.ready is.fields;
  call = λ core bench there busy is. worker_at core bench there is.ready is.fields;
  work = λ core load there silent busy is. record_fields core load there is.fields;
}

pub drive_fields : (core : CoreState) → MayDrive core → IsReachedCore core → IsFieldCore core → HoldsDrive (drive_step core)
drive_fields core may reached is = step_walk HoldsCore HoldsDrive drive_parts core (record { ready = record { may = may; reached = reached }; fields = is })

-- ---- acts on the link of a core

-- a link and the actors that watch it
pub record HoldsBoth (bench : BenchState) (actors : ActorsState) : Type 0 where
  pub holds : HoldsBench bench
  pub calls : AreFieldCalls actors

part_calls : (bench : BenchState) (actors : ActorsState) (part : ActPart) → HoldsBench bench → AreFieldCalls actors → AreFieldCalls (watcher_after_part actors_after_end bench actors part)
part_calls bench actors (Sees caller (reach.Ended ended)) holds is = seen_fit field_calls actors bench caller ended (field_messages (link_in bench) holds.fields.link) is
part_calls bench actors other holds is = is

both_part : KeptByParts actors_after_end 2 IsFit HoldsBoth
both_part bench actors part may is = record { holds = part_holds actors_after_end 2 bench actors part may is.holds; calls = part_calls bench actors part is.holds is.calls }

-- what an act leaves of a core, the link that it leaves, and what comes of it
pub record HoldsActed (core : CoreState) (acted : ActResult ActorsState) : Type 0 where
  pub left : IsFieldCore (core_after_act core acted)
  pub bench : IsFieldBench acted.bench
  pub answer : IsFieldActResult acted.answer

pub core_act_fields : (core : CoreState) (bench : BenchState) (steps : ℕ) (asked : LinkAct (List ℕ)) → IsFitAct asked → IsFieldAct asked → IsReachedBench bench → IsFieldBench bench → IsFieldCore core
    → HoldsActed core (act_on_core core bench steps asked)
core_act_fields core bench steps asked fit fields reached here is =
    let holds : HoldsBench bench = record { reached = reached; fields = here } in
    let left = act_kept actors_after_end 2 IsFit bench core.actors steps HoldsBoth both_part asked (fit_calls asked fit fields) (record { holds = holds; calls = is.calls }) in
    record {
      left = record { book = is.book; life = is.life; image = is.image; loaded = is.loaded; placed = is.placed; rest = is.rest; bench = left.holds.fields; calls = left.calls };
      bench = left.holds.fields;
      answer = act_told actors_after_end 2 bench core.actors steps asked fit fields holds;
    }
