-- A step of a core's actors that ended a call as a take tells of one handing, whose line is that of the call.
use Rattle.std.proofs.Common.{◌≡◌, ℕ, true, List, [], Option, Some, None, IfSome, is_some, option_map, refl, sym, ap, subst, ◌∙◌}
use Rattle.std.specs.Option.{IsSomeAnd}
use Rattle.std.proofs.lemmas.Bool.{cond_both}
use Rattle.rp_base.specs.declared.kinds.End.{End}
use Rattle.rp_base.specs.declared.kinds.Verdict.{Verdict}
use Rattle.lane_model.specs.declared.calls.CallEnd.TheVariants as ended
use Rattle.lane_model.specs.declared.calls.Wish.{Wish}
use Rattle.lane_model.specs.Links.{LinkState}
use Rattle.lane_laws.specs.Handings.{Handing}
use Rattle.lane_laws.specs.Moves.{MayMoves}
use Rattle.lane_laws.specs.Ways.{link_after_moves, way_on}
use Rattle.channel_bus.specs.Sides.{EndState, side_meaning}
use Rattle.remote_core.specs.declared.workers.Work.{Work}
use Rattle.remote_core.specs.declared.workers.Work.TheVariants as work
use Rattle.remote_core.specs.Works.{work_of}
use Rattle.link_bench.specs.declared.benches.Reach.{Reach}
use Rattle.link_bench.specs.declared.benches.Reach.TheVariants as reach
use Rattle.link_bench.specs.Benches.{BenchState, BenchWalk, advance_walk, begun_call_of, is_in_call, link_in, start_walk}
use Rattle.link_bench.specs.BenchEnds.{crashed_bench}
use Rattle.core_actors.specs.declared.progress.DriveOutcome.{DriveOutcome}
use Rattle.core_actors.specs.declared.progress.DriveOutcome.TheVariants as driven
use Rattle.core_actors.specs.ActorSteps.{drive_of_reach, drive_of_work, first_or_take, link_step}
use Rattle.core_actors.proofs.ReadyActors.{MayBegin}
use Rattle.crash_recover.specs.Cores.{CoreState}
use Rattle.crash_recover.specs.Drives.{DriveStep, after_record, drive_step, placed_map, step_with_report}
use Rattle.core_laws.specs.BenchMoves.{IsReachedBench, IsReachedCore}
use Rattle.core_laws.specs.DriveParts.{MayDrive}
use Rattle.core_laws.proofs.CoreMoves.{StandsReady, host_may, link_reached, turned_stands, worker_may}
use Rattle.core_laws.proofs.DriveWalks.{AreKeptParts, HoldOfSteps, drive_kept, of_link, step_walk}
use Rattle.core_laws.proofs.Outcomes.{report_left}
use Rattle.act_laws.specs.CoreDeeds.{drive_deeds, driven_takes}
use Rattle.act_laws.specs.Deeds.{Deeds}
use Rattle.act_laws.proofs.ActLands.{LandsAt}
use Rattle.act_laws.proofs.CoreLands.{LandsIf, drive_lands}
use Rattle.act_laws.proofs.Lands.{lands_lists, link_both, may_both, whole_both}
use Rattle.act_laws.proofs.ReachedActs.{may_act}
use Rattle.way_laws.specs.WordedTakes.{ComesFromOpening, IsWordedTake}
use Rattle.way_laws.proofs.BookedTakes.{ReachTakesOne, TakesOne, advance_once, begin_once}
use Rattle.way_laws.proofs.DrivenTakes.{drive_told}
use Rattle.way_laws.proofs.WordedLines.{once_worded}

-- a step that ended a call left a link, and where the call took a message it is told of one handing
abbrev pub DrivenTakesOne : DriveOutcome → Option BenchState → Type 0
DrivenTakesOne (driven.Ended caller came) (Some bench) = TakesOne (link_in bench) caller came
DrivenTakesOne (driven.Ended caller came) None = ⊥
DrivenTakesOne other found = Unit {0}

abbrev StepOnce : DriveStep → Type 0
StepOnce step = DrivenTakesOne step.driven step.core.bench

-- ---- a step on the link

abbrev WalkOnce : ℕ → BenchWalk → Type 0
WalkOnce caller walk = DrivenTakesOne (drive_of_reach caller walk.reach) (Some walk.bench)

reach_once : (bench : BenchState) (caller : ℕ) (came : Reach) → ReachTakesOne (link_in bench) caller came → DrivenTakesOne (drive_of_reach caller came) (Some bench)
reach_once bench caller (reach.At step) is = tt
reach_once bench caller (reach.Ended came) is = is
reach_once bench caller reach.Limit is = tt

link_once : (bench : BenchState) (caller : ℕ) (calls : List Wish) → MayBegin bench caller calls → IsReachedBench bench → ComesFromOpening (link_in bench) → WalkOnce caller (link_step bench caller (first_or_take calls))
link_once bench caller calls may reached comes =
    let wanted = first_or_take calls in
    let advanced = advance_walk bench 0 0 caller in
    let started = start_walk bench 0 caller wanted in
    cond_both (is_in_call bench caller) advanced started (WalkOnce caller)
    (λ in_call. reach_once advanced.bench caller advanced.reach (advance_once bench comes 0 0 caller (begun_call_of bench caller) ((may_act bench reached).go caller in_call)))
    (λ none. reach_once started.bench caller started.reach (begin_once bench comes 0 0 caller wanted (may none)))

-- ---- a step of an actor

work_once : (core : CoreState) (done : Work) → StepOnce (step_with_report (record { core = core; driven = drive_of_work done }))
work_once core work.Nothing = tt
work_once core (work.Ask wanted) = tt
work_once core work.Halted = tt
work_once core (work.Crash kind) = tt
work_once core (work.Fault why) = tt

abbrev Comes : BenchState → Type 0
Comes bench = ComesFromOpening (link_in bench)

once_parts : HoldOfSteps (λ (core : CoreState). StandsReady core × IfSome core.bench Comes) StepOnce
once_parts = record {
  rest = λ core is. tt;
  turn = λ who core is. (turned_stands who core is.0, is.1);
  host = λ core bench there busy is. link_once bench 0 core.actors.host_calls (host_may core bench there is.0) (link_reached core bench there is.0) (of_link Comes core bench there is.1);
  call = λ core bench there busy is. link_once bench 1 core.actors.worker_calls (worker_may core bench there is.0) (link_reached core bench there is.0) (of_link Comes core bench there is.1);
  work = λ core load there silent busy is.
      let map = placed_map core.regions load in work_once (after_record core load map) (work_of load.memory map (is_some core.bench) core.actors.worker);
}

pub drive_once : (core : CoreState) → MayDrive core → IsReachedCore core → IfSome core.bench (λ (bench : BenchState). ComesFromOpening (link_in bench)) → StepOnce (drive_step core)
drive_once core may reached comes = step_walk _ StepOnce once_parts core (record { may = may; reached = reached }, comes)

-- ---- what it tells

worded_at : (takes : End → List Handing) (caller number : ℕ) (judged : Verdict) (left : Option BenchState) → DrivenTakesOne (driven.Ended caller (ended.Took number judged)) left
    → ((end : End) → takes end ≡ driven_takes (driven.Ended caller (ended.Took number judged)) left end) → IsSomeAnd left (λ (bench : BenchState). IsWordedTake takes (link_in bench) caller number judged)
worded_at takes caller number judged None one tells = absurd one
worded_at takes caller number judged (Some bench) one tells = once_worded takes (link_in bench) caller number judged one tells

pub drive_worded : (core : CoreState) → MayDrive core → IsReachedCore core → IfSome core.bench (λ (bench : BenchState). ComesFromOpening (link_in bench)) → (caller number : ℕ) (judged : Verdict)
    → (drive_step core).driven ≡ driven.Ended caller (ended.Took number judged)
    → IsSomeAnd (drive_step core).core.bench (λ (left : BenchState). IsWordedTake (drive_deeds core).takes (link_in left) caller number judged)
drive_worded core may reached comes caller number judged is =
    let left = (drive_step core).core.bench in
    worded_at (drive_deeds core).takes caller number judged left (subst (λ (came : DriveOutcome). DrivenTakesOne came left) is (drive_once core may reached comes))
    (λ end. subst (λ (came : DriveOutcome). (drive_deeds core).takes end ≡ driven_takes came left end) is (drive_told end core))

-- ---- the link that it leaves

comes_on : (bench left : BenchState) (deeds : Deeds) → LandsAt bench deeds left → ComesFromOpening (link_in bench) → ComesFromOpening (link_in left)
comes_on bench left deeds lands comes = record {
  way = way_on comes.way deeds.moves;
  is_way = record {
    opened = comes.is_way.opened;
    whole = whole_both comes.way.moves deeds.moves comes.is_way.whole lands.whole;
    may = may_both comes.way.start comes.way.moves deeds.moves comes.is_way.may
        (subst (λ (link : LinkState EndState). MayMoves side_meaning link deeds.moves) (sym comes.leads) lands.may);
  };
  leads =
      link_both comes.way.start comes.way.moves deeds.moves ∙ ap (λ (link : LinkState EndState). link_after_moves side_meaning link deeds.moves) comes.leads
      ∙ lands_lists bench.rings deeds left.rings lands;
}

comes_if : (found : Option BenchState) (deeds : Deeds) (left : Option BenchState) → LandsIf found deeds left → IfSome found (λ (bench : BenchState). ComesFromOpening (link_in bench))
    → IfSome left (λ (bench : BenchState). ComesFromOpening (link_in bench))
comes_if None deeds None lands comes = tt
comes_if None deeds (Some left) lands comes = absurd lands
comes_if (Some bench) deeds None lands comes = absurd lands
comes_if (Some bench) deeds (Some left) lands comes = comes_on bench left deeds lands comes

-- a step of the actors leaves a link that comes by a way from an opening
pub drive_comes : (core : CoreState) → MayDrive core → IsReachedCore core → IfSome core.bench (λ (bench : BenchState). ComesFromOpening (link_in bench))
    → IfSome (drive_step core).core.bench (λ (bench : BenchState). ComesFromOpening (link_in bench))
drive_comes core may reached comes = comes_if core.bench (drive_deeds core) (drive_step core).core.bench (drive_lands core may reached) comes

-- where a core has no link a step leaves none, and tells of no take
none_parts : AreKeptParts (λ (core : CoreState). core.bench ≡ None)
none_parts = record {
  turn = λ who core is. is;
  host = λ core bench there busy is. absurd (cc);
  call = λ core bench there busy is. absurd (cc);
  run = λ core load there silent busy is. is;
  report = λ core is. report_left (λ (core : CoreState). core.bench ≡ None) true core is (λ life stops. ap (option_map crashed_bench) is);
}

none_told : (came : DriveOutcome) (end : End) → driven_takes came None end ≡ []
none_told driven.Idle end = refl
none_told driven.Stepped end = refl
none_told (driven.Ended caller came) end = refl
none_told (driven.Worker why closed) end = refl
none_told (driven.Crashed why closed) end = refl

pub none_driven : (core : CoreState) (end : End) → core.bench ≡ None → (drive_deeds core).takes end ≡ []
none_driven core end none =
    drive_told end core
    ∙ ap (λ (left : Option BenchState). driven_takes (drive_step core).driven left end) (drive_kept (λ (core : CoreState). core.bench ≡ None) none_parts core none)
    ∙ none_told (drive_step core).driven end
