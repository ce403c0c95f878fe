-- The one walk of a step of a core's actors: what holds of each part of it, and of what goes beside it, holds of the step. And what an actor may begin.
use Rattle.std.proofs.Common.{◌≡◌, ℕ, Bool, true, false, cond, List, Option, Some, None, IfSome, is_none, refl, subst}
use Rattle.std.proofs.lemmas.Bool.{false≢true, or_parts, true≢false}
use Rattle.lane_model.specs.declared.calls.Wish.{Wish}
use Rattle.link_bench.specs.Benches.{BenchState, begin_fault, is_in_call, link_in}
use Rattle.core_actors.specs.declared.actors.Actor.{Actor}
use Rattle.core_actors.specs.declared.actors.Actor.TheVariants as actor
use Rattle.core_actors.specs.declared.progress.DriveOutcome.{DriveOutcome}
use Rattle.core_actors.specs.declared.progress.DriveOutcome.TheVariants as driven
use Rattle.core_actors.specs.ActorSteps.{first_or_take, has_calls, host_is_idle, worker_is_idle}
use Rattle.core_actors.specs.PendingCalls.{AreOwnUsed, AreReady}
use Rattle.core_actors.proofs.ReadyActors.{host_begins, worker_begins}
use Rattle.crash_recover.specs.CoreCrashes.{after_report}
use Rattle.crash_recover.specs.Cores.{CoreState, LoadState}
use Rattle.crash_recover.specs.Drives.{DriveStep, actor_step, actor_to_step, core_with_report, drive_step, host_step, is_idle, is_idle_actor, placed_map, record_run, record_step, run_by, step_with_report, with_turn_after, worker_call}
use Rattle.crash_recover.specs.KeptCores.{IsKeptBench, IsReadyLink}
use Rattle.crash_recover.proofs.DriveSteps.{acting_busy}
use Rattle.crash_recover.proofs.ReadyCores.{ready_now}
use Rattle.core_laws.specs.DriveParts.{MayDrive, beside_actor, beside_drive}

-- what holds of the link that a core has
pub of_link : (P : BenchState → Type 0) (core : CoreState) (bench : BenchState) → core.bench ≡ Some bench → IfSome core.bench P → P bench
of_link P core bench there is = subst (λ (found : Option BenchState). IfSome found P) there is

-- ---- what an actor may begin

-- a call of an actor is under way, or its next one may begin
abbrev pub MayGoOn : BenchState → ℕ → List Wish → Type 0
MayGoOn bench caller calls = is_in_call bench caller ≡ false → begin_fault bench caller (first_or_take calls) ≡ None

-- what is known of the link of a core whose actors may make their next steps
pub may_own : (core : CoreState) (bench : BenchState) → core.bench ≡ Some bench → MayDrive core → AreOwnUsed (link_in bench).callers
may_own core bench there may = (of_link (IsKeptBench core.life) core bench there may.kept).own

pub may_now : (core : CoreState) (bench : BenchState) → core.bench ≡ Some bench → MayDrive core → AreReady core.actors bench
may_now core bench there may = ready_now core.life.state core.actors bench may.up (subst (IsReadyLink core.life.state core.actors) there may.ready)

pub may_host : (core : CoreState) (bench : BenchState) → core.bench ≡ Some bench → MayDrive core → MayGoOn bench 0 core.actors.host_calls
may_host core bench there may none = host_begins core.actors bench (may_own core bench there may) (may_now core bench there may).calls none

pub may_worker : (core : CoreState) (bench : BenchState) → core.bench ≡ Some bench → MayDrive core → MayGoOn bench 1 core.actors.worker_calls
may_worker core bench there may none = worker_begins core.actors bench (may_own core bench there may) (may_now core bench there may).calls none

-- whose turn is next is nothing to it
pub turned_may : (who : Actor) (core : CoreState) → MayDrive core → MayDrive (with_turn_after who core)
turned_may who core may = record { up = may.up; kept = may.kept; ready = may.ready }

-- ---- the walk

-- one choice or the other, and what goes beside each, under one test
pub both_known : {A B : Type 0} (test : Bool) (P : A → B → Type 0) (one two : A) (first second : B) → (test ≡ true → P one first) → (test ≡ false → P two second)
    → P (cond test one two) (cond test first second)
both_known true P one two first second is other = is refl
both_known false P one two first second is other = other refl

-- what holds of a core before a step, and then of each part of the step and of what goes beside it
pub record HoldOfParts {X : Type 0} (none : X) (on_link : Option BenchState → ℕ → Wish → X) (on_record : DriveOutcome → CoreState → X) (Before : CoreState → Type 0) (After : DriveStep → X → Type 0) : Type 0 where
  pub rest : (core : CoreState) → Before core → After (record { core = core; driven = driven.Idle }) none
  pub turn : (who : Actor) (core : CoreState) → Before core → Before (with_turn_after who core)
  pub host : (core : CoreState) (bench : BenchState) → core.bench ≡ Some bench → host_is_idle (Some bench) core.actors ≡ false → Before core
      → After (host_step core (Some bench)) (on_link (Some bench) 0 (first_or_take core.actors.host_calls))
  pub call : (core : CoreState) (bench : BenchState) → core.bench ≡ Some bench → worker_is_idle (Some bench) core.actors ≡ false → Before core
      → After (worker_call core (Some bench)) (on_link (Some bench) 1 (first_or_take core.actors.worker_calls))
  pub work : (core : CoreState) (load : LoadState) → core.loaded ≡ Some load → has_calls core.bench core.actors ≡ false → worker_is_idle core.bench core.actors ≡ false → Before core
      → let done = run_by core load (placed_map core.regions load) in After (step_with_report done) (on_record done.driven done.core)

module _ {X : Type 0} (none : X) (on_link : Option BenchState → ℕ → Wish → X) (on_record : DriveOutcome → CoreState → X) (Before : CoreState → Type 0) (After : DriveStep → X → Type 0)
    (parts : HoldOfParts none on_link on_record Before After) where
  host_walk : (core : CoreState) (found : Option BenchState) → core.bench ≡ found → host_is_idle found core.actors ≡ false → Before core
      → After (host_step core found) (on_link found 0 (first_or_take core.actors.host_calls))
  host_walk core None there busy is = absurd (true≢false busy)
  host_walk core (Some bench) there busy is = parts.host core bench there busy is

  call_walk : (core : CoreState) (found : Option BenchState) → core.bench ≡ found → has_calls found core.actors ≡ true → worker_is_idle found core.actors ≡ false → Before core
      → After (worker_call core found) (on_link found 1 (first_or_take core.actors.worker_calls))
  call_walk core None there has busy is = absurd (false≢true has)
  call_walk core (Some bench) there has busy is = parts.call core bench there busy is

  work_walk : (core : CoreState) (found : Option LoadState) → core.loaded ≡ found → is_none found ≡ false → has_calls core.bench core.actors ≡ false → worker_is_idle core.bench core.actors ≡ false → Before core
      → let done = record_run core found in After (step_with_report done) (on_record done.driven done.core)
  work_walk core None there unloaded silent busy is = absurd (true≢false unloaded)
  work_walk core (Some load) there loaded silent busy is = parts.work core load there silent busy is

  actor_walk : (who : Actor) (core : CoreState) → is_idle_actor core who ≡ false → Before core → After (actor_step who core) (beside_actor on_link on_record who core)
  actor_walk actor.Host core busy is = host_walk core core.bench refl busy is
  actor_walk actor.Worker core busy is =
      let works = or_parts (is_none core.loaded) (worker_is_idle core.bench core.actors) busy in
      both_known (has_calls core.bench core.actors) After (worker_call core core.bench) (record_step core) _ _
      (λ has. call_walk core core.bench refl has works.1 is) (λ silent. work_walk core core.loaded refl works.0 silent works.1 is)

  -- a step of the actors
  pub drive_walk : (core : CoreState) → Before core → After (drive_step core) (beside_drive none on_link on_record core)
  drive_walk core is =
      both_known (is_idle core) After _ _ none _ (λ _. parts.rest core is)
      (λ busy. actor_walk (actor_to_step core) (with_turn_after (actor_to_step core) core) (acting_busy core busy) (parts.turn (actor_to_step core) core is))

-- the same where nothing goes beside the step
abbrev pub no_link : Option BenchState → ℕ → Wish → Unit {0}
no_link found caller wanted = tt

abbrev pub no_record : DriveOutcome → CoreState → Unit {0}
no_record came core = tt

abbrev pub HoldOfSteps : (CoreState → Type 0) → (DriveStep → Type 0) → Type 0
HoldOfSteps Before After = HoldOfParts tt no_link no_record Before (λ (step : DriveStep) (beside : Unit {0}). After step)

pub step_walk : (Before : CoreState → Type 0) (After : DriveStep → Type 0) → HoldOfSteps Before After → (core : CoreState) → Before core → After (drive_step core)
step_walk Before After parts core is = drive_walk tt no_link no_record Before (λ (step : DriveStep) (beside : Unit {0}). After step) parts core is

-- ---- of cores alone

-- what holds of a core before a step, and then of the core that each part of the step leaves; behind a record a crash may be reported
pub record AreLeftParts (Before After : CoreState → Type 0) : Type 0 where
  pub turn : (who : Actor) (core : CoreState) → Before core → Before (with_turn_after who core)
  pub host : (core : CoreState) (bench : BenchState) → core.bench ≡ Some bench → host_is_idle (Some bench) core.actors ≡ false → Before core → After (host_step core (Some bench)).core
  pub call : (core : CoreState) (bench : BenchState) → core.bench ≡ Some bench → worker_is_idle (Some bench) core.actors ≡ false → Before core → After (worker_call core (Some bench)).core
  pub run : (core : CoreState) (load : LoadState) → core.loaded ≡ Some load → has_calls core.bench core.actors ≡ false → worker_is_idle core.bench core.actors ≡ false → Before core
      → After (run_by core load (placed_map core.regions load)).core
  pub report : (core : CoreState) → After core → After (after_report core)

-- what holds of a core over a report of a crash holds of it with what a step may have reported
pub reported : (P : CoreState → Type 0) → ((core : CoreState) → P core → P (after_report core)) → (came : DriveOutcome) (core : CoreState) → P core → P (core_with_report came core)
reported P report driven.Idle core is = is
reported P report driven.Stepped core is = is
reported P report (driven.Ended caller end) core is = is
reported P report (driven.Worker why closed) core is = report core is
reported P report (driven.Crashed kind closed) core is = report core is

-- what each part leaves, the step leaves
pub drive_left : (Before After : CoreState → Type 0) → AreLeftParts Before After → ((core : CoreState) → Before core → After core) → (core : CoreState) → Before core → After (drive_step core).core
drive_left Before After parts stays core is =
    step_walk Before (λ (step : DriveStep). After step.core) (record {
      rest = stays;
      turn = parts.turn;
      host = parts.host;
      call = parts.call;
      work = λ core load there silent busy is.
          let ran = run_by core load (placed_map core.regions load) in reported After parts.report ran.driven ran.core (parts.run core load there silent busy is);
    }) core is

-- what a core keeps over each part of a step
abbrev pub AreKeptParts : (CoreState → Type 0) → Type 0
AreKeptParts P = AreLeftParts P P

-- a core keeps it over a step of its actors
pub drive_kept : (P : CoreState → Type 0) → AreKeptParts P → (core : CoreState) → P core → P (drive_step core).core
drive_kept P parts core is = drive_left P P parts (λ core is. is) core is
