-- Who makes a step of a drive, and whose turn is next.
use Rattle.std.proofs.Common.{◌≡◌, ◌⊎◌, inl, inr, ℕ, ◌&&◌, ◌||◌, not, suc, zero, Bool, true, false, cond, List, ◌∷◌, length, Option, Some, None, is_some, refl, ap, sym, ◌∙◌, subst, arith}
use Rattle.std.proofs.lemmas.Bool.{cond_both, false≢true, ne_eqb}
use Rattle.rp_base.specs.declared.kinds.End.{End}
use Rattle.rp_base.specs.declared.kinds.End.TheVariants as side
use Rattle.lane_model.specs.declared.calls.CallEnd.{CallEnd}
use Rattle.lane_model.specs.declared.calls.Wish.{Wish}
use Rattle.lane_model.specs.Links.{end_of}
use Rattle.link_bench.specs.declared.benches.Reach.{Reach}
use Rattle.link_bench.specs.declared.benches.Reach.TheVariants as reach
use Rattle.link_bench.specs.Benches.{BenchState, advance_walk, is_in_call, link_in, start_walk}
use Rattle.remote_core.specs.Works.{work_of}
use Rattle.remote_core.specs.declared.workers.Work.{Work}
use Rattle.remote_core.specs.declared.workers.Work.TheVariants as work
use Rattle.core_actors.specs.declared.actors.Actor.{Actor}
use Rattle.core_actors.specs.declared.actors.Actor.TheVariants as actor
use Rattle.core_actors.specs.declared.progress.DriveOutcome.{DriveOutcome}
use Rattle.core_actors.specs.declared.progress.DriveOutcome.TheVariants as driven
use Rattle.core_actors.specs.Actors.{ActorsState, other_actor}
use Rattle.crash_recover.specs.Cores.{CoreState}
use Rattle.core_actors.specs.ActorEnds.{actors_after_end, actors_at_end, end_answer, message_of, sends_of}
use Rattle.core_actors.specs.ActorSteps.{drive_of_reach, drive_of_work, first_or_take, has_calls, is_empty, is_rest, link_step}
use Rattle.crash_recover.specs.Drives.{DriveStep, actor_to_step, after_record, drive_step, driven_with_report, host_step, is_idle, is_idle_actor, placed_map, record_step, with_turn_after, worker_call}
use Rattle.core_laws.specs.DriveParts.{beside_actor}
use Rattle.core_laws.proofs.DriveWalks.{AreLeftParts, HoldOfParts, drive_left, drive_walk}
use Rattle.drive_laws.specs.Queues.{IsQueued}
use Rattle.drive_laws.specs.Steps.{step_by, after_steps}
use Rattle.drive_laws.proofs.QueueFacts.{all_stay, more_behind, queues_on}
use Rattle.drive_laws.proofs.StepFacts.{call_steps, host_steps, report_keeps, worker_steps}

-- ---- whose turn

and_false : (b : Bool) → (b && false) ≡ false
and_false true = refl
and_false false = refl

busy_one : (core : CoreState) (one : Actor) → is_idle_actor core one ≡ false → is_idle core ≡ false
busy_one core actor.Host busy = ap (λ b. b && is_idle_actor core actor.Worker) busy
busy_one core actor.Worker busy = ap (λ b. is_idle_actor core actor.Host && b) busy ∙ and_false (is_idle_actor core actor.Host)

step_is : (core : CoreState) (one : Actor) → is_idle core ≡ false → actor_to_step core ≡ one → drive_step core ≡ step_by one core
step_is core one busy acts =
    ap (λ (b : Bool). cond b (record { core = core; driven = driven.Idle }) (step_by (actor_to_step core) core)) busy ∙ ap (λ (who : Actor). step_by who core) acts

pub own_turn : (core : CoreState) → is_idle_actor core core.actors.next ≡ false → drive_step core ≡ step_by core.actors.next core
own_turn core busy =
    step_is core core.actors.next (busy_one core core.actors.next busy) (ap (λ (b : Bool). cond b (other_actor core.actors.next) core.actors.next) busy)

pub passed_turn : (core : CoreState) → is_idle_actor core core.actors.next ≡ true → is_idle_actor core (other_actor core.actors.next) ≡ false
    → drive_step core ≡ step_by (other_actor core.actors.next) core
passed_turn core idle busy =
    let other = other_actor core.actors.next in
    step_is core other (busy_one core other busy) (ap (λ (b : Bool). cond b other core.actors.next) idle)

pub both_rest : (core : CoreState) → is_idle_actor core actor.Host ≡ true → is_idle_actor core actor.Worker ≡ true → drive_step core ≡ record { core = core; driven = driven.Idle }
both_rest core host worker =
    let idle : is_idle core ≡ true = ap (λ b. b && is_idle_actor core actor.Worker) host ∙ worker in
    ap (λ (b : Bool). cond b (record { core = core; driven = driven.Idle }) (step_by (actor_to_step core) core)) idle

pub turn_behind : (core : CoreState) (one : Actor) → (step_by one core).core.actors.next ≡ other_actor one
turn_behind core actor.Host = (host_steps (with_turn_after actor.Host core) core.bench).next
turn_behind core actor.Worker = (worker_steps (with_turn_after actor.Worker core)).next

-- ---- nobody waits

one_or_other : (one next : Actor) → (next ≡ one) ⊎ (next ≡ other_actor one)
one_or_other actor.Host actor.Host = inl refl
one_or_other actor.Host actor.Worker = inr refl
one_or_other actor.Worker actor.Host = inr refl
one_or_other actor.Worker actor.Worker = inl refl

other_twice : (one : Actor) → other_actor (other_actor one) ≡ one
other_twice actor.Host = refl
other_twice actor.Worker = refl

-- an actor whose turn it is and that has something to do makes the step
mine : (core : CoreState) (one : Actor) → core.actors.next ≡ one → is_idle_actor core one ≡ false → drive_step core ≡ step_by one core
mine core one turn busy = own_turn core (ap (is_idle_actor core) turn ∙ busy) ∙ ap (λ (who : Actor). step_by who core) turn

pub alone_acts : (core : CoreState) (one : Actor) → is_idle_actor core one ≡ false → is_idle_actor core (other_actor one) ≡ true → drive_step core ≡ step_by one core
alone_acts core one busy idle =
    elim (one_or_other one core.actors.next) [
      | inl turn ↦ mine core one turn busy
      | inr turn ↦
          let me : other_actor core.actors.next ≡ one = ap other_actor turn ∙ other_twice one in
          passed_turn core (ap (is_idle_actor core) turn ∙ idle) (ap (is_idle_actor core) me ∙ busy) ∙ ap (λ (who : Actor). step_by who core) me
    ]

pub two_steps : (core : CoreState) (one : Actor) → is_idle_actor core one ≡ false → is_idle_actor (drive_step core).core one ≡ false
    → (drive_step core ≡ step_by one core) ⊎ (drive_step (drive_step core).core ≡ step_by one (drive_step core).core)
two_steps core one busy later =
    elim (one_or_other one core.actors.next) [
      | inl turn ↦ inl (mine core one turn busy)
      | inr turn ↦ by (is_idle_actor core (other_actor one)) refl turn
    ]
  where
    by : (idle : Bool) → is_idle_actor core (other_actor one) ≡ idle → core.actors.next ≡ other_actor one
        → (drive_step core ≡ step_by one core) ⊎ (drive_step (drive_step core).core ≡ step_by one (drive_step core).core)
    by true idle turn = inl (alone_acts core one busy idle)
    by false works turn =
        let stepped : drive_step core ≡ step_by (other_actor one) core = mine core (other_actor one) turn works in
        let next : (drive_step core).core.actors.next ≡ one = ap (λ (step : DriveStep). step.core.actors.next) stepped ∙ turn_behind core (other_actor one) ∙ other_twice one in
        inr (mine (drive_step core).core one next later)

-- ---- what a step was

walk_busy : (caller : ℕ) (far : Reach) → is_rest (drive_of_reach caller far) ≡ false
walk_busy caller (reach.At step) = refl
walk_busy caller (reach.Ended end) = refl
walk_busy caller reach.Limit = refl

work_busy : (done : Work) (core : CoreState) → is_rest (driven_with_report (drive_of_work done) core) ≡ false
work_busy work.Nothing core = refl
work_busy (work.Ask wanted) core = refl
work_busy work.Halted core = refl
work_busy (work.Crash kind) core = refl
work_busy (work.Fault fault) core = refl

-- beside a step stands whether there was nothing to do
abbrev none_on_link : Option BenchState → ℕ → Wish → Bool
none_on_link found caller wanted = false

abbrev none_on_record : DriveOutcome → CoreState → Bool
none_on_record came core = false

rest_parts : HoldOfParts true none_on_link none_on_record (λ (core : CoreState). Unit {0}) (λ (step : DriveStep) (rest : Bool). is_rest step.driven ≡ rest)
rest_parts = record {
  rest = λ core is. refl;
  turn = λ who core is. tt;
  host = λ core bench there busy is. walk_busy 0 (link_step bench 0 (first_or_take core.actors.host_calls)).reach;
  call = λ core bench there busy is. walk_busy 1 (link_step bench 1 (first_or_take core.actors.worker_calls)).reach;
  work = λ core load there silent busy is.
      let map = placed_map core.regions load in work_busy (work_of load.memory map (is_some core.bench) core.actors.worker) (after_record core load map);
}

acts : (who : Actor) (core : CoreState) → beside_actor none_on_link none_on_record who core ≡ false
acts actor.Host core = refl
acts actor.Worker core = cond_both (has_calls core.bench core.actors) false false (λ (rest : Bool). rest ≡ false) (λ _. refl) (λ _. refl)

pub idle_only : (core : CoreState) → (drive_step core).driven ≡ driven.Idle → is_idle core ≡ true
idle_only core rest =
    by (is_idle core) (sym (drive_walk true none_on_link none_on_record _ _ rest_parts core tt) ∙ ap is_rest rest)
  where
    by : (idle : Bool) → cond idle true (beside_actor none_on_link none_on_record (actor_to_step core) (with_turn_after (actor_to_step core) core)) ≡ true → idle ≡ true
    by true is = refl
    by false is = absurd (false≢true (sym (acts (actor_to_step core) (with_turn_after (actor_to_step core) core)) ∙ is))

-- ---- what is done on the link

-- a link on which this caller has a call under way, or begins one
walk_on : (bench : BenchState) (caller : ℕ) (wanted : Wish) → is_in_call bench caller ≡ true → link_step bench caller wanted ≡ advance_walk bench 0 0 caller
walk_on bench caller wanted calls = ap (λ b. cond b (advance_walk bench 0 0 caller) (start_walk bench 0 caller wanted)) calls

walk_first : (bench : BenchState) (caller : ℕ) (calls : List Wish) (wanted : Wish) → is_in_call bench caller ≡ false → first_or_take calls ≡ wanted
    → link_step bench caller (first_or_take calls) ≡ start_walk bench 0 caller wanted
walk_first bench caller calls wanted silent first =
    ap (λ b. cond b (advance_walk bench 0 0 caller) (start_walk bench 0 caller (first_or_take calls))) silent ∙ ap (start_walk bench 0 caller) first

host_bench : (core : CoreState) (bench : BenchState) → core.bench ≡ Some bench → (step_by actor.Host core).core.bench ≡ Some (link_step bench 0 (first_or_take core.actors.host_calls)).bench
host_bench core bench there = ap (λ (found : Option BenchState). (host_step (with_turn_after actor.Host core) found).core.bench) there

pub host_goes_on : (core : CoreState) (bench : BenchState) → core.bench ≡ Some bench → is_in_call bench 0 ≡ true → (step_by actor.Host core).core.bench ≡ Some (advance_walk bench 0 0 0).bench
host_goes_on core bench there calls = host_bench core bench there ∙ ap (λ walk. Some walk.bench) (walk_on bench 0 (first_or_take core.actors.host_calls) calls)

pub host_begins : (core : CoreState) (bench : BenchState) (wanted : Wish) → core.bench ≡ Some bench → is_in_call bench 0 ≡ false → first_or_take core.actors.host_calls ≡ wanted
    → (step_by actor.Host core).core.bench ≡ Some (start_walk bench 0 0 wanted).bench
host_begins core bench wanted there silent first =
    host_bench core bench there ∙ ap (λ walk. Some walk.bench) (walk_first bench 0 core.actors.host_calls wanted silent first)

-- the worker where it makes a call
worker_bench : (core : CoreState) (bench : BenchState) → core.bench ≡ Some bench → (is_in_call bench 1 || not (is_empty core.actors.worker_calls)) ≡ true
    → (step_by actor.Worker core).core.bench ≡ Some (link_step bench 1 (first_or_take core.actors.worker_calls)).bench
worker_bench core bench there calls =
    let turned = with_turn_after actor.Worker core in
    let makes : has_calls core.bench turned.actors ≡ true = ap (λ (found : Option BenchState). has_calls found turned.actors) there ∙ calls in
    ap (λ (b : Bool). (cond b (worker_call turned core.bench) (record_step turned)).core.bench) makes
    ∙ ap (λ (found : Option BenchState). (worker_call turned found).core.bench) there

pub worker_goes_on : (core : CoreState) (bench : BenchState) → core.bench ≡ Some bench → is_in_call bench 1 ≡ true → (step_by actor.Worker core).core.bench ≡ Some (advance_walk bench 0 0 1).bench
worker_goes_on core bench there calls =
    worker_bench core bench there (ap (λ b. b || not (is_empty core.actors.worker_calls)) calls)
    ∙ ap (λ walk. Some walk.bench) (walk_on bench 1 (first_or_take core.actors.worker_calls) calls)

-- a list of calls that has a first one
has_first : (first : Wish) (later : List Wish) → not (is_empty (first ∷ later)) ≡ true
has_first first later = ap not (ne_eqb (suc (length later)) 0 (λ none. absurd (omega arith)))

pub worker_begins : (core : CoreState) (bench : BenchState) (first : Wish) (later : List Wish) → core.bench ≡ Some bench → is_in_call bench 1 ≡ false → core.actors.worker_calls ≡ first ∷ later
    → (step_by actor.Worker core).core.bench ≡ Some (start_walk bench 0 1 first).bench
worker_begins core bench first later there silent calls =
    worker_bench core bench there (ap (λ b. b || not (is_empty core.actors.worker_calls)) silent ∙ ap (λ list. not (is_empty list)) calls ∙ has_first first later)
    ∙ ap (λ walk. Some walk.bench) (walk_first bench 1 core.actors.worker_calls first silent (ap first_or_take calls))

-- ---- what is pending over steps

heard_at : (found : Option End) (message : List ℕ) (end : CallEnd) (actors : ActorsState)
    → IsQueued 0 actors.host_calls (actors_at_end found message end actors).host_calls × ((actors_at_end found message end actors).worker_calls ≡ actors.worker_calls)
heard_at None message end actors = (all_stay 0 actors.host_calls, refl)
heard_at (Some side.Host) message end actors = (more_behind 0 actors.host_calls (sends_of (end_answer actors.drivers message end)), refl)
heard_at (Some side.Remote) message end actors = (all_stay 0 actors.host_calls, refl)

pub heard : (bench : BenchState) (caller : ℕ) (end : CallEnd) (actors : ActorsState)
    → let after = actors_after_end bench caller end actors in IsQueued 0 actors.host_calls after.host_calls × (after.worker_calls ≡ actors.worker_calls)
heard bench caller end actors = heard_at (end_of (link_in bench).callers caller) (message_of bench caller end) end actors

pub host_queued : (core : CoreState) → IsQueued 1 core.actors.host_calls (step_by actor.Host core).core.actors.host_calls
host_queued core = (host_steps (with_turn_after actor.Host core) core.bench).calls

stay_queued : (start after : List Wish) → after ≡ start → IsQueued 1 start after
stay_queued start after same = subst (IsQueued 1 start) (sym same) (all_stay 1 start)

-- each part of a step, of a core whose host actor is yet to make these calls
queued_parts : (start : List Wish) → AreLeftParts (λ (core : CoreState). core.actors.host_calls ≡ start) (λ (core : CoreState). IsQueued 1 start core.actors.host_calls)
queued_parts start = record {
  turn = λ who core is. is;
  host = λ core bench there busy is. subst (λ (before : List Wish). IsQueued 1 before (host_step core (Some bench)).core.actors.host_calls) is (host_steps core (Some bench)).calls;
  call = λ core bench there busy is. stay_queued start _ ((call_steps core (Some bench)).step.host_calls ∙ is);
  run = λ core load there silent busy is. stay_queued start _ is;
  report = λ core is. subst (λ (actors : ActorsState). IsQueued 1 start actors.host_calls) (sym (report_keeps core)) is;
}

drive_queued : (core : CoreState) → IsQueued 1 core.actors.host_calls (drive_step core).core.actors.host_calls
drive_queued core = drive_left _ _ (queued_parts core.actors.host_calls) (λ now same. stay_queued core.actors.host_calls now.actors.host_calls same) core refl

pub steps_queued : (core : CoreState) (count : ℕ) → IsQueued count core.actors.host_calls (after_steps count core).actors.host_calls
steps_queued core zero = all_stay 0 core.actors.host_calls
steps_queued core (suc more) =
    let first = drive_queued core in
    let later = steps_queued (drive_step core).core more in
    let both = queues_on 1 more core.actors.host_calls _ _ first later in
    record { sent = both.sent; few = omega (arith, both.few); new = both.new; left = both.left }
