-- A step of the actors of a core that runs leaves fewer, or the core has crashed.
use Rattle.std.proofs.Common.{◌≡◌, ◌⊎◌, inl, inr, ◌<◌, ◌≤◌, ℕ, suc, ◌+◌, ◌-◌, ◌*◌, ◌==◌, cond, Bool, true, false, not, ◌&&◌, ◌||◌, List, [], ◌∷◌, ◌++◌, length, Option, Some, None, is_some, refl, sym, ap, ap₂, subst, ◌∙◌, arith}
use Rattle.std.specs.Option.{option_map_or}
use Rattle.std.proofs.lemmas.Bool.{cond_both, eq-eqb, eqb-false, false≢true, ne_eqb, or_parts, true≢false}
use Rattle.rp_base.specs.declared.kinds.End.{End}
use Rattle.rp_base.specs.declared.kinds.End.TheVariants as side
use Rattle.rp_base.specs.declared.kinds.LifeState.{LifeState}
use Rattle.rp_base.specs.declared.kinds.LifeState.TheVariants.{Running, Crashed}
use Rattle.addr_translate.specs.Maps.{Mapping}
use Rattle.remote_core.specs.Workers.{WorkerState, after_take}
use Rattle.remote_core.specs.Works.{after_work, memory_after, work_of}
use Rattle.remote_core.specs.declared.workers.Work.{Work}
use Rattle.remote_core.specs.declared.workers.Work.TheVariants as work
use Rattle.proc_state.specs.Lives.{is_up}
use Rattle.lane_model.specs.declared.calls.Outcome.{Outcome}
use Rattle.lane_model.specs.declared.calls.Outcome.TheVariants as outcome
use Rattle.lane_model.specs.declared.calls.Wish.{Wish}
use Rattle.lane_model.specs.declared.calls.Wish.TheVariants as wish
use Rattle.lane_model.specs.declared.stages.Receiving.{Receiving}
use Rattle.lane_model.specs.declared.stages.Sending.{Sending}
use Rattle.lane_model.specs.declared.stages.Turn.{Turn}
use Rattle.lane_model.specs.declared.stages.Turn.TheVariants as turn
use Rattle.lane_model.specs.declared.states.LaneState.{LaneState}
use Rattle.lane_model.specs.Conditions.{is_calling, is_in_call as is_in_call_on}
use Rattle.lane_model.specs.Forms.{list_form}
use Rattle.lane_model.specs.Lanes.{has_call}
use Rattle.lane_model.specs.Links.{Lanes, LinkState, caller_step, end_of, lanes_of, lanes_step, on_lanes, with_lanes}
use Rattle.channel_bus.specs.Sides.{EndState, side_meaning}
use Rattle.link_bench.specs.declared.benches.BegunCall.{BegunCall}
use Rattle.core_actors.specs.Actors.{ActorsState}
use Rattle.core_laws.specs.BenchMoves.{IsReachedBench}
use Rattle.core_laws.specs.DriveParts.{beside_actor, beside_drive}
use Rattle.link_bench.specs.Benches.{BenchState, BenchWalk, LinkRings, Walk, advance_walk, begun_call_of, bench_walk, call_steps, is_in_call, later_steps, link_in, on_lists, start_walk}
use Rattle.link_bench.proofs.Lists.{call_lists, later_lists}
use Rattle.crash_recover.specs.Cores.{CoreState, LoadState}
use Rattle.core_actors.specs.ActorEnds.{message_of, taken_number, worker_after_end}
use Rattle.core_actors.specs.ActorSteps.{first_or_take, host_at_step_as, host_is_idle, host_after_step, is_drained, is_empty, worker_after_step, begins_with_take}
use Rattle.crash_recover.specs.Drives.{DriveStep, actor_to_step, core_with_report, drive_step, host_step, is_idle, placed_map, run_by, step_with_report, with_turn_after, worker_call}
use Rattle.core_actors.specs.PendingCalls.{AreOwnUsed, HasNoneBegun}
use Rattle.crash_recover.specs.KeptCores.{IsKeptBench}
use Rattle.demo_laws.proofs.ActorBounds.{HasMessageNow, HostLeft, LinkWithin, WorkerLeft, host_first_step, host_later, more_link, paid, worker_asks, worker_first_step, worker_later}
use Rattle.demo_laws.proofs.CallCosts.{AreWorkerCalls, WorkerFits, call_cost, calls_cost, gives_in, one_give, one_send, one_take, sends_in, takes_in, worker_after}
use Rattle.demo_laws.proofs.ActorCalls.{IsNoUnbind, TurnsOf}
use Rattle.core_laws.proofs.CrashReclaims.{reached_sound}
use Rattle.demo_laws.proofs.OwnCalls.{IsFree, IsOwnSend, IsOwnWork}
use Rattle.core_actors.proofs.PendingActors.{linked}
use Rattle.core_actors.proofs.PendingSteps.{one_call, one_later, reach_by}
use Rattle.std.proofs.Common.{◌≢◌, ⊎_elim}
use Rattle.std.proofs.lemmas.Bool.{cases_lt}
use Rattle.core_actors.specs.declared.actors.Actor.{Actor}
use Rattle.core_actors.specs.declared.actors.Actor.TheVariants as actor
use Rattle.core_actors.specs.declared.progress.DriveOutcome.{DriveOutcome}
use Rattle.crash_recover.specs.CoreCrashes.{after_report, report_of}
use Rattle.core_actors.specs.Actors.{other_actor}
use Rattle.core_actors.specs.ActorSteps.{drive_of_work, has_calls, wishes_of_work, worker_is_idle}
use Rattle.core_laws.proofs.CoreMoves.{StandsReady, link_reached, turned_stands}
use Rattle.core_laws.proofs.DriveWalks.{HoldOfParts, drive_walk, may_now, may_own, of_link}
use Rattle.run_laws.proofs.CoresReady.{IsSoundCore, may_drive, sound_cores}
use Rattle.demo_laws.proofs.OwnCalls.{handed_so_far}

-- ---- whether an actor is in a call

-- a caller with such turns has a call on its lanes just where it is in one
free_sending : (caller : ℕ) (now : Turn Sending) → IsFree now → has_call now caller ≡ false
free_sending caller turn.Free is = refl
free_sending caller (turn.Taken other call) is = absurd is
free_sending caller (turn.Leaving other ended) is = absurd is
free_sending caller turn.Manager is = absurd is

free_receiving : (caller : ℕ) (now : Turn Receiving) → IsFree now → has_call now caller ≡ false
free_receiving caller turn.Free is = refl
free_receiving caller (turn.Taken other call) is = absurd is
free_receiving caller (turn.Leaving other ended) is = absurd is
free_receiving caller turn.Manager is = absurd is

own_sending : (caller inc : ℕ) (now : Turn Sending) → IsOwnSend caller inc now → has_call now caller ≡ true
own_sending caller inc turn.Free is = absurd is
own_sending caller inc (turn.Taken other s) is = eq-eqb other caller is.0
own_sending caller inc (turn.Leaving other ended) is = eq-eqb other caller is.0
own_sending caller inc turn.Manager is = absurd is

own_receiving : (caller inc : ℕ) (wanted : Wish) (now : Turn Receiving) → IsOwnWork caller inc wanted now → has_call now caller ≡ true
own_receiving caller inc wanted turn.Free is = absurd is
own_receiving caller inc wanted (turn.Taken other r) is = eq-eqb other caller is.0
own_receiving caller inc wanted (turn.Leaving other ended) is = eq-eqb other caller is.0
own_receiving caller inc wanted turn.Manager is = absurd is

turns_call : (caller inc : ℕ) (now : Option Wish) (sends : Turn Sending) (receives : Turn Receiving) → TurnsOf caller inc now sends receives
    → (has_call sends caller || has_call receives caller) ≡ is_some now
turns_call caller inc None sends receives is = ap₂ (λ (a b : Bool). a || b) (free_sending caller sends is.0) (free_receiving caller receives is.1)
turns_call caller inc (Some (wish.Send message)) sends receives is = ap₂ (λ (a b : Bool). a || b) (own_sending caller inc sends is.0) (free_receiving caller receives is.1)
turns_call caller inc (Some wish.Take) sends receives is = ap₂ (λ (a b : Bool). a || b) (free_sending caller sends is.0) (own_receiving caller inc wish.Take receives is.1)
turns_call caller inc (Some (wish.Give number)) sends receives is = ap₂ (λ (a b : Bool). a || b) (free_sending caller sends is.0) (own_receiving caller inc (wish.Give number) receives is.1)
turns_call caller inc (Some (wish.Bind address)) sends receives is = ap₂ (λ (a b : Bool). a || b) (free_sending caller sends is.0) (own_receiving caller inc (wish.Bind address) receives is.1)
turns_call caller inc (Some (wish.Unbind address)) sends receives is = absurd is

in_call_on : (bench : BenchState) (caller : ℕ) (end : End) → begun_call_of bench caller ≡ None → end_of (link_in bench).callers caller ≡ Some end
    → is_in_call bench caller ≡ is_in_call_on (lanes_of (link_in bench) end) caller
in_call_on bench caller end none user =
    ap (λ (found : Option BegunCall). is_some found || is_calling (link_in bench) caller) none
    ∙ ap (λ (found : Option End). option_map_or (λ end. is_in_call_on (lanes_of (link_in bench) end) caller) found false) user

-- a step on the lanes of a caller in use
used_step : (link : LinkState EndState) (caller follows : ℕ) (wished : Option Wish) (end : End) → end_of link.callers caller ≡ Some end
    → caller_step side_meaning link caller follows wished
    ≡ (let step = lanes_step (list_form side_meaning) side_meaning link.era (lanes_of link end) caller follows wished in record { state = with_lanes link end step.state; outcome = step.outcome })
used_step link caller follows wished end user =
    ap (λ (found : Option End). on_lanes link found (λ lanes. lanes_step (list_form side_meaning) side_meaning link.era lanes caller follows wished)) user

later_is : (link : LinkState EndState) (caller : ℕ) (end : End) → end_of link.callers caller ≡ Some end
    → (let step = lanes_step (list_form side_meaning) side_meaning link.era (lanes_of link end) caller 0 None in
    later_steps on_lists 1 0 0 link caller ≡ record { link = with_lanes link end step.state; steps = 1; reach = reach_by step.outcome })
later_is link caller end user =
    one_later link caller ∙ ap (λ step. record { link = step.state; steps = 1; reach = reach_by step.outcome }) (used_step link caller 0 None end user)

call_is : (link : LinkState EndState) (caller follows : ℕ) (wanted : Wish) (end : End) → end_of link.callers caller ≡ Some end
    → (let step = lanes_step (list_form side_meaning) side_meaning link.era (lanes_of link end) caller follows (Some wanted) in
    call_steps on_lists 0 0 link caller follows wanted ≡ record { link = with_lanes link end step.state; steps = 1; reach = reach_by step.outcome })
call_is link caller follows wanted end user =
    one_call link caller follows wanted ∙ ap (λ step. record { link = step.state; steps = 1; reach = reach_by step.outcome }) (used_step link caller follows (Some wanted) end user)

-- what a walk on lists leaves of a bench: over the same words, rings that stand for its link
abbrev with_lists : LinkRings → LinkState EndState → LinkRings
with_lists rings link =
    record { era = link.era; to_host = record rings.to_host { lane = link.to_host }; to_remote = record rings.to_remote { lane = link.to_remote }; callers = link.callers }

abbrev walk_over : BenchState → Walk (LaneState EndState) → BenchWalk
walk_over bench walk = bench_walk bench (record { link = with_lists bench.rings walk.link; steps = walk.steps; reach = walk.reach })

-- the call that a worker begins
first_fits : (calls : List Wish) → AreWorkerCalls calls → is_empty calls ≡ false → WorkerFits (Some (first_or_take calls)) calls
first_fits [] are none = absurd (true≢false none)
first_fits (first ∷ later) are none = (ap (λ (c : List Wish). first ∷ c) are.0, are.1)

first_message : (calls : List Wish) (handed accepted : ℕ) → (begins_with_take calls ≡ true → handed < accepted) → is_empty calls ≡ false → HasMessageNow (Some (first_or_take calls)) handed accepted
first_message [] handed accepted waits none = absurd (true≢false none)
first_message (wish.Send message ∷ later) handed accepted waits none = tt
first_message (wish.Take ∷ later) handed accepted waits none = waits refl
first_message (wish.Give number ∷ later) handed accepted waits none = tt
first_message (wish.Bind address ∷ later) handed accepted waits none = tt
first_message (wish.Unbind address ∷ later) handed accepted waits none = tt

-- small facts of truth values and of lists
free_takes : (caller inc : ℕ) (now : Option Wish) (sends : Turn Sending) (receives : Turn Receiving) → TurnsOf caller inc now sends receives → is_some now ≡ false → handed_so_far receives ≡ 0
free_takes caller inc None sends turn.Free turns none = refl
free_takes caller inc None sends (turn.Taken other call) turns none = absurd turns.1
free_takes caller inc None sends (turn.Leaving other ended) turns none = absurd turns.1
free_takes caller inc None sends turn.Manager turns none = absurd turns.1
free_takes caller inc (Some wanted) sends receives turns none = absurd (true≢false none)

none_now : (now : Option Wish) → is_some now ≡ false → now ≡ None
none_now None none = refl
none_now (Some wanted) none = absurd (true≢false none)

less_than : (accepted takers handed : ℕ) → takers ≤ accepted → accepted ≢ takers → takers ≡ handed + 0 → handed < accepted
less_than accepted takers handed less differ is = nearer (cases_lt takers accepted)
  where
    nearer : (takers < accepted) ⊎ (accepted ≤ takers) → handed < accepted
    nearer (inl below) = omega (arith, below, is)
    nearer (inr above) = absurd (differ (omega (arith, less, above)))

not_none : (in_call empty : Bool) → (in_call || not empty) ≡ true → in_call ≡ false → empty ≡ false
not_none false false has silent = refl
not_none false true has silent = absurd (false≢true has)
not_none true empty has silent = absurd (true≢false silent)

halts : (in_call halted waits : Bool) → (not in_call && (halted || waits)) ≡ false → in_call ≡ false → halted ≡ false
halts true halted waits busy silent = absurd (true≢false silent)
halts false true waits busy silent = absurd (true≢false busy)
halts false false waits busy silent = refl

message_waits : (in_call drained : Bool) (calls : List Wish) → (not in_call && (is_empty calls && drained)) ≡ false → calls ≡ [] → in_call ≡ false → drained ≡ false
message_waits in_call drained calls busy none silent = sym (ap₂ (λ (calling : Bool) (calls : List Wish). not calling && (is_empty calls && drained)) silent none) ∙ busy

message_comes : (in_call halted takes drained : Bool) → (not in_call && (halted || (takes && drained))) ≡ false → in_call ≡ false → takes ≡ true → drained ≡ false
message_comes true halted takes drained busy silent taking = absurd (true≢false silent)
message_comes false true takes drained busy silent taking = absurd (true≢false busy)
message_comes false false false drained busy silent taking = absurd (false≢true taking)
message_comes false false true drained busy silent taking = busy

no_calls : (calls : List Wish) → not (is_empty calls) ≡ false → calls ≡ []
no_calls [] none = refl
no_calls (first ∷ later) none = absurd (true≢false (sym (ap not (ne_eqb (suc (length later)) 0 (λ is. absurd (omega (arith, is))))) ∙ none))

-- ---- which part of a step it is

-- beside a step of an actor stands whether it is one of the worker on the link, and beside no step nothing
abbrev of_caller : Option BenchState → ℕ → Wish → Option Bool
of_caller found caller wanted = Some (caller == 1)

abbrev of_record : DriveOutcome → CoreState → Option Bool
of_record came left = Some false

-- a step is made, and one of the worker on the link where it has a call to make
abbrev IsMade : CoreState → Option Bool → Type 0
IsMade core beside = (beside ≢ None) × (beside ≡ Some true → has_calls core.bench core.actors ≡ true)

-- whose turn is next is nothing to that
has_turned : (actors : ActorsState) (next : Actor) (found : Option BenchState) → has_calls found (record actors { next = next }) ≡ has_calls found actors
has_turned actors next None = refl
has_turned actors next (Some bench) = refl

step_made : (core : CoreState) → is_idle core ≡ false → IsMade core (beside_drive None of_caller of_record core)
step_made core busy =
    let who = actor_to_step core in
    cond_both (is_idle core) None (beside_actor of_caller of_record who (with_turn_after who core)) (IsMade core) (λ idle. absurd (true≢false (sym idle ∙ busy))) (λ _. by who)
  where
    by : (who : Actor) → IsMade core (beside_actor of_caller of_record who (with_turn_after who core))
    by actor.Host = (λ is. absurd (cc), λ is. absurd (cc))
    by actor.Worker =
        let same = has_turned core.actors (other_actor actor.Worker) core.bench in
        cond_both (has_calls core.bench (with_turn_after actor.Worker core).actors) (Some true) (Some false) (IsMade core)
        (λ has. (λ is. absurd (cc), λ _. sym same ∙ has)) (λ _. (λ is. absurd (cc), λ is. absurd (cc)))

-- a report of a crash leaves a core that runs crashed
crashes_in : (core : CoreState) (found : Option BenchState) → (after_report (record core { life = record core.life { state = Running }; bench = found })).life.state ≡ Crashed
unfolding report_of
crashes_in core None = refl
crashes_in core (Some bench) = refl

crashes : (core : CoreState) → core.life.state ≡ Running → (after_report core).life.state ≡ Crashed
crashes core running =
    subst (λ (state : LifeState). (after_report (record core { life = record core.life { state = state } })).life.state ≡ Crashed) (sym running) (crashes_in core core.bench)

-- what is left on a link, or of a worker's records without one
abbrev pub IsLeft : ℕ → ℕ → List Wish → Bool → List Wish → Option BenchState → ℕ → Type 0
IsLeft left credits host_calls is_taking worker_calls None within = left ≤ within
IsLeft left credits host_calls is_taking worker_calls (Some bench) within = LinkWithin left credits host_calls is_taking worker_calls (link_in bench) within

-- ---- the program of a worker

module _ (Fits : WorkerState → Type 0) (records credit : WorkerState → ℕ) where
  -- what a record does: the records that are left are fewer, by what the call costs that it asks for, and no more sends stand out than takes allow
  abbrev pub WorkGoes : Work → WorkerState → WorkerState → Type 0
  WorkGoes (work.Ask wanted) before after =
      Fits after × IsNoUnbind wanted × (one_give wanted ≡ 0) × (records after + call_cost wanted + 17 * one_send wanted + 1 ≤ records before) × (credit after + one_send wanted ≤ credit before + one_take wanted)
  WorkGoes work.Nothing before after = Fits after × (records after + 1 ≤ records before) × (credit after ≤ credit before)
  WorkGoes work.Halted before after = Fits after × (records after + 1 ≤ records before) × (credit after ≤ credit before)
  WorkGoes (work.Crash kind) before after = Unit {0}
  WorkGoes (work.Fault fault) before after = Unit {0}

  -- a memory in which each record of a worker leaves fewer
  pub record IsProgram (memory : List ℕ) (map : Mapping) : Type 0 where
    pub took : (message : List ℕ) (worker : WorkerState) → Fits worker
        → Fits (after_take message worker) × (records (after_take message worker) ≡ records worker) × (credit (after_take message worker) ≡ credit worker)
    pub runs : (is_linked : Bool) (worker : WorkerState) → Fits worker → worker.is_halted ≡ false
        → (1 ≤ records worker) × (memory_after memory map is_linked worker ≡ memory) × WorkGoes (work_of memory map is_linked worker) worker (after_work memory map is_linked worker)

  -- what is left on the link of a core, or of a worker without one
  abbrev pub OnLink : ActorsState → Option BenchState → ℕ → Type 0
  OnLink actors found within = IsLeft (records actors.worker) (credit actors.worker) actors.host_calls actors.is_taking actors.worker_calls found within

  -- ---- the host actor

  module _ (actors : ActorsState) (bench : BenchState) (within : ℕ) (reached : IsReachedBench bench) (live : (link_in bench).era.is_live ≡ true) (own : AreOwnUsed (link_in bench).callers) (begun : HasNoneBegun bench)
      (is : OnLink actors (Some bench) within) where
    abbrev HostStays : Bool → BenchWalk → Type 0
    HostStays in_call walk =
        OnLink (host_after_step (host_at_step_as in_call actors) walk.bench walk.reach) (Some walk.bench) (within - 1) × (1 ≤ within) × ((host_after_step (host_at_step_as in_call actors) walk.bench walk.reach).worker ≡ actors.worker)

    host_after_later : (done : Outcome) (after : Lanes (LaneState EndState))
        → HostLeft (records actors.worker) (credit actors.worker) actors.host_calls actors.is_taking actors.worker_calls (link_in bench) within (reached_sound (link_in bench) reached.link) live is done after × (1 ≤ within)
        → HostStays true (walk_over bench (record { link = with_lanes (link_in bench) side.Host after; steps = 1; reach = reach_by done }))
    host_after_later (outcome.At step) after left = (left.0, left.1, refl)
    host_after_later (outcome.Ended ended) after left =
        (left.0 actors.drivers (message_of (record bench { rings = with_lists bench.rings (with_lanes (link_in bench) side.Host after) }) 0 ended), left.1, refl)

    -- whether the host actor is in a call
    host_call : is_in_call bench 0 ≡ is_some is.host_now
    host_call = in_call_on bench 0 side.Host begun.host own.host ∙ turns_call 0 (link_in bench).era.inc is.host_now (link_in bench).to_remote.sender (link_in bench).to_host.receiver is.host.turns

    host_walk : (in_call : Bool) → is_in_call bench 0 ≡ in_call → (now : Option Wish) → is.host_now ≡ now
        → (actors.host_calls ≡ [] → in_call ≡ false → is.host_took < length (link_in bench).to_host.lane.accepted)
        → HostStays in_call (cond in_call (advance_walk bench 0 0 0) (start_walk bench 0 0 (first_or_take actors.host_calls)))
    host_walk true calls (Some wanted) now waits =
        linked bench 0 (first_or_take actors.host_calls) (HostStays true) true begun.host
        (λ _. subst (λ (walk : Walk (LaneState EndState)). HostStays true (walk_over bench walk)) (sym (later_lists 1 0 0 bench.rings 0 ∙ later_is (link_in bench) 0 side.Host own.host))
        (host_after_later _ _
        (host_later (records actors.worker) (credit actors.worker) actors.host_calls actors.is_taking actors.worker_calls (link_in bench) within (reached_sound (link_in bench) reached.link) live is wanted now)))
        (λ no. absurd (true≢false no))
    host_walk true calls None now waits = absurd (true≢false (sym calls ∙ host_call ∙ ap is_some now))
    host_walk false calls (Some wanted) now waits = absurd (false≢true (sym calls ∙ host_call ∙ ap is_some now))
    host_walk false calls None now waits =
        linked bench 0 (first_or_take actors.host_calls) (HostStays false) false begun.host (λ yes. absurd (false≢true yes))
        (λ _. subst (λ (walk : Walk (LaneState EndState)). HostStays false (walk_over bench walk))
        (sym (call_lists 0 0 bench.rings 0 (link_in bench).era.inc (first_or_take actors.host_calls) ∙ call_is (link_in bench) 0 (link_in bench).era.inc (first_or_take actors.host_calls) side.Host own.host)) first)
      where
        first : let step = lanes_step (list_form side_meaning) side_meaning (link_in bench).era (lanes_of (link_in bench) side.Host) 0 (link_in bench).era.inc (Some (first_or_take actors.host_calls)) in
            HostStays false (walk_over bench (record { link = with_lanes (link_in bench) side.Host step.state; steps = 1; reach = reach_by step.outcome }))
        first =
            let step = lanes_step (list_form side_meaning) side_meaning (link_in bench).era (lanes_of (link_in bench) side.Host) 0 (link_in bench).era.inc (Some (first_or_take actors.host_calls)) in
            let left = host_first_step (records actors.worker) (credit actors.worker) actors.host_calls actors.is_taking actors.worker_calls (link_in bench) within (reached_sound (link_in bench) reached.link) live is now (λ none. waits none refl) in
            subst (λ (done : Outcome). HostStays false (walk_over bench (record { link = with_lanes (link_in bench) side.Host step.state; steps = 1; reach = reach_by done })))
            (sym left.0.1) (left.1, left.2, refl)

    -- ---- the worker's calls

    module _ (fits : Fits actors.worker)
        (took : (message : List ℕ) (worker : WorkerState) → Fits worker → Fits (after_take message worker) × (records (after_take message worker) ≡ records worker) × (credit (after_take message worker) ≡ credit worker)) where
      abbrev WorkerStays : BenchWalk → Type 0
      WorkerStays walk =
          OnLink (worker_after_step actors walk.bench walk.reach) (Some walk.bench) (within - 1) × (1 ≤ within) × Fits (worker_after_step actors walk.bench walk.reach).worker

      after_end : (message : List ℕ) (found : Option ℕ)
          → let after = worker_after_end actors.worker message found in Fits after × (records after ≡ records actors.worker) × (credit after ≡ credit actors.worker)
      after_end message None = (fits, refl, refl)
      after_end message (Some number) = took message actors.worker fits

      worker_after_later : (done : Outcome) (after : Lanes (LaneState EndState))
          → WorkerLeft (records actors.worker) (credit actors.worker) actors.host_calls actors.is_taking actors.worker_calls (link_in bench) within (reached_sound (link_in bench) reached.link) live is done after × (1 ≤ within)
          → WorkerStays (walk_over bench (record { link = with_lanes (link_in bench) side.Remote after; steps = 1; reach = reach_by done }))
      worker_after_later (outcome.At step) after left = (left.0, left.1, fits)
      worker_after_later (outcome.Ended ended) after left =
          let message = message_of (record bench { rings = with_lists bench.rings (with_lanes (link_in bench) side.Remote after) }) 1 ended in
          let same = after_end message (taken_number ended) in (
            subst (λ (r : ℕ). LinkWithin r (credit (worker_after_end actors.worker message (taken_number ended))) actors.host_calls actors.is_taking (worker_after actors.worker_calls ended) (with_lanes (link_in bench) side.Remote after) (within - 1)) (sym same.1)
                (subst (λ (c : ℕ). LinkWithin (records actors.worker) c actors.host_calls actors.is_taking (worker_after actors.worker_calls ended) (with_lanes (link_in bench) side.Remote after) (within - 1)) (sym same.2) left.0),
            left.1,
            same.0,
          )

      worker_in_call : is_in_call bench 1 ≡ is_some is.worker_now
      worker_in_call = in_call_on bench 1 side.Remote begun.worker own.remote ∙ turns_call 1 (link_in bench).era.inc is.worker_now (link_in bench).to_host.sender (link_in bench).to_remote.receiver is.worker.turns

      worker_walk : (in_call : Bool) → is_in_call bench 1 ≡ in_call → (now : Option Wish) → is.worker_now ≡ now
          → (in_call ≡ false → is_empty actors.worker_calls ≡ false)
          → (in_call ≡ false → begins_with_take actors.worker_calls ≡ true → is.worker_took < length (link_in bench).to_remote.lane.accepted)
          → WorkerStays (cond in_call (advance_walk bench 0 0 1) (start_walk bench 0 1 (first_or_take actors.worker_calls)))
      worker_walk true calls (Some wanted) now some waits =
          linked bench 1 (first_or_take actors.worker_calls) WorkerStays true begun.worker
          (λ _. subst (λ (walk : Walk (LaneState EndState)). WorkerStays (walk_over bench walk)) (sym (later_lists 1 0 0 bench.rings 1 ∙ later_is (link_in bench) 1 side.Remote own.remote))
          (worker_after_later _ _
          (worker_later (records actors.worker) (credit actors.worker) actors.host_calls actors.is_taking actors.worker_calls (link_in bench) within (reached_sound (link_in bench) reached.link) live is wanted now)))
          (λ no. absurd (true≢false no))
      worker_walk true calls None now some waits = absurd (true≢false (sym calls ∙ worker_in_call ∙ ap is_some now))
      worker_walk false calls (Some wanted) now some waits = absurd (false≢true (sym calls ∙ worker_in_call ∙ ap is_some now))
      worker_walk false calls None now some waits =
          linked bench 1 (first_or_take actors.worker_calls) WorkerStays false begun.worker (λ yes. absurd (false≢true yes))
          (λ _. subst (λ (walk : Walk (LaneState EndState)). WorkerStays (walk_over bench walk))
          (sym (call_lists 0 0 bench.rings 1 (link_in bench).era.inc (first_or_take actors.worker_calls) ∙ call_is (link_in bench) 1 (link_in bench).era.inc (first_or_take actors.worker_calls) side.Remote own.remote)) first)
        where
          first : let step = lanes_step (list_form side_meaning) side_meaning (link_in bench).era (lanes_of (link_in bench) side.Remote) 1 (link_in bench).era.inc (Some (first_or_take actors.worker_calls)) in
              WorkerStays (walk_over bench (record { link = with_lanes (link_in bench) side.Remote step.state; steps = 1; reach = reach_by step.outcome }))
          first =
              let step = lanes_step (list_form side_meaning) side_meaning (link_in bench).era (lanes_of (link_in bench) side.Remote) 1 (link_in bench).era.inc (Some (first_or_take actors.worker_calls)) in
              let are : AreWorkerCalls actors.worker_calls = subst (λ (n : Option Wish). WorkerFits n actors.worker_calls) now is.worker_fits in
              let left = worker_first_step (records actors.worker) (credit actors.worker) actors.host_calls actors.is_taking actors.worker_calls (link_in bench) within (reached_sound (link_in bench) reached.link) live is
              (first_or_take actors.worker_calls) now (first_fits actors.worker_calls are (some refl))
              (first_message actors.worker_calls is.worker_took (length (link_in bench).to_remote.lane.accepted) (waits refl) (some refl)) in
              subst (λ (done : Outcome). WorkerStays (walk_over bench (record { link = with_lanes (link_in bench) side.Remote step.state; steps = 1; reach = reach_by done })))
              (sym left.0.1) (left.1, left.2, fits)

  -- more steps are enough too
  pub more_on : (actors : ActorsState) (found : Option BenchState) (within most : ℕ) → within ≤ most → OnLink actors found within → OnLink actors found most
  more_on actors None within most less on = omega (arith, less, on)
  more_on actors (Some bench) within most less on = more_link (records actors.worker) (credit actors.worker) actors.host_calls actors.is_taking actors.worker_calls (link_in bench) within most less on

  -- ---- a step of the actors of a core

  -- a core with a program, of whose actors' steps at most so many are left
  pub record Goes (core : CoreState) (within : ℕ) : Type 0 where
    pub load : LoadState
    pub loaded : core.loaded ≡ Some load
    pub program : IsProgram load.memory (placed_map core.regions load)
    pub fits : Fits core.actors.worker
    pub on : OnLink core.actors core.bench within

  -- a step was left, and the core has crashed with it, or goes on with one fewer
  record Came (within : ℕ) (after : CoreState) : Type 0 where
    pub some : 1 ≤ within
    pub came : (after.life.state ≡ Crashed) ⊎ ((after.life.state ≡ Running) × Goes after (within - 1))

  module _ (start : CoreState) (within : ℕ) where
    -- a core that runs so, and whose worker makes a call where that of the first one does
    record Stands (core : CoreState) : Type 0 where
      pub running : core.life.state ≡ Running
      pub goes : Goes core within
      pub ready : StandsReady core
      pub calls : has_calls core.bench core.actors ≡ has_calls start.bench start.actors

    module _ (core : CoreState) (is : Stands core) where
      on_link : (found : Option BenchState) → core.bench ≡ found → OnLink core.actors found within
      on_link found there = subst (λ (now : Option BenchState). OnLink core.actors now within) there is.goes.on

      -- ---- on the link

      module _ (bench : BenchState) (there : core.bench ≡ Some bench) where
        reached : IsReachedBench bench
        reached = link_reached core bench there is.ready

        live : (link_in bench).era.is_live ≡ true
        live = (of_link (IsKeptBench core.life) core bench there is.ready.may.kept).live ∙ is.ready.may.up

        own : AreOwnUsed (link_in bench).callers
        own = may_own core bench there is.ready.may

        begun : HasNoneBegun bench
        begun = (may_now core bench there is.ready.may).begun

        on : OnLink core.actors (Some bench) within
        on = on_link (Some bench) there

        host_comes : host_is_idle (Some bench) core.actors ≡ false → Came within (host_step core (Some bench)).core
        host_comes busy =
            let sound = reached_sound (link_in bench) reached.link in
            let left = host_walk core.actors bench within reached live own begun on (is_in_call bench 0) refl on.host_now refl
            (λ none silent.
            let differ = eqb-false (length (link_in bench).to_host.lane.accepted) (length (link_in bench).to_host.lane.takers) (message_waits (is_in_call bench 0) (is_drained bench 0) core.actors.host_calls busy none silent) in
            let clear = free_takes 0 (link_in bench).era.inc on.host_now (link_in bench).to_remote.sender (link_in bench).to_host.receiver on.host.turns (sym (host_call core.actors bench within reached live own begun on) ∙ silent) in
            less_than _ _ _ sound.to_host.lane.handed differ (on.host.took ∙ ap (λ (n : ℕ). on.host_took + n) clear)) in
            record {
              some = left.1;
              came = inr (is.running, record { load = is.goes.load; loaded = is.goes.loaded; program = is.goes.program; fits = subst Fits (sym left.2) is.goes.fits; on = left.0 });
            }

        call_comes : worker_is_idle (Some bench) core.actors ≡ false → has_calls start.bench start.actors ≡ true → Came within (worker_call core (Some bench)).core
        call_comes busy calls =
            let has = subst (λ (found : Option BenchState). has_calls found core.actors ≡ true) there (is.calls ∙ calls) in
            let took = is.goes.program.took in
            let sound = reached_sound (link_in bench) reached.link in
            let left = worker_walk core.actors bench within reached live own begun on is.goes.fits took (is_in_call bench 1) refl on.worker_now refl
            (λ silent. not_none (is_in_call bench 1) (is_empty core.actors.worker_calls) has silent)
            (λ silent takes.
            let differ = eqb-false (length (link_in bench).to_remote.lane.accepted) (length (link_in bench).to_remote.lane.takers)
            (message_comes (is_in_call bench 1) core.actors.worker.is_halted (begins_with_take core.actors.worker_calls) (is_drained bench 1) busy silent takes) in
            let clear = free_takes 1 (link_in bench).era.inc on.worker_now (link_in bench).to_host.sender (link_in bench).to_remote.receiver on.worker.turns
            (sym (worker_in_call core.actors bench within reached live own begun on is.goes.fits took) ∙ silent) in
            less_than _ _ _ sound.to_remote.lane.handed differ (on.worker.took ∙ ap (λ (n : ℕ). on.worker_took + n) clear)) in
            record {
              some = left.1;
              came = inr (is.running, record { load = is.goes.load; loaded = is.goes.loaded; program = is.goes.program; fits = left.2; on = left.0 });
            }

      -- ---- a record

      module _ (load : LoadState) (there : core.loaded ≡ Some load) (silent : has_calls core.bench core.actors ≡ false) where
        abbrev map : Mapping
        map = placed_map core.regions load

        abbrev after : WorkerState
        after = after_work load.memory map (is_some core.bench) core.actors.worker

        abbrev memory : List ℕ
        memory = memory_after load.memory map (is_some core.bench) core.actors.worker

        -- the core whose worker asks for these calls
        abbrev Worked : List Wish → CoreState
        Worked asked = record core {
          loaded = Some (record load { memory = memory });
          actors = record core.actors { worker = after; worker_calls = core.actors.worker_calls ++ asked };
        }

        program : IsProgram load.memory map
        program =
            let found : Some is.goes.load ≡ Some load = sym is.goes.loaded ∙ there in
            let same : is.goes.load ≡ load = cc in
            subst (λ (now : LoadState). IsProgram now.memory (placed_map core.regions now)) same is.goes.program

        going : (found : Option BenchState) → has_calls found core.actors ≡ false → worker_is_idle found core.actors ≡ false → core.actors.worker.is_halted ≡ false
        going None none busy = busy
        going (Some bench) none busy =
            let parts = or_parts (is_in_call bench 1) _ none in
            halts (is_in_call bench 1) core.actors.worker.is_halted (begins_with_take core.actors.worker_calls && is_drained bench 1) busy parts.0

        some_left : (found : Option BenchState) → core.bench ≡ found → 1 ≤ records core.actors.worker → 1 ≤ within
        some_left None there some = omega (arith, some, on_link None there)
        some_left (Some bench) there some =
            let pays = paid (records core.actors.worker) (credit core.actors.worker) core.actors.host_calls core.actors.is_taking core.actors.worker_calls (link_in bench) within (reached_sound (link_in bench) (reached bench there).link) (live bench there) (on bench there) in
            omega (arith, some, pays, (on bench there).cost)

        asks_on : (found : Option BenchState) → core.bench ≡ found → has_calls found core.actors ≡ false → (asked : List Wish) → AreWorkerCalls asked → gives_in asked ≡ 0
            → records after + calls_cost asked + 17 * sends_in asked + 1 ≤ records core.actors.worker → credit after + sends_in asked ≤ credit core.actors.worker + takes_in asked
            → OnLink (Worked asked).actors found (within - 1)
        asks_on None there none asked are no_gives less flows = omega (arith, less, on_link None there)
        asks_on (Some bench) there none asked are no_gives less flows =
            let parts = or_parts (is_in_call bench 1) _ none in
            let now = none_now (on bench there).worker_now
            (sym (worker_in_call core.actors bench within (reached bench there) (live bench there) (own bench there) (begun bench there) (on bench there) is.goes.fits program.took) ∙ parts.0) in
            (worker_asks (records core.actors.worker) (credit core.actors.worker) core.actors.host_calls core.actors.is_taking core.actors.worker_calls (link_in bench) within (reached_sound (link_in bench) (reached bench there).link)
            (live bench there) (on bench there) _ _ asked now (no_calls core.actors.worker_calls parts.1) are no_gives less flows).0

        module _ (some : 1 ≤ records core.actors.worker) (same : memory ≡ load.memory) where
          asks : (asked : List Wish) → Fits after → AreWorkerCalls asked → gives_in asked ≡ 0 → records after + calls_cost asked + 17 * sends_in asked + 1 ≤ records core.actors.worker
              → credit after + sends_in asked ≤ credit core.actors.worker + takes_in asked → Came within (Worked asked)
          asks asked fits are no_gives less flows = record {
            some = some_left core.bench refl some;
            came = inr (
              is.running,
              record {
                load = record load { memory = memory };
                loaded = refl;
                program = subst (λ (now : List ℕ). IsProgram now map) (sym same) program;
                fits = fits;
                on = asks_on core.bench refl silent asked are no_gives less flows;
              },
            );
          }

          down : Came within (after_report (Worked []))
          down = record { some = some_left core.bench refl some; came = inl (crashes (Worked []) is.running) }

          record_comes : (done : Work) → WorkGoes done core.actors.worker after → Came within (core_with_report (drive_of_work done) (Worked (wishes_of_work done)))
          record_comes (work.Ask wanted) goes = asks (wanted ∷ []) goes.0 (refl, goes.1) (omega (arith, goes.2)) (omega (arith, goes.3)) (omega (arith, goes.4))
          record_comes work.Nothing goes = asks [] goes.0 tt refl (omega (arith, goes.1)) (omega (arith, goes.2))
          record_comes work.Halted goes = asks [] goes.0 tt refl (omega (arith, goes.1)) (omega (arith, goes.2))
          record_comes (work.Crash kind) goes = down
          record_comes (work.Fault fault) goes = down

        work_comes : worker_is_idle core.bench core.actors ≡ false → Came within (step_with_report (run_by core load map)).core
        work_comes busy =
            let runs = program.runs (is_some core.bench) core.actors.worker is.goes.fits (going core.bench silent busy) in
            record_comes runs.0 runs.1 (work_of load.memory map (is_some core.bench) core.actors.worker) runs.2

    -- ---- the step

    abbrev Leaves : DriveStep → Option Bool → Type 0
    Leaves step beside = IsMade start beside → Came within step.core

    parts : HoldOfParts None of_caller of_record Stands Leaves
    parts = record {
      rest = λ core is made. absurd (made.0 refl);
      turn = λ who core is. record {
        running = is.running;
        goes = record { load = is.goes.load; loaded = is.goes.loaded; program = is.goes.program; fits = is.goes.fits; on = is.goes.on };
        ready = turned_stands who core is.ready;
        calls = has_turned core.actors (other_actor who) core.bench ∙ is.calls;
      };
      host = λ core bench there busy is made. host_comes core is bench there busy;
      call = λ core bench there busy is made. call_comes core is bench there busy (made.1 refl);
      work = λ core load there silent busy is made. work_comes core is load there silent busy;
    }

  -- a core that runs a program, and whose actors make at most so many steps more
  pub record IsWithin (core : CoreState) (within : ℕ) : Type 0 where
    pub goes : Goes core within
    pub sound : IsSoundCore core

  -- the same behind a step, of which one was left, unless the core has crashed with it
  pub record Drove (within : ℕ) (after : CoreState) : Type 0 where
    pub some : 1 ≤ within
    pub came : (after.life.state ≡ Crashed) ⊎ ((after.life.state ≡ Running) × IsWithin after (within - 1))

  pub drive_within : (core : CoreState) (within : ℕ) → IsWithin core within → core.life.state ≡ Running → is_idle core ≡ false → Drove within (drive_step core).core
  drive_within core within is running busy =
      let up = ap is_up running in
      let step = drive_walk None of_caller of_record (Stands core within) (Leaves core within) (parts core within) core
      (record { running = running; goes = is.goes; ready = record { may = may_drive core up is.sound; reached = is.sound.reached }; calls = refl }) (step_made core busy) in
      record {
        some = step.some;
        came = ⊎_elim (λ down. inl down) (λ on. inr (on.0, record { goes = on.1; sound = sound_cores.drive core up is.sound })) step.came;
      }
