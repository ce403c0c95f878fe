-- A worker runs its records in order.
use Rattle.std.proofs.Common.{◌≡◌, ◌⊎◌, inl, inr, ℕ, ◌+◌, ◌==◌, ◌&&◌, not, nat_lt, Bool, true, false, cond, List, Option, Some, None, is_some, Result, Ok, Err, refl, ap, sym, ◌∙◌, subst}
use Rattle.addr_translate.specs.Maps.{Mapping}
use Rattle.remote_code.specs.declared.faults.WorkerFault.{WorkerFault}
use Rattle.remote_code.specs.declared.faults.WorkerFault.TheVariants.{CodeUnmapped, BadOperand, NoLink}
use Rattle.remote_code.specs.declared.records.Record.{Record}
use Rattle.remote_code.specs.declared.records.Record.TheVariants.{Halt, Loop}
use Rattle.remote_core.specs.Records.{admitted, has_large_operand, names_memory, needs_link, next_record, record_at, tested, with_memory}
use Rattle.remote_core.specs.Workers.{WorkerState}
use Rattle.remote_core.specs.Works.{after_next, after_record, after_work}
use Rattle.link_bench.specs.Benches.{BenchState}
use Rattle.core_actors.specs.declared.actors.Actor.TheVariants as actor
use Rattle.core_actors.specs.Actors.{ActorsState}
use Rattle.crash_recover.specs.Cores.{CoreState, LoadState}
use Rattle.core_actors.specs.ActorSteps.{has_calls}
use Rattle.crash_recover.specs.Drives.{placed_map, record_run, record_step, step_with_report, with_turn_after, worker_call}
use Rattle.drive_laws.specs.Places.{StaysAt, GoesOn}
use Rattle.drive_laws.specs.Steps.{step_by}
use Rattle.drive_laws.proofs.StepFacts.{host_steps, record_actors, worker_stays}

-- this record was found
abbrev Is : Result Record WorkerFault → Record → Type 0
Is found op = found ≡ Ok op

-- the record that is run is the one at its place
pub runs_at : (memory : List ℕ) (map : Mapping) (linked : Bool) (worker : WorkerState) (op : Record) → next_record memory map linked worker ≡ Ok op → record_at memory map worker.entry worker.place ≡ Ok op
runs_at memory map linked worker op is = found (record_at memory map worker.entry worker.place) is
  where
    named : (at : Record) (names : Bool) → Is (cond names (Ok at) (Err CodeUnmapped)) op → Is (Ok at) op
    named at true e = e
    named at false e = absurd cc

    may : (at : Record) (unlinked large : Bool) → Is (tested (with_memory map) (cond unlinked (Err NoLink) (cond large (Err BadOperand) (Ok at)))) op → Is (Ok at) op
    may at true large e = absurd cc
    may at false true e = absurd cc
    may at false false e = named at (names_memory map at) e

    found : (at : Result Record WorkerFault) → Is (tested (with_memory map) (tested (admitted linked) at)) op → Is at op
    found (Ok at) e = may at (needs_link at && not linked) (has_large_operand at) e
    found (Err fault) e = absurd cc

-- where it leads
goes_on : (op : Record) (worker : WorkerState) → GoesOn op worker (after_record op worker)
goes_on Halt worker = refl
goes_on (Loop turns to) worker = by (turns == 0) (nat_lt (worker.turns + 1) turns)
  where
    by : (always again : Bool) → let after = cond always (record worker { place = to }) (cond again (record worker { place = to; turns = worker.turns + 1 }) (record worker { place = worker.place + 1; turns = 0 })) in
        (after.place ≡ to) ⊎ (after.place ≡ worker.place + 1)
    by true again = inl refl
    by false true = inl refl
    by false false = inr refl
goes_on other worker = refl

pub run_goes_on : (memory : List ℕ) (map : Mapping) (linked : Bool) (worker : WorkerState) (op : Record) → worker.is_halted ≡ false → next_record memory map linked worker ≡ Ok op
    → GoesOn op worker (after_work memory map linked worker)
run_goes_on memory map linked worker op runs is =
    let after : after_work memory map linked worker ≡ after_record op worker =
    ap (λ b. cond b worker (after_next (next_record memory map linked worker) worker)) runs ∙ ap (λ (next : Result Record WorkerFault). after_next next worker) is in
    subst (GoesOn op worker) (sym after) (goes_on op worker)

pub fault_stays : (memory : List ℕ) (map : Mapping) (linked : Bool) (worker : WorkerState) (fault : WorkerFault) → next_record memory map linked worker ≡ Err fault → after_work memory map linked worker ≡ worker
fault_stays memory map linked worker fault is =
    ap (λ (next : Result Record WorkerFault). cond worker.is_halted worker (after_next next worker)) is ∙ either worker.is_halted
  where
    either : (b : Bool) → cond b worker worker ≡ worker
    either true = refl
    either false = refl

pub ended_stays : (memory : List ℕ) (map : Mapping) (linked : Bool) (worker : WorkerState) → worker.is_halted ≡ true → after_work memory map linked worker ≡ worker
ended_stays memory map linked worker halted = ap (λ b. cond b worker (after_next (next_record memory map linked worker) worker)) halted

-- whose turn is next doesn't matter to whether the worker makes a call
calls_same : (core : CoreState) (found : Option BenchState) → has_calls found (with_turn_after actor.Worker core).actors ≡ has_calls found core.actors
calls_same core None = refl
calls_same core (Some bench) = refl

-- a worker of a core that is loaded runs a record where it makes no call
pub runs_record : (core : CoreState) (load : LoadState) → core.loaded ≡ Some load → has_calls core.bench core.actors ≡ false
    → (step_by actor.Worker core).core.actors.worker ≡ after_work load.memory (placed_map core.regions load) (is_some core.bench) core.actors.worker
runs_record core load there none =
    let turned = with_turn_after actor.Worker core in
    ap (λ (b : Bool). (cond b (worker_call turned core.bench) (record_step turned)).core.actors.worker) (calls_same core core.bench ∙ none)
    ∙ ap (λ (given : Option LoadState). (step_with_report (record_run turned given)).core.actors.worker) there
    ∙ ap (λ (actors : ActorsState). actors.worker) (record_actors turned load)

pub call_stays : (core : CoreState) → has_calls core.bench core.actors ≡ true → StaysAt core.actors.worker (step_by actor.Worker core).core.actors.worker
call_stays core calls = worker_stays (with_turn_after actor.Worker core) (calls_same core core.bench ∙ calls)

pub host_stays : (core : CoreState) → (step_by actor.Host core).core.actors.worker ≡ core.actors.worker
host_stays core = (host_steps (with_turn_after actor.Host core) core.bench).worker
