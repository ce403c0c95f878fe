-- A record that a worker runs by the map of a load is one that it runs by what was placed: maps that place the same ranges at the same places are one to it.
use Rattle.std.proofs.Common.{◌≡◌, ℕ, ◌≤◌, Bool, true, false, cond, ◌&&◌, eqb, List, ◌++◌, length, Option, Some, None, Result, Ok, Err, is_ok, ok_or, is_some, refl, ap, sym, ◌∙◌, arith}
use Rattle.std.specs.Option.{option_and_then}
use Rattle.std.proofs.lemmas.Bool.{eqb-false}
use Rattle.memory_pool.specs.declared.regions.Region.{Region}
use Rattle.fw_load.specs.declared.loading.Loaded.{Loaded}
use Rattle.addr_translate.specs.Maps.{Mapping, place_at}
use Rattle.remote_code.specs.declared.faults.WorkerFault.{WorkerFault}
use Rattle.remote_code.specs.declared.faults.WorkerFault.TheVariants.{CodeUnmapped}
use Rattle.remote_code.specs.declared.records.Record.{Record}
use Rattle.remote_code.specs.declared.records.Record.TheVariants.{Halt, Announce, Bind, Send, Raw, Take, Trace, Crash, Loop}
use Rattle.lane_model.specs.declared.calls.Wish.TheVariants as wish
use Rattle.rpmsg_header.specs.Headers.{header_bytes}
use Rattle.remote_core.specs.Named.{named_place, bytes_from, written_from}
use Rattle.remote_core.specs.Records.{record_address, record_from, record_at, admitted, names_memory, tested, with_memory, next_record}
use Rattle.remote_core.specs.Works.{service_address, announcement, destination, work_of_record, memory_after_record, work_of_next, after_next, memory_after_next, work_of, after_work, memory_after}
use Rattle.remote_core.specs.Workers.{WorkerState}
use Rattle.remote_core.specs.declared.workers.Work.{Work}
use Rattle.remote_core.specs.declared.workers.Work.TheVariants as work
use Rattle.crash_recover.specs.Cores.{CoreState, IsSoundLoad, LoadState}
use Rattle.core_actors.specs.ActorSteps.{drive_of_work, wishes_of_work}
use Rattle.crash_recover.specs.Drives.{DriveStep, placed_map, record_run, run_by}

-- maps that place the same ranges at the same places in memory
abbrev pub PlacesAlike : Mapping → Mapping → Type 0
PlacesAlike one other = (da len : ℕ) → 1 ≤ len → place_at one da len ≡ place_at other da len

named_by : (none : Bool) (one other : Option ℕ) → (none ≡ false → one ≡ other) → cond none (Ok 0) (ok_or one CodeUnmapped) ≡ cond none (Ok 0) (ok_or other CodeUnmapped)
named_by true one other alike = refl
named_by false one other alike = ap (λ at. ok_or at CodeUnmapped) (alike refl)

some_bytes : (len : ℕ) → eqb len 0 ≡ false → 1 ≤ len
some_bytes len e = let some = eqb-false len 0 e in omega arith

named_alike : (one other : Mapping) → PlacesAlike one other → (da len : ℕ) → named_place one da len ≡ named_place other da len
named_alike one other alike da len =
    named_by (eqb len 0) (place_at one da len) (place_at other da len) (λ e. alike da len (some_bytes len e))

record_alike : (one other : Mapping) → PlacesAlike one other → (memory : List ℕ) (entry place : ℕ) → record_at memory one entry place ≡ record_at memory other entry place
record_alike one other alike memory entry place = by (record_address entry place)
  where
    by : (address : Option ℕ) → record_from memory (option_and_then (λ at. place_at one at 16) address) ≡ record_from memory (option_and_then (λ at. place_at other at 16) address)
    by None = refl
    by (Some at) = ap (record_from memory) (alike at 16 (omega arith))

names_alike : (one other : Mapping) → PlacesAlike one other → (op : Record) → names_memory one op ≡ names_memory other op
names_alike one other alike Halt = refl
names_alike one other alike (Announce a b c) = ap is_ok (named_alike one other alike c 32)
names_alike one other alike (Bind a) = refl
names_alike one other alike (Send n a b c) = ap is_ok (named_alike one other alike c n)
names_alike one other alike (Raw n c) = ap is_ok (named_alike one other alike c n)
names_alike one other alike Take = refl
names_alike one other alike (Trace n a c) =
    ap (λ from. is_ok from && is_ok (named_place one a n)) (named_alike one other alike c n)
    ∙ ap (λ to. is_ok (named_place other c n) && is_ok to) (named_alike one other alike a n)
names_alike one other alike (Crash a) = refl
names_alike one other alike (Loop a b) = refl

next_alike : (one other : Mapping) → PlacesAlike one other → (memory : List ℕ) (linked : Bool) (worker : WorkerState) → next_record memory one linked worker ≡ next_record memory other linked worker
next_alike one other alike memory linked worker =
    ap (λ found. tested (with_memory one) (tested (admitted linked) found)) (record_alike one other alike memory worker.entry worker.place)
    ∙ by (tested (admitted linked) (record_at memory other worker.entry worker.place))
  where
    by : (found : Result Record WorkerFault) → tested (with_memory one) found ≡ tested (with_memory other) found
    by (Ok op) = ap (λ named. cond named (Ok op) (Err CodeUnmapped)) (names_alike one other alike op)
    by (Err fault) = refl

work_alike : (one other : Mapping) → PlacesAlike one other → (memory : List ℕ) (source : ℕ) (op : Record) → work_of_record memory one source op ≡ work_of_record memory other source op
work_alike one other alike memory source Halt = refl
work_alike one other alike memory source (Announce a b c) =
    ap (λ at. work.Ask (wish.Send (header_bytes a service_address (announcement (bytes_from memory 31 at) a b)))) (named_alike one other alike c 32)
work_alike one other alike memory source (Bind a) = refl
work_alike one other alike memory source (Send n a b c) =
    ap (λ at. work.Ask (wish.Send (header_bytes a (destination source b) (bytes_from memory n at)))) (named_alike one other alike c n)
work_alike one other alike memory source (Raw n c) = ap (λ at. work.Ask (wish.Send (bytes_from memory n at))) (named_alike one other alike c n)
work_alike one other alike memory source Take = refl
work_alike one other alike memory source (Trace n a c) = refl
work_alike one other alike memory source (Crash a) = refl
work_alike one other alike memory source (Loop a b) = refl

left_alike : (one other : Mapping) → PlacesAlike one other → (memory : List ℕ) (op : Record) → memory_after_record memory one op ≡ memory_after_record memory other op
left_alike one other alike memory Halt = refl
left_alike one other alike memory (Announce a b c) = refl
left_alike one other alike memory (Bind a) = refl
left_alike one other alike memory (Send n a b c) = refl
left_alike one other alike memory (Raw n c) = refl
left_alike one other alike memory Take = refl
left_alike one other alike memory (Trace n a c) =
    ap (λ from. written_from memory (bytes_from memory n from) (named_place one a n)) (named_alike one other alike c n)
    ∙ ap (λ to. written_from memory (bytes_from memory n (named_place other c n)) to) (named_alike one other alike a n)
left_alike one other alike memory (Crash a) = refl
left_alike one other alike memory (Loop a b) = refl

works_alike : (one other : Mapping) → PlacesAlike one other → (memory : List ℕ) (linked : Bool) (worker : WorkerState) → work_of memory one linked worker ≡ work_of memory other linked worker
works_alike one other alike memory linked worker =
    ap (λ found. cond worker.is_halted work.Halted (work_of_next memory one worker.source found)) (next_alike one other alike memory linked worker)
    ∙ ap (cond worker.is_halted work.Halted) (by (next_record memory other linked worker))
  where
    by : (found : Result Record WorkerFault) → work_of_next memory one worker.source found ≡ work_of_next memory other worker.source found
    by (Ok op) = work_alike one other alike memory worker.source op
    by (Err fault) = refl

workers_alike : (one other : Mapping) → PlacesAlike one other → (memory : List ℕ) (linked : Bool) (worker : WorkerState) → after_work memory one linked worker ≡ after_work memory other linked worker
workers_alike one other alike memory linked worker =
    ap (λ found. cond worker.is_halted worker (after_next found worker)) (next_alike one other alike memory linked worker)

memories_alike : (one other : Mapping) → PlacesAlike one other → (memory : List ℕ) (linked : Bool) (worker : WorkerState) → memory_after memory one linked worker ≡ memory_after memory other linked worker
memories_alike one other alike memory linked worker =
    ap (λ found. cond worker.is_halted memory (memory_after_next memory one found)) (next_alike one other alike memory linked worker)
    ∙ ap (cond worker.is_halted memory) (by (next_record memory other linked worker))
  where
    by : (found : Result Record WorkerFault) → memory_after_next memory one found ≡ memory_after_next memory other found
    by (Ok op) = left_alike one other alike memory op
    by (Err fault) = refl

-- what a record leaves, by its work, the worker and the memory after it
abbrev run_of : CoreState → LoadState → Work → WorkerState → List ℕ → DriveStep
run_of core load done worker memory = record {
  core = record core {
    loaded = Some (record load { memory = memory });
    actors = record core.actors { worker = worker; worker_calls = core.actors.worker_calls ++ wishes_of_work done };
  };
  driven = drive_of_work done;
}

runs_alike : (core : CoreState) (load : LoadState) (one other : Mapping) → PlacesAlike one other → run_by core load one ≡ run_by core load other
runs_alike core load one other alike =
    let linked = is_some core.bench in
    let worker = core.actors.worker in
    ap (λ done. run_of core load done (after_work load.memory one linked worker) (memory_after load.memory one linked worker)) (works_alike one other alike load.memory linked worker)
    ∙ ap (λ left. run_of core load (work_of load.memory other linked worker) left (memory_after load.memory one linked worker)) (workers_alike one other alike load.memory linked worker)
    ∙ ap (λ memory. run_of core load (work_of load.memory other linked worker) (after_work load.memory other linked worker) memory) (memories_alike one other alike load.memory linked worker)

-- a record that ran by a map like that of what was placed
pub record_ran : (core : CoreState) (load : LoadState) (map : Mapping) → PlacesAlike map (placed_map core.regions load) → core.loaded ≡ Some load → run_by core load map ≡ record_run core core.loaded
record_ran core load map alike given =
    runs_alike core load map (placed_map core.regions load) alike ∙ sym (ap (record_run core) given)

-- what a record writes leaves a load sound
pub sound_ran : (regions : List Region) (loaded : Loaded) (memory : List ℕ) → length memory ≡ length loaded.memory → IsSoundLoad regions loaded → IsSoundLoad regions (record loaded { memory = memory })
sound_ran regions loaded memory same is = record {
  placed = is.placed;
  few = is.few;
  map = is.map;
  length = same ∙ is.length;
  traces = is.traces;
  rings = is.rings;
  buffers = is.buffers;
  entry = is.entry;
}
