-- What a worker does: its work, the worker that is left, and the memory that is left (own).
use Rattle.std.specs.Prelude.{ℕ, ◌+◌, ◌==◌, nat_lt, Bool, true, List, [], ◌∷◌, ◌++◌, Result, Ok, Err, if◌then◌else◌}
use Rattle.byteorder.specs.Endian.{little_bytes}
use Rattle.rp_base.specs.declared.kinds.CrashKind.{CrashKind}
use Rattle.rp_base.specs.declared.kinds.CrashKind.TheVariants as kind
use Rattle.addr_translate.specs.Maps.{Mapping}
use Rattle.lane_model.specs.Conditions.{IsFitWish}
use Rattle.lane_model.specs.declared.states.Holding.{Holding}
use Rattle.lane_model.specs.declared.calls.Wish.{Wish}
use Rattle.lane_model.specs.declared.calls.Wish.TheVariants as wish
use Rattle.rp_base.specs.declared.limits.TheConstants.{NAME_MOST}
use Rattle.remote_code.specs.declared.faults.WorkerFault.{WorkerFault}
use Rattle.remote_code.specs.declared.records.Record.{Record}
use Rattle.remote_code.specs.declared.records.Record.TheVariants.{Halt, Announce, Bind, Send, Raw, Take, Trace, Crash, Loop}
use Rattle.rpmsg_header.specs.Headers.{header_bytes}
use Rattle.remote_core.specs.Named.{named_place, bytes_from, named_bytes, written_from}
use Rattle.remote_core.specs.Records.{next_record}
use Rattle.remote_core.specs.Workers.{WorkerState}
use Rattle.remote_core.specs.declared.workers.Task.{Task}
use Rattle.remote_core.specs.declared.workers.Task.TheVariants as task
use Rattle.remote_core.specs.declared.workers.Work.{Work}
use Rattle.remote_core.specs.declared.workers.Work.TheVariants as work

-- the address of the name service (RPMSG_NS_ADDR of Linux virtio_rpmsg_bus.c)
abbrev pub service_address : ℕ
service_address = 53

-- the destination by which a record means the source of the last whole message
abbrev pub last_source : ℕ
last_source = 0xffff_ffff

-- the payload of an announcement (rpmsg_ns_msg of Linux rpmsg/ns.h): the bytes of the name and a 0, then address and flags
abbrev pub announcement : List ℕ → ℕ → ℕ → List ℕ
announcement name address flags =
    (name ++ 0 ∷ []) ++ little_bytes 4 address ++ little_bytes 4 flags

-- where a record sends to
abbrev pub destination : ℕ → ℕ → ℕ
destination source b = if b == last_source then source else b

-- the kind of a crash that a record reports (rproc_crash_type of remoteproc.h, in its order)
abbrev pub crash_kind : ℕ → CrashKind
crash_kind a = if a == 0 then kind.Mmufault else if a == 1 then kind.Watchdog else kind.Fatal

-- the work of a record that runs, where the last source is this; of the 32 bytes of a name the last counts as 0
abbrev pub work_of_record : List ℕ → Mapping → ℕ → Record → Work
work_of_record memory map source Halt = work.Halted
work_of_record memory map source (Announce a b c) =
    work.Ask (wish.Send (header_bytes a service_address (announcement (bytes_from memory NAME_MOST (named_place map c 32)) a b)))
work_of_record memory map source (Bind a) = work.Ask (wish.Bind a)
work_of_record memory map source (Send n a b c) =
    work.Ask (wish.Send (header_bytes a (destination source b) (named_bytes memory map c n)))
work_of_record memory map source (Raw n c) = work.Ask (wish.Send (named_bytes memory map c n))
work_of_record memory map source Take = work.Ask wish.Take
work_of_record memory map source (Trace n a c) = work.Nothing
work_of_record memory map source (Crash a) = work.Crash (crash_kind a)
work_of_record memory map source (Loop a b) = work.Nothing

-- the worker that a record leaves: a loop goes back to record b, but at every a-th turn on to the next, and with a 0 always back
abbrev pub after_record : Record → WorkerState → WorkerState
after_record Halt worker = record worker { is_halted = true }
after_record (Loop a b) worker =
    if a == 0 then record worker { place = b }
    else if nat_lt (worker.turns + 1) a then record worker { place = b; turns = worker.turns + 1 }
    else record worker { place = worker.place + 1; turns = 0 }
after_record _ worker = record worker { place = worker.place + 1 }

-- the memory that a record leaves: a trace writes bytes as they were before
abbrev pub memory_after_record : List ℕ → Mapping → Record → List ℕ
memory_after_record memory map (Trace n a c) =
    written_from memory (named_bytes memory map c n) (named_place map a n)
memory_after_record memory map _ = memory

-- the work of a record that may run, else its fault
abbrev pub work_of_next : List ℕ → Mapping → ℕ → Result Record WorkerFault → Work
work_of_next memory map source (Ok op) = work_of_record memory map source op
work_of_next memory map source (Err fault) = work.Fault fault

-- what a record leaves of a worker that may run it; a fault leaves it as it was
abbrev pub after_next : Result Record WorkerFault → WorkerState → WorkerState
after_next (Ok op) worker = after_record op worker
after_next (Err fault) worker = worker

-- the memory likewise
abbrev pub memory_after_next : List ℕ → Mapping → Result Record WorkerFault → List ℕ
memory_after_next memory map (Ok op) = memory_after_record memory map op
memory_after_next memory map (Err fault) = memory

-- the work of a worker
abbrev pub work_of : List ℕ → Mapping → Bool → WorkerState → Work
work_of memory map linked worker =
    if worker.is_halted then work.Halted
    else work_of_next memory map worker.source (next_record memory map linked worker)

-- the worker after it
abbrev pub after_work : List ℕ → Mapping → Bool → WorkerState → WorkerState
after_work memory map linked worker =
    if worker.is_halted then worker else after_next (next_record memory map linked worker) worker

-- the memory after it
abbrev pub memory_after : List ℕ → Mapping → Bool → WorkerState → List ℕ
memory_after memory map linked worker =
    if worker.is_halted then memory else memory_after_next memory map (next_record memory map linked worker)

-- the work that a worker answers with this wish beside it
abbrev pub work_with : Task → Wish → Work
work_with task.Nothing wished = work.Nothing
work_with task.Asked wished = work.Ask wished
work_with task.Halted wished = work.Halted
work_with (task.Crash kind) wished = work.Crash kind
work_with (task.Fault fault) wished = work.Fault fault

-- the work of a record that may have run, with this wish beside it
abbrev pub done_with : Result Task WorkerFault → Wish → Work
done_with (Ok done) wished = work_with done wished
done_with (Err fault) wished = work.Fault fault

-- a call that a worker asks for may begin, whatever its caller holds: a message fits into a buffer
abbrev pub IsFitWork : Work → Type 0
IsFitWork (work.Ask wished) = (held : List Holding) (caller : ℕ) → IsFitWish wished held caller
IsFitWork _ = Unit {0}
