-- The record that a worker runs next, and the faults of records, of which the first in this order counts (own).
use Rattle.std.specs.Prelude.{ℕ, ◌+◌, ◌*◌, ◌^◌, Bool, true, false, not, ◌&&◌, nat_lt, List, Option, Some, None, Result, Ok, Err, option_and_then, slice_range, if◌then◌else◌}
use Rattle.rp_base.specs.declared.limits.TheConstants.{MESSAGE_MOST, PAYLOAD_MOST}
use Rattle.addr_translate.specs.Maps.{Mapping, place_at}
use Rattle.remote_code.specs.Records.{record_of}
use Rattle.remote_code.specs.declared.faults.WorkerFault.{WorkerFault}
use Rattle.remote_code.specs.declared.faults.WorkerFault.TheVariants.{CodeUnmapped, BadOperand, NoLink}
use Rattle.remote_code.specs.declared.records.Record.{Record}
use Rattle.remote_code.specs.declared.records.Record.TheVariants.{Halt, Announce, Bind, Send, Raw, Take, Trace, Crash, Loop}
use Rattle.remote_core.specs.Named.{is_named}
use Rattle.remote_core.specs.Workers.{WorkerState}

-- the device address of a record, of 16 bytes each; addresses have 32 bits
abbrev pub record_address : ℕ → ℕ → Option ℕ
record_address entry place =
    let address = entry + 16 * place in if nat_lt address (2 ^ 32) then Some address else None

-- the record at a place in the memory, if there is one
abbrev pub record_from : List ℕ → Option ℕ → Result Record WorkerFault
record_from memory (Some at) = record_of (slice_range memory at (at + 16))
record_from memory None = Err CodeUnmapped

-- the record of a number: its 16 bytes have to lie in one block of memory
abbrev pub record_at : List ℕ → Mapping → ℕ → ℕ → Result Record WorkerFault
record_at memory map entry place =
    record_from memory (option_and_then (λ address. place_at map address 16) (record_address entry place))

-- the records that work on the link
abbrev pub needs_link : Record → Bool
needs_link Halt = false
needs_link (Announce a b c) = true
needs_link (Bind a) = true
needs_link (Send n a b c) = true
needs_link (Raw n c) = true
needs_link Take = true
needs_link (Trace n a c) = false
needs_link (Crash a) = false
needs_link (Loop a b) = false

-- whether an operand is larger than its operation takes
abbrev pub has_large_operand : Record → Bool
has_large_operand (Send n a b c) = nat_lt PAYLOAD_MOST n
has_large_operand (Raw n c) = nat_lt MESSAGE_MOST n
has_large_operand (Crash a) = nat_lt 2 a
has_large_operand _ = false

-- whether all bytes are there that a record names
abbrev pub names_memory : Mapping → Record → Bool
names_memory map (Announce a b c) = is_named map c 32
names_memory map (Send n a b c) = is_named map c n
names_memory map (Raw n c) = is_named map c n
names_memory map (Trace n a c) = is_named map c n && is_named map a n
names_memory map _ = true

-- the record, if the link and its operands let it run
abbrev pub admitted : Bool → Record → Result Record WorkerFault
admitted linked op =
    if needs_link op && not linked then Err NoLink
    else if has_large_operand op then Err BadOperand
    else Ok op

-- the record, if the bytes are there that it names
abbrev pub with_memory : Mapping → Record → Result Record WorkerFault
with_memory map op = if names_memory map op then Ok op else Err CodeUnmapped

-- a record that passed so far, tested further
abbrev pub tested : (Record → Result Record WorkerFault) → Result Record WorkerFault → Result Record WorkerFault
tested test (Ok op) = test op
tested test (Err fault) = Err fault

-- the record that a worker runs next, or the first fault
abbrev pub next_record : List ℕ → Mapping → Bool → WorkerState → Result Record WorkerFault
next_record memory map linked worker =
    tested (with_memory map) (tested (admitted linked) (record_at memory map worker.entry worker.place))
