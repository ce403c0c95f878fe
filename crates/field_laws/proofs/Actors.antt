-- What the actors of a core are yet to call has its bytes and its numbers within their types.
use Rattle.std.proofs.Common.{◌≡◌, ℕ, ◌+◌, ◌<◌, ◌^◌, ◌==◌, ◌&&◌, Bool, true, false, List, [], ◌∷◌, ◌++◌, Option, Some, None, IfSome, Result, Ok, Err, slice_range, refl, arith}
use Rattle.std.specs.Prelude.{All, nat_lt}
use Rattle.std.specs.List.{list_all}
use Rattle.std.specs.Option.{option_and_then}
use Rattle.std.specs.Result.{IfOk}
use Rattle.std.proofs.lemmas.Bool.{cond_both, ltb-true}
use Rattle.std.proofs.lemmas.List.Elements.{All-nil}
use Rattle.rp_base.specs.declared.kinds.End.{End}
use Rattle.rpmsg_header.specs.Headers.{payload_of}
use Rattle.byteorder.specs.Endian.{little_bytes}
use Rattle.addr_translate.specs.Maps.{Mapping, place_at}
use Rattle.remote_code.specs.declared.faults.WorkerFault.{WorkerFault}
use Rattle.remote_code.specs.declared.faults.WorkerFault.TheVariants as worker_fault
use Rattle.remote_code.specs.declared.records.Record.{Record}
use Rattle.remote_code.specs.declared.records.Record.TheVariants as code
use Rattle.remote_code.specs.Records.{a_of, b_of, c_of, n_of, op_of, record_of}
use Rattle.remote_core.specs.Named.{bytes_from, named_bytes, named_place, written_from}
use Rattle.remote_core.specs.Records.{next_record, record_address, record_from}
use Rattle.remote_core.specs.Workers.{WorkerState}
use Rattle.remote_core.specs.Works.{announcement, destination, memory_after, memory_after_next, memory_after_record, service_address, work_of, work_of_record}
use Rattle.host_driver.specs.Drivers.{sample_text}
use Rattle.lane_model.specs.declared.calls.CallEnd.{CallEnd}
use Rattle.lane_model.specs.declared.calls.CallEnd.TheVariants as end
use Rattle.lane_model.specs.declared.calls.Wish.TheVariants as wish
use Rattle.lane_model.specs.Links.{LinkState}
use Rattle.channel_bus.specs.Sides.{EndState}
use Rattle.link_bench.specs.declared.benches.Reach.{Reach}
use Rattle.link_bench.specs.declared.benches.Reach.TheVariants as reach
use Rattle.link_bench.specs.Benches.{message_for}
use Rattle.core_actors.specs.ActorEnds.{taken_number}
use Rattle.core_actors.specs.ActorSteps.{wishes_of_work}
use Rattle.field_laws.specs.Fields.{AreBytes, IsFieldEnd, IsFieldLink, IsFieldWish}
use Rattle.field_laws.specs.FieldBenches.{IsFieldReach}
use Rattle.field_laws.specs.FieldCores.{AreFieldCalls}
use Rattle.field_laws.proofs.Bytes.{both_bytes, message_bytes, more_bytes, no_bytes, number_bytes, payload_bytes, range_bytes, word_small}
use Rattle.field_laws.proofs.Loads.{with_bytes_are}
use Rattle.core_laws.proofs.ActorCalls.{AreFitMessages, FitCalls, IsFitEnd, handed_fits, one_fits, work_fits}

both : (a b : Bool) → (a && b) ≡ true → (a ≡ true) × (b ≡ true)
both true b e = (refl, e)
both false b e = absurd (cc)

pub tested_bytes : (bytes : List ℕ) → list_all (λ byte. nat_lt byte 256) bytes ≡ true → AreBytes bytes
tested_bytes [] is = no_bytes
tested_bytes (first ∷ more) is =
    let parts = both (nat_lt first 256) (list_all (λ byte. nat_lt byte 256) more) is in more_bytes first more (ltb-true first 256 parts.0) (tested_bytes more parts.1)

-- ---- the actors

-- the calls of actors whose bytes and numbers are within their types, as those that fit
pub field_calls : FitCalls IsFieldWish AreFieldCalls
field_calls = record {
  both = λ actors host worker. record { host = host; worker = worker };
  host = λ actors are. are.host;
  worker = λ actors are. are.worker;
  take = tt;
  none = no_bytes;
  sample = λ one. message_bytes one.endpoint.address one.channel sample_text (tested_bytes sample_text refl);
  echo = λ source destination message are. message_bytes source destination (payload_of message) (payload_bytes message are);
}

-- what a link has accepted is bytes
pub field_messages : (link : LinkState EndState) → IsFieldLink link → AreFitMessages IsFieldWish link
field_messages link is = record { to_host = is.to_host.accepted; to_remote = is.to_remote.accepted }

pub taken_bytes_on : (link : LinkState EndState) (found : Option End) (number : ℕ) → IsFieldLink link → AreBytes (message_for link found number)
taken_bytes_on link found number is = handed_fits field_calls link found number (field_messages link is)

-- the number of a message that was handed over
taken_small : (ended : CallEnd) → IsFieldEnd ended → IfSome (taken_number ended) (λ number. number < 2 ^ 64)
taken_small (end.Took number judged) is = is.0
taken_small other is = tt

pub field_end : (came : Reach) → IsFieldReach came → IsFitEnd IsFieldWish came
field_end (reach.Ended ended) is = taken_small ended is
field_end other is = tt

-- ---- the worker

-- a record whose address has 32 bits
abbrev IsFieldRecord : Record → Type 0
IsFieldRecord (code.Bind a) = a < 2 ^ 32
IsFieldRecord other = Unit {0}

abbrev AreFieldRecords : Result Record WorkerFault → Type 0
AreFieldRecords found = IfOk found IsFieldRecord

record_fields : (bytes : List ℕ) → AreBytes bytes → AreFieldRecords (record_of bytes)
record_fields bytes are =
    let op = op_of bytes in
    cond_both (op == 0) (Ok code.Halt) _ AreFieldRecords (λ _. tt) (λ _.
    cond_both (op == 1) (Ok (code.Announce (a_of bytes) (b_of bytes) (c_of bytes))) _ AreFieldRecords (λ _. tt) (λ _.
    cond_both (op == 2) (Ok (code.Bind (a_of bytes))) _ AreFieldRecords (λ _. word_small 4 bytes are) (λ _.
    cond_both (op == 3) (Ok (code.Send (n_of bytes) (a_of bytes) (b_of bytes) (c_of bytes))) _ AreFieldRecords (λ _. tt) (λ _.
    cond_both (op == 4) (Ok (code.Raw (n_of bytes) (c_of bytes))) _ AreFieldRecords (λ _. tt) (λ _.
    cond_both (op == 5) (Ok code.Take) _ AreFieldRecords (λ _. tt) (λ _.
    cond_both (op == 6) (Ok (code.Trace (n_of bytes) (a_of bytes) (c_of bytes))) _ AreFieldRecords (λ _. tt) (λ _.
    cond_both (op == 7) (Ok (code.Crash (a_of bytes))) _ AreFieldRecords (λ _. tt) (λ _.
    cond_both (op == 8) (Ok (code.Loop (a_of bytes) (b_of bytes))) (Err worker_fault.UnknownOp) AreFieldRecords (λ _. tt) (λ _. tt)))))))))

from_fields : (memory : List ℕ) (place : Option ℕ) → AreBytes memory → AreFieldRecords (record_from memory place)
from_fields memory None are = tt
from_fields memory (Some at) are = record_fields (slice_range memory at (at + 16)) (range_bytes memory at (at + 16) are)

place_bytes : (memory : List ℕ) (len : ℕ) (place : Result ℕ WorkerFault) → AreBytes memory → AreBytes (bytes_from memory len place)
place_bytes memory len (Ok at) are = range_bytes memory at (at + len) are
place_bytes memory len (Err why) are = no_bytes

announced_bytes : (name : List ℕ) (address flags : ℕ) → AreBytes name → AreBytes (announcement name address flags)
announced_bytes name address flags are =
    both_bytes ((name ++ 0 ∷ []) ++ little_bytes 4 address) (little_bytes 4 flags)
    (both_bytes (name ++ 0 ∷ []) (little_bytes 4 address) (both_bytes name (0 ∷ []) are (more_bytes 0 [] (omega arith) no_bytes)) (number_bytes 4 address)) (number_bytes 4 flags)

-- what a record asks for is within its types
asked_fields : (memory : List ℕ) (map : Mapping) (source : ℕ) (op : Record) → AreBytes memory → IsFieldRecord op → All IsFieldWish (wishes_of_work (work_of_record memory map source op))
asked_fields memory map source (code.Announce a b c) are is =
    let name = bytes_from memory 31 (named_place map c 32) in
    one_fits IsFieldWish (wish.Send _) (message_bytes a service_address (announcement name a b) (announced_bytes name a b (place_bytes memory 31 (named_place map c 32) are)))
asked_fields memory map source (code.Bind a) are is = one_fits IsFieldWish (wish.Bind a) is
asked_fields memory map source (code.Send n a b c) are is =
    one_fits IsFieldWish (wish.Send _) (message_bytes a (destination source b) (named_bytes memory map c n) (place_bytes memory n (named_place map c n) are))
asked_fields memory map source (code.Raw n c) are is = one_fits IsFieldWish (wish.Send (named_bytes memory map c n)) (place_bytes memory n (named_place map c n) are)
asked_fields memory map source code.Take are is = one_fits IsFieldWish wish.Take tt
asked_fields memory map source other are is = All-nil IsFieldWish

pub work_fields : (memory : List ℕ) (map : Mapping) (linked : Bool) (worker : WorkerState) → AreBytes memory → All IsFieldWish (wishes_of_work (work_of memory map linked worker))
work_fields memory map linked worker are =
    work_fits IsFieldWish memory map linked worker IsFieldRecord
    (from_fields memory (option_and_then (λ address. place_at map address 16) (record_address worker.entry worker.place)) are) (λ op is small. asked_fields memory map worker.source op are is)

written_place : (memory bytes : List ℕ) (place : Result ℕ WorkerFault) → AreBytes memory → AreBytes bytes → AreBytes (written_from memory bytes place)
written_place memory bytes (Ok at) are more = with_bytes_are at bytes memory more are
written_place memory bytes (Err why) are more = are

record_memory : (memory : List ℕ) (map : Mapping) (op : Record) → AreBytes memory → AreBytes (memory_after_record memory map op)
record_memory memory map (code.Trace n a c) are = written_place memory (named_bytes memory map c n) (named_place map a n) are (place_bytes memory n (named_place map c n) are)
record_memory memory map other are = are

next_memory : (memory : List ℕ) (map : Mapping) (found : Result Record WorkerFault) → AreBytes memory → AreBytes (memory_after_next memory map found)
next_memory memory map (Ok op) are = record_memory memory map op are
next_memory memory map (Err why) are = are

pub memory_fields : (memory : List ℕ) (map : Mapping) (linked : Bool) (worker : WorkerState) → AreBytes memory → AreBytes (memory_after memory map linked worker)
memory_fields memory map linked worker are =
    cond_both worker.is_halted memory (memory_after_next memory map (next_record memory map linked worker)) AreBytes (λ _. are)
    (λ _. next_memory memory map (next_record memory map linked worker) are)
