-- The messages that the actors of a core are yet to send fit buffers.
use Rattle.std.proofs.Common.{◌≡◌, ◌≤◌, ◌+◌, ◌-◌, ℕ, Bool, false, nat_lt, List, [], ◌∷◌, ◌++◌, All, length, drop, slice_range, Option, Some, None, IfSome, Result, Ok, Err, refl, arith}
use Rattle.std.specs.Result.{IfOk}
use Rattle.std.proofs.lemmas.Bool.{ltb-false}
use Rattle.std.proofs.lemmas.List.{length-append, length-drop, length-take, length_push}
use Rattle.std.proofs.lemmas.List.Elements.{All-nil}
use Rattle.std.proofs.Math.Nat.{min-le_left, min-le_right}
use Rattle.rp_base.specs.declared.limits.TheConstants.{MESSAGE_MOST, PAYLOAD_MOST}
use Rattle.byteorder.specs.Endian.{little_bytes}
use Rattle.addr_translate.specs.Maps.{Mapping}
use Rattle.remote_code.specs.declared.faults.WorkerFault.{WorkerFault}
use Rattle.remote_code.specs.declared.records.Record.{Record}
use Rattle.remote_code.specs.declared.records.Record.TheVariants as record_kind
use Rattle.remote_core.specs.Named.{bytes_from, named_bytes, named_place}
use Rattle.remote_core.specs.Records.{has_large_operand, record_at}
use Rattle.remote_core.specs.Workers.{WorkerState}
use Rattle.remote_core.specs.Works.{announcement, destination, service_address, work_of, work_of_record}
use Rattle.rpmsg_header.specs.Headers.{header_bytes, payload_length, payload_of}
use Rattle.host_driver.specs.Drivers.{message_from, sample_text}
use Rattle.lane_model.specs.declared.calls.Wish.TheVariants as wish
use Rattle.lane_model.specs.Links.{LinkState}
use Rattle.channel_bus.specs.Sides.{EndState}
use Rattle.link_bench.proofs.SendableActs.{header_length}
use Rattle.link_bench.specs.declared.benches.Reach.{Reach}
use Rattle.link_bench.specs.declared.benches.Reach.TheVariants as reach
use Rattle.link_bench.specs.Benches.{IsSendable}
use Rattle.core_actors.specs.ActorEnds.{taken_number}
use Rattle.core_actors.specs.ActorSteps.{wishes_of_work}
use Rattle.core_laws.specs.BenchMoves.{AreSendable, IsShortLink}
use Rattle.core_laws.proofs.ActorCalls.{AreFitMessages, FitCalls, IsFitEnd, one_fits, work_fits}

-- ---- the worker

slice_short : (memory : List ℕ) (at len : ℕ) → length (slice_range memory at (at + len)) ≤ len
slice_short memory at len =
    let is = length-take (at + len - at) (drop at memory) in
    let less = min-le_left (at + len - at) (length (drop at memory)) in
    omega (arith, is, less)

bytes_short : (memory : List ℕ) (len : ℕ) (place : Result ℕ WorkerFault) → length (bytes_from memory len place) ≤ len
bytes_short memory len (Ok at) = slice_short memory at len
bytes_short memory len (Err fault) = omega arith

announcement_length : (name : List ℕ) (address flags : ℕ) → length (announcement name address flags) ≡ length name + 9
announcement_length name address flags =
    let four : (x : ℕ) → length (little_bytes 4 x) ≡ 4 = λ x. refl in
    let first = four address in
    let second = four flags in
    let whole : length (announcement name address flags) ≡ length ((name ++ 0 ∷ []) ++ little_bytes 4 address) + length (little_bytes 4 flags) =
    length-append ((name ++ 0 ∷ []) ++ little_bytes 4 address) (little_bytes 4 flags) in
    let front = length-append (name ++ 0 ∷ []) (little_bytes 4 address) in
    let one = length_push name 0 in
    omega (arith, first, second, whole, front, one)

within : (most n : ℕ) → nat_lt most n ≡ false → n ≤ most
within most n small = ltb-false most n small

-- what a record asks for fits, where it has no operand that is too large
record_sendable : (memory : List ℕ) (map : Mapping) (source : ℕ) (op : Record) → has_large_operand op ≡ false → All IsSendable (wishes_of_work (work_of_record memory map source op))
record_sendable memory map source (record_kind.Announce a b c) small =
    let name = bytes_from memory 31 (named_place map c 32) in
    let header = header_length a service_address (announcement name a b) in
    let payload = announcement_length name a b in
    let short = bytes_short memory 31 (named_place map c 32) in
    one_fits IsSendable (wish.Send (header_bytes a service_address (announcement name a b))) (omega (arith, header, payload, short))
record_sendable memory map source (record_kind.Bind a) small = one_fits IsSendable (wish.Bind a) tt
record_sendable memory map source (record_kind.Send n a b c) small =
    let header = header_length a (destination source b) (named_bytes memory map c n) in
    let short = bytes_short memory n (named_place map c n) in
    let most = within PAYLOAD_MOST n small in
    one_fits IsSendable (wish.Send (header_bytes a (destination source b) (named_bytes memory map c n))) (omega (arith, header, short, most))
record_sendable memory map source (record_kind.Raw n c) small =
    let short = bytes_short memory n (named_place map c n) in
    let most = within MESSAGE_MOST n small in
    one_fits IsSendable (wish.Send (named_bytes memory map c n)) (omega (arith, short, most))
record_sendable memory map source record_kind.Take small = one_fits IsSendable wish.Take tt
record_sendable memory map source other small = All-nil IsSendable

any_record : (found : Result Record WorkerFault) → IfOk found (λ op. Unit {0})
any_record (Ok op) = tt
any_record (Err fault) = tt

pub work_sendable : (memory : List ℕ) (map : Mapping) (linked : Bool) (worker : WorkerState) → All IsSendable (wishes_of_work (work_of memory map linked worker))
work_sendable memory map linked worker =
    work_fits IsSendable memory map linked worker (λ op. Unit {0}) (any_record (record_at memory map worker.entry worker.place)) (λ op any. record_sendable memory map worker.source op)

-- ---- the actors

-- what is echoed is no longer than what was taken, or than a header
echo_short : (src dst : ℕ) (message : List ℕ) → length message ≤ MESSAGE_MOST → length (header_bytes src dst (payload_of message)) ≤ MESSAGE_MOST
echo_short src dst message short =
    let header = header_length src dst (payload_of message) in
    let taken = length-take (payload_length message) (drop 16 message) in
    let less = min-le_right (payload_length message) (length (drop 16 message)) in
    let left = length-drop 16 message in
    omega (arith, header, taken, less, left, short)

-- the calls of actors that are sendable, as those that fit
pub sendable_calls : FitCalls IsSendable AreSendable
sendable_calls = record {
  both = λ actors host worker. record { host = host; worker = worker };
  host = λ actors are. are.host;
  worker = λ actors are. are.worker;
  take = tt;
  none = omega arith;
  sample = λ one.
      let is : length (message_from one one.channel sample_text) ≡ 28 = refl in
      omega (arith, is);
  echo = echo_short;
}

-- what a short link has accepted may be sent
pub short_messages : (link : LinkState EndState) → IsShortLink link → AreFitMessages IsSendable link
short_messages link short = record { to_host = short.to_host.accepted; to_remote = short.to_remote.accepted }

any_number : (found : Option ℕ) → IfSome found (λ number. IsSendable (wish.Give number))
any_number None = tt
any_number (Some number) = tt

-- whatever a call was handed may be given back
pub any_end : (came : Reach) → IsFitEnd IsSendable came
any_end (reach.Ended end) = any_number (taken_number end)
any_end other = tt
