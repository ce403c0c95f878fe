-- The messages of an act that is fit fit buffers.
use Rattle.std.proofs.Common.{◌≡◌, ℕ, ◌+◌, ◌≤◌, nat_le, List, length, None, refl, arith}
use Rattle.std.proofs.lemmas.Bool.{leb-true}
use Rattle.std.proofs.lemmas.List.{length-append}
use Rattle.rp_base.specs.declared.limits.TheConstants.{PAYLOAD_MOST}
use Rattle.rpmsg_header.specs.Headers.{head_bytes, header_bytes}
use Rattle.lane_model.specs.declared.calls.Wish.TheVariants as wish
use Rattle.link_bench.specs.declared.acts.ActAnswer.TheVariants as answer
use Rattle.link_bench.specs.declared.acts.CallWish.{CallWish}
use Rattle.link_bench.specs.declared.acts.CallWish.TheVariants as call
use Rattle.link_bench.specs.declared.acts.LinkAct.{LinkAct}
use Rattle.link_bench.specs.declared.acts.LinkAct.TheVariants as act
use Rattle.link_bench.specs.Benches.{BenchState, IsSendable}
use Rattle.link_bench.specs.Turns.{turn_message}
use Rattle.link_bench.specs.Acts.{IsFitAct, IsFitWish, misfit, wish_of}
use Rattle.link_bench.proofs.ActWalks.{FitCalls}
use Rattle.link_bench.proofs.BegunCalls.{held_from}

-- a header has 16 bytes
pub header_length : (src dst : ℕ) (payload : List ℕ) → length (header_bytes src dst payload) ≡ 16 + length payload
header_length src dst payload =
    let head : length (head_bytes src dst (length payload)) ≡ 16 = refl in
    let both = length-append (head_bytes src dst (length payload)) payload in
    omega (arith, head, both)

header_sendable : (source destination : ℕ) (payload : List ℕ) → length payload ≤ PAYLOAD_MOST → IsSendable (wish.Send (header_bytes source destination payload))
header_sendable source destination payload short =
    let long = header_length source destination payload in
    omega arith

sendable : (bench : BenchState) (caller : ℕ) (wanted : CallWish (List ℕ)) → IsFitWish wanted → misfit bench caller wanted ≡ None → IsSendable (wish_of wanted)
sendable bench caller (call.Send source destination payload) fit none =
    header_sendable source destination payload
    (leb-true _ _ (held_from (nat_le (length payload) PAYLOAD_MOST) (answer.TooLong caller (length payload)) none))
sendable bench caller (call.Raw message) fit none = fit
sendable bench caller call.Take fit none = tt
sendable bench caller (call.Give number) fit none = tt
sendable bench caller (call.Bind address) fit none = tt
sendable bench caller (call.Unbind address) fit none = tt

turn_sendable : (number : ℕ) → IsSendable (wish.Send (turn_message number))
turn_sendable number =
    let short : length (turn_message number) ≡ 20 = refl in
    omega (arith, short)

-- the messages of an act fit buffers
pub calls_sendable : (asked : LinkAct (List ℕ)) → IsFitAct asked → FitCalls IsSendable asked
calls_sendable (act.Caller end) fit = tt
calls_sendable (act.Call caller made wanted) fit = λ bench none. sendable bench caller wanted fit.1 none
calls_sendable (act.Step caller more) fit = tt
calls_sendable (act.Pump sender receiver count) fit = λ number. (turn_sendable number, tt, tt)
calls_sendable (act.Reclaim caller) fit = tt
