-- What is read off the bytes that were written.
use Rattle.std.proofs.Common.{◌≡◌, ℕ, ◌+◌, ◌-◌, ◌^◌, ◌<◌, ◌≤◌, ◌∙◌, Bool, true, false, cond, eqb, List, Some, None, ◌++◌, length, take, drop, replicate, refl, ap, subst, arith, bit_and, length-append}
use Rattle.std.proofs.lemmas.Bool.Decides.{nat_tests}
use Rattle.std.specs.List.{list_any}
use Rattle.std.proofs.lemmas.List.{append_assoc, drop_at, length-replicate, take_all, take-append-le, take-replicate}
use Rattle.std.proofs.Math.Seq.{take-append-add}
use Rattle.byteorder.specs.Endian.{little_bytes}
use Rattle.byteorder.specs.Numbers.{little_number-reads_back}
use Rattle.rp_base.specs.Fields.{number_at}
use Rattle.rp_base.specs.Texts.{padded_name, text_before_zero}
use Rattle.rp_base.proofs.Zeros.{text_before_zero-append, text_before_zero-is_clear}
use Rattle.rpmsg_header.specs.Headers.{header_bytes, is_whole, source_of, destination_of, payload_length, payload_of}
use Rattle.rpmsg_header.specs.Services.{IsSayable, service_bytes, service_in, service_of}
use Rattle.rpmsg_header.specs.declared.services.NsMessage.{NsMessage}

pub source_read : (src dst : ℕ) (payload : List ℕ) → src < 2 ^ 32 → source_of (header_bytes src dst payload) ≡ src
source_read src dst payload fits = little_number-reads_back 4 src (drop 4 (header_bytes src dst payload)) fits

pub destination_read : (src dst : ℕ) (payload : List ℕ) → dst < 2 ^ 32 → destination_of (header_bytes src dst payload) ≡ dst
destination_read src dst payload fits = little_number-reads_back 4 dst (drop 8 (header_bytes src dst payload)) fits

pub length_read : (src dst : ℕ) (payload : List ℕ) → length payload ≤ 496 → payload_length (header_bytes src dst payload) ≡ length payload
length_read src dst payload short = little_number-reads_back 2 (length payload) (drop 14 (header_bytes src dst payload)) (omega arith)

pub payload_read : (src dst : ℕ) (payload : List ℕ) → length payload ≤ 496 → payload_of (header_bytes src dst payload) ≡ payload
payload_read src dst payload short =
    ap (λ len. take len payload) (length_read src dst payload short) ∙ take_all (length payload) payload (omega arith)

pub whole_read : (src dst : ℕ) (payload : List ℕ) → length payload ≤ 496 → is_whole (header_bytes src dst payload) ≡ true
whole_read src dst payload short =
    let len = length_read src dst payload short in
    grind (arith, nat_tests)

length-padded : (name : List ℕ) → length name ≤ 31 → length (padded_name name) ≡ 32
length-padded name short =
    omega (arith, length-append name (replicate (32 - length name) 0), length-replicate {A = ℕ} (32 - length name) 0)

-- the last of the 32 bytes is a zero, so the first 31 have the whole name
front-padded : (name rest : List ℕ) → length name ≤ 31 → take 31 (padded_name name ++ rest) ≡ name ++ replicate (31 - length name) 0
front-padded name rest short =
    let less = 31 - length name in
    let whole : 31 ≡ length name + less = omega arith in
    take-append-le 31 (padded_name name) rest (omega (arith, length-padded name short))
    ∙ ap (λ n. take n (padded_name name)) whole
    ∙ take-append-add name (replicate (32 - length name) 0) less
    ∙ ap (λ zeros. name ++ zeros) (take-replicate less (32 - length name) 0 (omega arith))

name_read : (name rest : List ℕ) → length name ≤ 31 → text_before_zero name ≡ name → text_before_zero (take 31 (padded_name name ++ rest)) ≡ name
name_read name rest short text =
    ap text_before_zero (front-padded name rest short)
    ∙ text_before_zero-append name (31 - length name) (subst (λ bytes. list_any (λ byte. eqb byte 0) bytes ≡ false) text (text_before_zero-is_clear name))

flag_read : (destroy : Bool) → eqb (bit_and (number_at 4 0 (little_bytes 4 (cond destroy 1 0))) 1) 1 ≡ destroy
flag_read true = refl
flag_read false = refl

-- a service message with these fields is this one
same_fields : (ns : NsMessage) (name : List ℕ) (address : ℕ) (destroy : Bool) → name ≡ ns.name → address ≡ ns.address → destroy ≡ ns.destroy → (let made : NsMessage = record { name = name; address = address; destroy = destroy } in made) ≡ ns
same_fields ns name address destroy named addressed flagged =
    rw (named, addressed, flagged) refl

pub service_read : (ns : NsMessage) → IsSayable ns → service_of (service_bytes ns) ≡ Some ns
service_read ns can =
    let name = padded_name ns.name in
    let address = little_bytes 4 ns.address in
    let flags = little_bytes 4 (cond ns.destroy 1 0) in
    let sized = length-padded ns.name can.short in
    let regroup : service_bytes ns ≡ name ++ (address ++ flags) = append_assoc name address flags in
    let whole : length (service_bytes ns) ≡ 40 = ap length regroup ∙ omega (arith, length-append name (address ++ flags)) in
    let behind : drop 32 (service_bytes ns) ≡ address ++ flags = ap (drop 32) regroup ∙ drop_at name (address ++ flags) 32 sized in
    let last : drop 36 (service_bytes ns) ≡ flags = drop_at (name ++ address) flags 36 (omega (arith, length-append name address)) in
    let named : text_before_zero (take 31 (service_bytes ns)) ≡ ns.name =
    ap (λ bytes. text_before_zero (take 31 bytes)) regroup ∙ name_read ns.name (address ++ flags) can.short can.text in
    let addressed : number_at 4 32 (service_bytes ns) ≡ ns.address =
    ap (number_at 4 0) behind ∙ little_number-reads_back 4 ns.address flags can.address_fits in
    let flagged : eqb (bit_and (number_at 4 36 (service_bytes ns)) 1) 1 ≡ ns.destroy =
    ap (λ bytes. eqb (bit_and (number_at 4 0 bytes) 1) 1) last ∙ flag_read ns.destroy in
    let same = same_fields ns _ _ _ named addressed flagged in
    ap (λ n. cond (eqb n 40) (Some (service_in (service_bytes ns))) None) whole ∙ ap Some same
