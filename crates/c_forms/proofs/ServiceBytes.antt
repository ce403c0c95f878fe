-- How many bytes a message to the name service has.
use Rattle.std.proofs.Common.{◌≡◌, ℕ, ◌-◌, ◌≤◌, ◌++◌, cond, length, replicate, ap, ◌∙◌, append_assoc, arith, length-append}
use Rattle.std.proofs.lemmas.List.{length-replicate}
use Rattle.byteorder.specs.Endian.{little_bytes}
use Rattle.rp_base.specs.Texts.{padded_name}
use Rattle.rpmsg_header.specs.Services.{service_bytes}
use Rattle.rpmsg_header.specs.declared.services.NsMessage.{NsMessage}

pub length-service_bytes : (ns : NsMessage) → length ns.name ≤ 31 → length (service_bytes ns) ≡ 40
length-service_bytes ns short =
    let name = padded_name ns.name in
    let address = little_bytes 4 ns.address in
    let flags = little_bytes 4 (cond ns.destroy 1 0) in
    let sized : length name ≡ 32 =
    omega (arith, length-append ns.name (replicate (32 - length ns.name) 0), length-replicate {A = ℕ} (32 - length ns.name) 0) in
    let regroup : service_bytes ns ≡ name ++ (address ++ flags) = append_assoc name address flags in
    ap length regroup ∙ omega (arith, length-append name (address ++ flags))
