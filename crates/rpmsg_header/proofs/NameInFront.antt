-- A name that was copied to the front of a service message.
use Rattle.std.proofs.Common.{◌≡◌, ℕ, ◌-◌, ◌≤◌, ◌∙◌, List, ◌++◌, length, drop, replicate, refl, ap, sym, arith}
use Rattle.std.proofs.lemmas.List.{append_assoc, drop-append-le, drop-replicate}
use Rattle.byteorder.specs.Endian.{little_bytes}
use Rattle.rp_base.specs.Fields.{with_number}
use Rattle.rp_base.specs.Texts.{padded_name}

-- the address and the flags were written into zeros, and then the name in front of them
pub name_in_front : (name : List ℕ) (address flags : ℕ) → length name ≤ 31 → name ++ drop (length name) (with_number 4 36 flags (with_number 4 32 address (replicate 40 0))) ≡ padded_name name ++ little_bytes 4 address ++ little_bytes 4 flags
name_in_front name address flags short =
    let back = little_bytes 4 address ++ little_bytes 4 flags in
    let split : with_number 4 36 flags (with_number 4 32 address (replicate 40 0)) ≡ replicate 32 0 ++ back = refl in
    let tail : drop (length name) (replicate 32 0 ++ back) ≡ replicate (32 - length name) 0 ++ back =
    drop-append-le (length name) (replicate 32 0) back (omega arith) ∙ ap (λ zeros. zeros ++ back) (drop-replicate (length name) 32 0) in
    ap (λ rest. name ++ drop (length name) rest) split
    ∙ ap (λ rest. name ++ rest) tail
    ∙ sym (append_assoc name (replicate (32 - length name) 0) back)
    ∙ sym (append_assoc (padded_name name) (little_bytes 4 address) (little_bytes 4 flags))
