-- Bytes that are written one behind the other.
use Rattle.std.proofs.Common.{◌≡◌, ℕ, ◌+◌, ◌≤◌, List, ◌++◌, length, take, drop, ap, sym, ◌∙◌, arith, append_assoc, length-append, length-take}
use Rattle.std.proofs.Math.Seq.{take-append_seam, drop-append-add}
use Rattle.std.proofs.lemmas.List.{drop-drop}
use Rattle.addr_translate.specs.Bytes.{with_bytes}

-- two writes, the second right behind the first, are one
pub writes_join : (at : ℕ) (first second memory : List ℕ) → at + (length first + length second) ≤ length memory
    → with_bytes (at + length first) second (with_bytes at first memory) ≡ with_bytes at (first ++ second) memory
writes_join at first second memory fits =
    let front = take at memory ++ first in
    let rest = drop (at + length first) memory in
    let behind = at + length first + length second in
    let len : length front ≡ at + length first = omega (arith, length-append (take at memory) first, length-take at memory) in
    let kept : take (at + length first) (front ++ rest) ≡ front = ap (λ n. take n (front ++ rest)) (sym len) ∙ take-append_seam front rest in
    let last : drop behind (front ++ rest) ≡ drop behind memory =
    ap (λ n. drop (n + length second) (front ++ rest)) (sym len) ∙ drop-append-add front rest (length second) ∙ drop-drop (length second) (at + length first) memory in
    let end : behind ≡ at + length (first ++ second) = omega (arith, length-append first second) in
    ap (λ xs. (xs ++ second) ++ drop behind (front ++ rest)) kept
    ∙ ap (λ ys. (front ++ second) ++ ys) last
    ∙ ap (λ xs. xs ++ drop behind memory) (append_assoc (take at memory) first second)
    ∙ ap (λ n. (take at memory ++ (first ++ second)) ++ drop n memory) end
