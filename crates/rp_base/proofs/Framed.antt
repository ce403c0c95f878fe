-- Bytes that are written at the start of an array in two parts.
use Rattle.std.proofs.Common.{◌≡◌, ℕ, ◌+◌, ◌≤◌, List, ◌++◌, length, take, ap, sym, ◌∙◌, arith, length-append}
use Rattle.std.proofs.Math.Seq.{take-append_seam}
use Rattle.std.proofs.lemmas.Slice.{take-put_mid}
use borrow.Rule.Slice.PartMut.{put_mid}

-- a part at the start, and a second behind it
pub take_two_parts : (head body first second rest : List ℕ) (count : ℕ) → first ≡ head → second ≡ body
    → take (length head + length body) (put_mid (length head) count (first ++ rest) second) ≡ head ++ body
take_two_parts head body first second rest count is_head is_body =
    let fits : length head ≤ length (first ++ rest) = omega (arith, length-append first rest, ap length is_head) in
    let sized : length head + length body ≡ length head + length second = ap (λ bytes. length head + length bytes) (sym is_body) in
    take-put_mid (length head) count (first ++ rest) second _ sized fits
    ∙ ap (λ front. take (length head) (front ++ rest) ++ second) is_head
    ∙ ap (λ front. front ++ second) (take-append_seam head rest)
    ∙ ap (λ back. head ++ back) is_body
