-- Zeros, piece by piece.
use Rattle.std.proofs.Common.{◌≡◌, ℕ, ◌+◌, ◌-◌, ◌*◌, ◌≤◌, List, ◌++◌, length, take, replicate, append-nil, sym, ap, ◌∙◌, subst, arith}
use Rattle.std.proofs.lemmas.List.{replicate-append-replicate, length-replicate, take-append-drop}
use Rattle.std.proofs.Math.ListN.{drop_of_length-le}

pub piece_more : (n : ℕ) (rows now piece : List ℕ) → now ≡ rows ++ piece → piece ≡ replicate 2048 0 → rows ≡ replicate (n * 2048) 0 → now ≡ replicate ((n + 1) * 2048) 0
piece_more n rows now piece is zeros are =
    let more : n * 2048 + 2048 ≡ (n + 1) * 2048 = omega arith in
    is
    ∙ ap (λ (r : List ℕ). r ++ piece) are
    ∙ ap (λ (p : List ℕ). replicate (n * 2048) 0 ++ p) zeros
    ∙ replicate-append-replicate (n * 2048) 2048 0
    ∙ ap (λ (k : ℕ). replicate k 0) more

-- a list that is no longer is taken whole
take_all : (len : ℕ) (rows : List ℕ) → length rows ≤ len → take len rows ≡ rows
take_all len rows short =
    sym (append-nil (take len rows)) ∙ ap (λ (d : List ℕ). take len rows ++ d) (sym (drop_of_length-le rows short)) ∙ take-append-drop len rows

-- and what is left
pub pieces_end : (n len had : ℕ) (rows now : List ℕ) → n * 2048 ≤ len → had ≡ length rows → now ≡ take len rows ++ replicate (len - had) 0 → rows ≡ replicate (n * 2048) 0 → now ≡ replicate len 0
pieces_end n len had rows now within count is are =
    let long : length rows ≡ n * 2048 = ap (λ (r : List ℕ). length r) are ∙ length-replicate (n * 2048) 0 in
    let short : length rows ≤ len = subst (λ (k : ℕ). k ≤ len) (sym long) within in
    let all : n * 2048 + (len - had) ≡ len = subst (λ (k : ℕ). n * 2048 + (len - k) ≡ len) (sym (count ∙ long)) (omega (arith, within)) in
    is
    ∙ ap (λ (r : List ℕ). r ++ replicate (len - had) 0) (take_all len rows short ∙ are)
    ∙ replicate-append-replicate (n * 2048) (len - had) 0
    ∙ ap (λ (k : ℕ). replicate k 0) all
