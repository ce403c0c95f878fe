-- Fronts of what is read and written, one piece after another.
use Rattle.std.proofs.Common.{◌≡◌, ℕ, ◌+◌, ◌-◌, ◌≤◌, List, [], ◌++◌, length, take, drop, Option, Some, None, sym, ap, ◌∙◌, append_assoc, length-drop, length-append, arith}
use Rattle.std.proofs.lemmas.List.{take-append-drop, take-take, take_all, drop-take}
use Rattle.std.specs.Io.KnownBytes.{Appends, Consumes}
use Rattle.rp_io.specs.Contents.{LosesFront}

-- a longer front is a front and the bytes behind it
pub take-add : (xs : List ℕ) (a b : ℕ) → take (a + b) xs ≡ take a xs ++ take b (drop a xs)
take-add xs a b =
    let whole = take-append-drop a (take (a + b) xs) in
    let front = take-take a (a + b) xs (omega arith) in
    let back = drop-take a b xs in
    sym whole ∙ ap (λ ys. ys ++ drop a (take (a + b) xs)) front ∙ ap (λ ys. take a xs ++ ys) back

-- a front of the bytes was appended, and then a front of the rest
pub Appends_take_more : (old mid new : Option (List ℕ)) (bytes : List ℕ) (done n : ℕ) → Appends old mid (take done bytes) → Appends mid new (take n (take (length bytes - done) (drop done bytes))) → Appends old new (take (done + n) bytes)
Appends_take_more None mid new bytes done n first second = tt
Appends_take_more (Some xs) None new bytes done n first second = absurd first
Appends_take_more (Some xs) (Some ys) None bytes done n first second = absurd second
Appends_take_more (Some xs) (Some ys) (Some zs) bytes done n first second =
    let rest = take_all (length bytes - done) (drop done bytes) (omega (arith, length-drop done bytes)) in
    second
    ∙ ap (λ behind. ys ++ take n behind) rest
    ∙ ap (λ before. before ++ take n (drop done bytes)) first
    ∙ append_assoc xs (take done bytes) (take n (drop done bytes))
    ∙ ap (λ more. xs ++ more) (sym (take-add bytes done n))

-- what was left lost some bytes, and then some more
pub LosesFront-more : (old mid new : Option (List ℕ)) (first second : List ℕ) (most : ℕ) → length first + length second ≤ most → Consumes old mid first → Consumes mid new second → LosesFront old new most
LosesFront-more None mid new first second most within before now = record { lost = []; consumed = tt; within = omega arith }
LosesFront-more (Some xs) None new first second most within before now = absurd before
LosesFront-more (Some xs) (Some ys) None first second most within before now = absurd now
LosesFront-more (Some xs) (Some ys) (Some zs) first second most within before now = record {
  lost = first ++ second;
  consumed = before ∙ ap (λ left. first ++ left) now ∙ sym (append_assoc first second zs);
  within = omega (arith, length-append first second);
}
