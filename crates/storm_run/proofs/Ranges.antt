-- Ranges of numbers that grow by one.
use Rattle.std.proofs.Common.{◌≡◌, ◌+◌, ◌≤◌, ◌<◌, ◌∙◌, ◌++◌, ℕ, refl, zero, suc, List, [], ◌∷◌, sym, ap, add-one, arith}
use Rattle.std.proofs.lemmas.List.{flat_map_more}
use Rattle.std.specs.List.{flat_map, range_with_len}

range_more : (first length next : ℕ) → next ≡ first + length → range_with_len first (suc length) ≡ range_with_len first length ++ next ∷ []
range_more first zero next is = ap (λ (n : ℕ). n ∷ []) (let same : first ≡ next = omega arith in same)
range_more first (suc length) next is = ap (λ (ns : List ℕ). first ∷ ns) (range_more (first + 1) length next (omega arith))

-- the text of one number more stands behind those before it
pub text_more : (text_of : ℕ → List ℕ) (before : List ℕ) (first length next : ℕ) → next ≡ first + length
    → (before ++ flat_map text_of (range_with_len first length)) ++ text_of next ≡ before ++ flat_map text_of (range_with_len first (length + 1))
text_more text_of before first length next is =
    flat_map_more text_of before (range_with_len first length) next
    ∙ ap (λ (ns : List ℕ). before ++ flat_map text_of ns) (sym (range_more first length next is) ∙ ap (range_with_len first) (sym (add-one length)))

-- where two texts are the same for each number, so are those of the range
pub same_text : (a b : ℕ → List ℕ) (first length : ℕ) → ((n : ℕ) → first ≤ n → n < first + length → a n ≡ b n) → flat_map a (range_with_len first length) ≡ flat_map b (range_with_len first length)
same_text a b first zero same = refl
same_text a b first (suc length) same =
    let here : a first ≡ b first = same first (omega arith) (omega arith) in
    let more = same_text a b (first + 1) length (λ n above below. same n (omega arith) (omega arith)) in
    λ i. here i ++ more i
