-- Lists that are made of one piece for each number or entry.
use Rattle.std.proofs.Common.{◌≡◌, ℕ, zero, suc, ◌+◌, ◌*◌, ◌∙◌, List, [], ◌∷◌, ◌++◌, length, ap, sym, arith, append-nil, append_assoc, add-one, length-append}
use Rattle.std.specs.List.{flat_map, range_with_len}

range_more : (f : ℕ → List ℕ) (a n : ℕ) → flat_map f (range_with_len a (suc n)) ≡ flat_map f (range_with_len a n) ++ f (a + n)
range_more f a zero =
    let here : a ≡ a + 0 = omega arith in
    append-nil (f a) ∙ ap f here
range_more f a (suc n) =
    let here : a + 1 + n ≡ a + suc n = omega arith in
    ap (λ rest. f a ++ rest) (range_more f (a + 1) n ∙ ap (λ k. flat_map f (range_with_len (a + 1) n) ++ f k) here)
    ∙ sym (append_assoc (f a) (flat_map f (range_with_len (a + 1) n)) (f (a + suc n)))

-- the pieces of one number more, behind a front
pub pieces_more : (f : ℕ → List ℕ) (front : List ℕ) (n : ℕ) → front ++ flat_map f (range_with_len 0 (n + 1)) ≡ front ++ flat_map f (range_with_len 0 n) ++ f n
pieces_more f front n =
    let here : 0 + n ≡ n = omega arith in
    ap (λ k. front ++ flat_map f (range_with_len 0 k)) (add-one n)
    ∙ ap (λ rest. front ++ rest) (range_more f 0 n ∙ ap (λ k. flat_map f (range_with_len 0 n) ++ f k) here)
    ∙ sym (append_assoc front (flat_map f (range_with_len 0 n)) (f n))

-- pieces of one size
pub length-pieces : {X : Type 0} (f : X → List ℕ) (size : ℕ) → ((x : X) → length (f x) ≡ size) → (xs : List X) → length (flat_map f xs) ≡ size * length xs
length-pieces f size each [] = omega arith
length-pieces f size each (x ∷ xs) =
    let more = length-pieces f size each xs in
    let one = each x in
    omega (arith, length-append (f x) (flat_map f xs), more, one)
