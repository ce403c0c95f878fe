-- What a map that may give nothing gives of a list of which it gives something for each element.
use Rattle.std.proofs.Common.{◌≡◌, ℕ, zero, suc, List, [], ◌∷◌, map, Option, Some, refl, ap, ◌∙◌, arith}
use Rattle.std.specs.Prelude.{slice_get}
use Rattle.std.specs.List.{All, Contains, filter_map, sum_by}
use Rattle.std.specs.Option.{option_and_then}
use Rattle.std.proofs.lemmas.List.{get_or-map, length-map}
use Rattle.std.proofs.lemmas.List.Elements.{All-nil, All-cons, All-head, All-tail}
use Rattle.std.proofs.lemmas.List.Sums.{sum_by-cons}

-- an element for which something is given that shows the element, and of which this holds
pub record Gives {X Y : Type 0} (f : X → Option Y) (shown : Y → X) (P : Y → Type 0) (x : X) : Type 0 where
  pub given : Y
  pub is : f x ≡ Some given
  pub shows : shown given ≡ x
  pub holds : P given

-- nothing is left out
pub all_shown : {X Y : Type 0} (f : X → Option Y) (shown : Y → X) (P : Y → Type 0) (xs : List X) → All (Gives f shown P) xs → map shown (filter_map f xs) ≡ xs
all_shown f shown P [] all = refl
all_shown f shown P (x ∷ xs) all =
    let first = All-head (Gives f shown P) x xs all in
    let later = all_shown f shown P xs (All-tail (Gives f shown P) x xs all) in
    rw first.is (ap (λ one. one ∷ map shown (filter_map f xs)) first.shows ∙ ap (λ rest. x ∷ rest) later)

-- it holds of each that is given
pub each_holds : {X Y : Type 0} (f : X → Option Y) (shown : Y → X) (P : Y → Type 0) (xs : List X) → All (Gives f shown P) xs → All P (filter_map f xs)
each_holds f shown P [] all = All-nil P
each_holds f shown P (x ∷ xs) all =
    let first = All-head (Gives f shown P) x xs all in
    rw first.is (All-cons P first.given (filter_map f xs) first.holds (each_holds f shown P xs (All-tail (Gives f shown P) x xs all)))

-- what is given of the element of a number has that number
pub nth_given : {X Y : Type 0} (f : X → Option Y) (shown : Y → X) (P : Y → Type 0) (xs : List X) (index : ℕ) → All (Gives f shown P) xs
    → slice_get (filter_map f xs) index ≡ option_and_then f (slice_get xs index)
nth_given f shown P [] index all = refl
nth_given f shown P (x ∷ xs) zero all =
    let first = All-head (Gives f shown P) x xs all in
    rw first.is refl
nth_given f shown P (x ∷ xs) (suc index) all =
    let first = All-head (Gives f shown P) x xs all in
    rw first.is (nth_given f shown P xs index (All-tail (Gives f shown P) x xs all))

pub contains_map : {X Y : Type 0} (f : X → Y) (xs : List X) (x : X) → Contains xs x → Contains (map f xs) (f x)
contains_map f xs x has = (has.0, omega (arith, has.1, length-map xs f), get_or-map f xs has.0 x (f x) has.1 ∙ ap f has.2)

pub map_map : {X Y Z : Type 0} (f : X → Y) (g : Y → Z) (xs : List X) → map g (map f xs) ≡ map (λ x. g (f x)) xs
map_map f g [] = refl
map_map f g (x ∷ xs) = ap (λ rest. g (f x) ∷ rest) (map_map f g xs)

pub sum_map : {X Y : Type 0} (f : X → Y) (g : Y → ℕ) (xs : List X) → sum_by g (map f xs) ≡ sum_by (λ x. g (f x)) xs
sum_map f g [] = refl
sum_map f g (x ∷ xs) = omega (arith, sum_by-cons g (f x) (map f xs), sum_by-cons (λ x. g (f x)) x xs, sum_map f g xs)
