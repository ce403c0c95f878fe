-- Lists: what is made of the elements that pass a test, the first that passes, and one element replaced.
use Rattle.std.proofs.Common.{◌≡◌, ◌≢◌, ◌⊎◌, ℕ, zero, suc, ◌+◌, ◌<◌, ◌||◌, not, Bool, true, false, cond, length, get_or, map, List, [], ◌∷◌, ◌++◌, set, refl, sym, ap, subst, ◌∙◌, inl, inr, one-add, arith}
use mathlib.Core.Option.{some}
use lib.ListN.{get_elem?}
use Rattle.std.specs.List.{list_any, filter, position_or_len}
use Rattle.std.proofs.lemmas.Bool.{false≢true}

-- an element stands within the list, and is what is read there
pub place_within : {X : Type 0} (xs : List X) (place : ℕ) (x : X) → get_elem? xs place ≡ some x → place < length xs
place_within [] place x here = cc
place_within (y ∷ ys) zero x here = omega arith
place_within (y ∷ ys) (suc place) x here = omega (arith, place_within ys place x here)

pub read_at : {X : Type 0} (xs : List X) (place : ℕ) (x d : X) → get_elem? xs place ≡ some x → get_or xs place d ≡ x
read_at [] place x d here = cc
read_at (y ∷ ys) zero x d here = cc
read_at (y ∷ ys) (suc place) x d here = read_at ys place x d here

-- a test of what is made of the elements
pub any_of_map : {X Y : Type 0} (p : Y → Bool) (f : X → Y) (xs : List X) → list_any p (map f xs) ≡ list_any (λ x. p (f x)) xs
any_of_map p f [] = refl
any_of_map p f (x ∷ xs) = ap (λ rest. p (f x) || rest) (any_of_map p f xs)

map_of_cond : {X Y : Type 0} (f : X → Y) (b : Bool) (xs ys : List X) → cond b (map f xs) (map f ys) ≡ map f (cond b xs ys)
map_of_cond f true xs ys = refl
map_of_cond f false xs ys = refl

pub filter_of_map : {X Y : Type 0} (p : Y → Bool) (f : X → Y) (xs : List X) → filter p (map f xs) ≡ map f (filter (λ x. p (f x)) xs)
filter_of_map p f [] = refl
filter_of_map p f (x ∷ xs) =
    ap (λ rest. cond (p (f x)) (f x ∷ rest) rest) (filter_of_map p f xs)
    ∙ map_of_cond f (p (f x)) (x ∷ filter (λ y. p (f y)) xs) (filter (λ y. p (f y)) xs)

-- an element that a filter keeps passes its test, and stood in the list
pub record IsKept {X : Type 0} (p : X → Bool) (xs : List X) (x : X) : Type 0 where
  pub passes : p x ≡ true
  pub was : ℕ
  pub stood : get_elem? xs was ≡ some x

kept_later : {X : Type 0} (p : X → Bool) (y : X) (xs : List X) (x : X) → IsKept p xs x → IsKept p (y ∷ xs) x
kept_later p y xs x kept = record { passes = kept.passes; was = suc kept.was; stood = kept.stood }

pub kept_by_filter : {X : Type 0} (p : X → Bool) (xs : List X) (place : ℕ) (x : X) → get_elem? (filter p xs) place ≡ some x → IsKept p xs x
kept_by_filter p [] place x here = cc
kept_by_filter p (y ∷ ys) place x here = at (p y) refl place here (λ k. kept_by_filter p ys k x)
  where
    at : (b : Bool) → p y ≡ b → (place : ℕ) → get_elem? (cond b (y ∷ filter p ys) (filter p ys)) place ≡ some x → ((k : ℕ) → get_elem? (filter p ys) k ≡ some x → IsKept p ys x) → IsKept p (y ∷ ys) x
    at true is zero here rest = let same : y ≡ x = cc in record { passes = subst (λ z. p z ≡ true) same is; was = 0; stood = here }
    at true is (suc place) here rest = kept_later p y ys x (rest place here)
    at false is place here rest = kept_later p y ys x (rest place here)

-- the first element that passes a test, where one does
pub record IsFirstAt {X : Type 0} (p : X → Bool) (xs : List X) (place : ℕ) : Type 0 where
  pub found : X
  pub here : get_elem? xs place ≡ some found
  pub passes : p found ≡ true
  pub within : place < length xs

pub first_at : {X : Type 0} (p : X → Bool) (xs : List X) → list_any p xs ≡ true → IsFirstAt p xs (position_or_len p xs)
first_at p [] has = absurd (false≢true has)
first_at p (x ∷ xs) has = at (p x) refl has (first_at p xs)
  where
    at : (b : Bool) → p x ≡ b → (b || list_any p xs) ≡ true → (list_any p xs ≡ true → IsFirstAt p xs (position_or_len p xs)) → IsFirstAt p (x ∷ xs) (cond (not b) (1 + position_or_len p xs) 0)
    at true is has rest = record { found = x; here = refl; passes = is; within = omega arith }
    at false is has rest = let first = rest has in record { found = first.found; here = rw one-add first.here; passes = first.passes; within = omega (arith, first.within) }

-- an element of a list with one replaced is the new one, or stood there before
pub at_replaced : {X : Type 0} (xs : List X) (place other : ℕ) (x y : X) → get_elem? (set xs place y) other ≡ some x → ((other ≡ place) × (y ≡ x)) ⊎ ((other ≢ place) × (get_elem? xs other ≡ some x))
at_replaced [] place other x y here = cc
at_replaced (z ∷ zs) zero zero x y here = inl (refl, cc)
at_replaced (z ∷ zs) zero (suc other) x y here = inr ((λ same. omega arith), here)
at_replaced (z ∷ zs) (suc place) zero x y here = inr ((λ same. omega arith), here)
at_replaced (z ∷ zs) (suc place) (suc other) x y here = later (at_replaced zs place other x y here)
  where
    later : ((other ≡ place) × (y ≡ x)) ⊎ ((other ≢ place) × (get_elem? zs other ≡ some x)) → ((suc other ≡ suc place) × (y ≡ x)) ⊎ ((suc other ≢ suc place) × (get_elem? zs other ≡ some x))
    later (inl new) = inl (ap suc new.0, new.1)
    later (inr stays) = inr ((λ same. stays.0 (omega arith)), stays.1)

-- one element replaced by one of which the same is made
pub map_replaced : {X Y : Type 0} (f : X → Y) (xs : List X) (place : ℕ) (x y : X) → get_elem? xs place ≡ some x → f y ≡ f x → map f (set xs place y) ≡ map f xs
map_replaced f [] place x y here same = refl
map_replaced f (z ∷ zs) zero x y here same = let was : z ≡ x = cc in ap (λ first. first ∷ map f zs) (same ∙ ap f (sym was))
map_replaced f (z ∷ zs) (suc place) x y here same = ap (λ rest. f z ∷ rest) (map_replaced f zs place x y here same)

-- an element of a list with one more is that one, or stood there before
pub at_pushed : {X : Type 0} (xs : List X) (new : X) (place : ℕ) (x : X) → get_elem? (xs ++ new ∷ []) place ≡ some x → (new ≡ x) ⊎ (get_elem? xs place ≡ some x)
at_pushed [] new zero x here = inl cc
at_pushed [] new (suc place) x here = cc
at_pushed (y ∷ ys) new zero x here = inr here
at_pushed (y ∷ ys) new (suc place) x here = at_pushed ys new place x here

-- what is made of an element stands in its place
pub get_of_map : {X Y : Type 0} (f : X → Y) (xs : List X) (place : ℕ) (x : X) → get_elem? xs place ≡ some x → get_elem? (map f xs) place ≡ some (f x)
get_of_map f [] place x here = cc
get_of_map f (y ∷ ys) zero x here = let same : y ≡ x = cc in ap (λ z. some (f z)) same
get_of_map f (y ∷ ys) (suc place) x here = get_of_map f ys place x here
