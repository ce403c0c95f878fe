-- Items of lists, by their places.
use Rattle.std.proofs.Common.{◌≡◌, inl, inr, ℕ, zero, suc, ◌==◌, Bool, false, cond, List, [], ◌∷◌, ◌++◌, Some, None, IfSome, is_none, is_some, slice_get, slice_set, refl, sym, ap, ◌∙◌}
use Rattle.std.specs.List.{position}
use Rattle.std.proofs.lemmas.Bool.{true≢false}
use Rattle.std.proofs.lemmas.Bool.Decides.{eqb_tells}
use Rattle.std.proofs.lemmas.List.Quantifiers.{position-Some}
use Rattle.std.proofs.lemmas.Option.{slice_get-get_or}
use Rattle.link_bench.proofs.BegunCalls.{get-set_other}

-- what is found at one place is one
pub some_is : {X : Type 0} (one other : X) → Some one ≡ Some other → one ≡ other
some_is one other same = cc

-- where a test finds a place an item stands
pub stands : {X : Type 0} (test : X → Bool) (items : List X) (place : ℕ) → position test items ≡ Some place → is_none (slice_get items place) ≡ false
stands test [] place is = absurd (cc)
stands test (first ∷ more) place is = ap is_none (slice_get-get_or (first ∷ more) place first (position-Some test (first ∷ more) place first is).0)

-- what is set at a place stands there
pub set_there : {X : Type 0} (items : List X) (i : ℕ) (item found : X) → slice_get items i ≡ Some found → slice_get (slice_set items i item) i ≡ Some item
set_there [] i item found is = absurd (cc)
set_there (x ∷ xs) zero item found is = refl
set_there (x ∷ xs) (suc i) item found is = set_there xs i item found is

-- where what stands at a place becomes another, the others stay
pub get_changed : {X : Type 0} (change : X → X) (items : List X) (at place : ℕ) (one other : X) → slice_get items at ≡ Some one → slice_get items place ≡ Some other
    → slice_get (slice_set items at (change one)) place ≡ Some (cond (at == place) (change other) other)
get_changed {X = X} change items at place one other here there = elim (eqb_tells at place) [
  | inl same ↦ ap (slice_get (slice_set items at (change one))) (sym same.1) ∙ set_there items at (change one) one here
      ∙ ap (λ (item : X). Some (change item)) (some_is one other (sym here ∙ ap (slice_get items) same.1 ∙ there)) ∙ ap (λ test. Some (cond test (change other) other)) (sym same.0)
  | inr differ ↦ get-set_other items at place (change one) (λ same. differ.1 (sym same)) ∙ there ∙ ap (λ test. Some (cond test (change other) other)) (sym differ.0)
]

-- where nothing stands nothing is set
pub get_none_set : {X : Type 0} (items : List X) (i place : ℕ) (item : X) → slice_get items place ≡ None → slice_get (slice_set items i item) place ≡ None
get_none_set [] i place item none = refl
get_none_set (x ∷ xs) zero zero item none = absurd (true≢false (ap is_some none))
get_none_set (x ∷ xs) zero (suc place) item none = none
get_none_set (x ∷ xs) (suc i) zero item none = none
get_none_set (x ∷ xs) (suc i) (suc place) item none = get_none_set xs i place item none

-- an item stays in its place where others are put behind it
pub get_front : {X : Type 0} (items more : List X) (i : ℕ) (item : X) → slice_get items i ≡ Some item → slice_get (items ++ more) i ≡ Some item
get_front [] more i item found = absurd (cc)
get_front (x ∷ xs) more zero item found = found
get_front (x ∷ xs) more (suc i) item found = get_front xs more i item found

-- behind the last item stands the new one, and nothing behind that
pub get_pushed : {X : Type 0} (P : X → Type 0) (items : List X) (place : ℕ) (item : X) → slice_get items place ≡ None → P item → IfSome (slice_get (items ++ item ∷ []) place) P
get_pushed P [] zero item none is = is
get_pushed P [] (suc place) item none is = tt
get_pushed P (x ∷ xs) zero item none is = absurd (true≢false (ap is_some none))
get_pushed P (x ∷ xs) (suc place) item none is = get_pushed P xs place item none is
