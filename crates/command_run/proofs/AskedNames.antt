-- Where a name of a list is found, and the image for which a command asks the store.
use Rattle.std.proofs.Common.{◌≡◌, ◌+◌, ℕ, Bool, true, false, cond, ltb, List, [], ◌∷◌, length, Option, Some, None, is_some, option_map, slice_get, bytes_eq, refl, sym, ap, ◌∙◌}
use Rattle.std.specs.List.{find, position, position_from, position_or_len}
use Rattle.std.specs.Option.{unwrap_or}
use Rattle.std.proofs.lemmas.List.Folds.{find_at}
use Rattle.std.proofs.lemmas.Iterator.Adapters.{position_from-zero}
use Rattle.rp_io.specs.Images.{text_name}
use Rattle.command_run.specs.CoreLives.{image_bytes}
use Rattle.command_run.specs.NamedCores.{NamedCoreState}
use Rattle.command_run.specs.NamedImages.{ImageState}
use Rattle.command_run.specs.Runs.{ObjectsState, core_under, core_place, find_core, has_image, outside_image, place_of}

-- ---- what is found, and where

-- the place that is given, where one is
place_is : (b : Bool) (n place : ℕ) → cond b (Some n) None ≡ Some place → n ≡ place
place_is true n place is = ap (λ found. unwrap_or found 0) is
place_is false n place is = absurd (cc)

module _ {X : Type 0} (p : X → Bool) where
  some_from : (xs : List X) (first : ℕ) → is_some (find p xs) ≡ is_some (position_from p first xs)
  some_from [] first = refl
  some_from (x ∷ xs) first = by (p x) (some_from xs (first + 1)) where
    by : (b : Bool) → is_some (find p xs) ≡ is_some (position_from p (first + 1) xs) → is_some (cond b (Some x) (find p xs)) ≡ is_some (cond b (Some first) (position_from p (first + 1) xs))
    by true same = refl
    by false same = same

  -- something is found exactly where it has a place
  some_place : (xs : List X) → is_some (find p xs) ≡ is_some (position p xs)
  some_place xs = some_from xs 0 ∙ ap is_some (sym (position_from-zero p xs))

  -- what stands at the place is found
  found_at : (xs : List X) (place : ℕ) (x : X) → position p xs ≡ Some place → slice_get xs place ≡ Some x → find p xs ≡ Some x
  found_at xs place x is there =
      find_at p xs ∙ ap (slice_get xs) (place_is (ltb (position_or_len p xs) (length xs)) (position_or_len p xs) place is) ∙ there

  not_found : (found : Option X) → is_some found ≡ false → found ≡ None
  not_found None is = refl
  not_found (Some x) is = absurd (cc)

  -- what has no place is not found
  found_nowhere : (xs : List X) → position p xs ≡ None → find p xs ≡ None
  found_nowhere xs is = not_found (find p xs) (some_place xs ∙ ap is_some is)

-- ---- images

some_map : {A B : Type 0} (f : A → B) (found : Option A) → is_some (option_map f found) ≡ is_some found
some_map f None = refl
some_map f (Some x) = refl

-- an image of a name has bytes exactly where it was made
pub made_is : (images : List ImageState) (name : List ℕ) → is_some (image_bytes images name) ≡ has_image images name
made_is images name =
    some_map (λ (image : ImageState). image.bytes) (find (λ (image : ImageState). bytes_eq image.name name) images)
    ∙ some_place (λ (image : ImageState). bytes_eq image.name name) images

-- the name under which the store is asked for an image that the script didn't make
pub asked_outside : (images : List ImageState) (name : List ℕ) → has_image images name ≡ false → outside_image images name ≡ text_name name
asked_outside images name new = ap (λ (b : Bool). cond b None (text_name name)) new

-- a core whose name no link has
pub core_without_link : (objects : ObjectsState) (name : List ℕ) → None ≡ place_of objects.links name → core_under objects name ≡ find_core objects.cores name
core_without_link objects name none = ap (λ (place : Option ℕ). cond (is_some place) None (find_core objects.cores name)) (sym none)

-- the core at a place, where no link has the name
pub core_at_place : (objects : ObjectsState) (name : List ℕ) (place : ℕ) (named : NamedCoreState) → None ≡ place_of objects.links name → Some place ≡ core_place objects.cores name
    → slice_get objects.cores place ≡ Some named → core_under objects name ≡ Some named
core_at_place objects name place named none placed there =
    core_without_link objects name none ∙ found_at (λ (named : NamedCoreState). bytes_eq named.name name) objects.cores place named (sym placed) there

-- no core of the name
pub core_nowhere : (objects : ObjectsState) (name : List ℕ) → None ≡ place_of objects.links name → core_place objects.cores name ≡ None → core_under objects name ≡ None
core_nowhere objects name none placed =
    core_without_link objects name none ∙ found_nowhere (λ (named : NamedCoreState). bytes_eq named.name name) objects.cores placed

-- where the script made no image of the name
pub made_none : (images : List ImageState) (name : List ℕ) → image_bytes images name ≡ None → has_image images name ≡ false
made_none images name none = sym (made_is images name) ∙ ap is_some none

-- and where it did
pub not_outside : (images : List ImageState) (name bytes : List ℕ) → image_bytes images name ≡ Some bytes → outside_image images name ≡ None
not_outside images name bytes is = ap (λ (b : Bool). cond b None (text_name name)) (sym (made_is images name) ∙ ap is_some is)
