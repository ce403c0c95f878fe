-- What a store of images answers a run (own).
use Rattle.std.specs.Prelude.{◌≡◌, ℕ, suc, List, Option, Some, None, Err}
use Rattle.rp_io.specs.declared.faults.NoImage.TheVariants as no_image
use Rattle.rp_io.specs.Images.{ImageAnswer, fetch_answer}

-- what a store has under each name
abbrev pub Shelf : Type 0
Shelf = List ℕ → ImageAnswer

-- what a store has under each name while the command of each number runs, counted from 0; none where it fails then
abbrev pub StoreAnswers : Type 0
StoreAnswers = ℕ → Option Shelf

-- what a store of these images has, at every command
abbrev pub store_of : List (List ℕ × List ℕ) → StoreAnswers
store_of images number = Some (fetch_answer images)

-- what is answered at the commands after the first
abbrev pub later_answers : StoreAnswers → StoreAnswers
later_answers told number = told (suc number)

-- what is answered of the image that a command asks for; nothing, as of one that is missing, where it asks for none
abbrev pub answer_for : Shelf → Option (List ℕ) → ImageAnswer
answer_for shelf None = Err no_image.Missing
answer_for shelf (Some name) = shelf name

-- what a command is given that asks for an image or for none; nothing where the store fails
abbrev pub store_answer : Option Shelf → Option (List ℕ) → Option ImageAnswer
store_answer None None = Some (Err no_image.Missing)
store_answer None (Some name) = None
store_answer (Some shelf) asked = Some (answer_for shelf asked)

-- a store of these images has that; of one that doesn't say its images nothing is known
abbrev pub IsShelf : Option (List (List ℕ × List ℕ)) → Shelf → Type 0
IsShelf None shelf = Unit {0}
IsShelf (Some images) shelf = shelf ≡ fetch_answer images

-- the store says that, or it fails
abbrev pub IsToldAt : Option (List (List ℕ × List ℕ)) → Option Shelf → Type 0
IsToldAt images None = Unit {0}
IsToldAt images (Some shelf) = IsShelf images shelf

-- the store says that, and it doesn't fail
abbrev pub IsHeldAt : Option (List (List ℕ × List ℕ)) → Option Shelf → Type 0
IsHeldAt images None = ⊥
IsHeldAt images (Some shelf) = IsShelf images shelf

-- at each command the store says that, or it fails
abbrev pub IsTold : Option (List (List ℕ × List ℕ)) → StoreAnswers → Type 0
IsTold images told = (number : ℕ) → IsToldAt images (told number)

-- at each command the store says that, and it fails at none
abbrev pub IsHeld : Option (List (List ℕ × List ℕ)) → StoreAnswers → Type 0
IsHeld images told = (number : ℕ) → IsHeldAt images (told number)
