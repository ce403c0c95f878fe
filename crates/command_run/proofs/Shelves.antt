-- What a store told so far, and what it is still to tell.
use Rattle.std.proofs.Common.{◌≡◌, ℕ, zero, suc, false, List, [], ◌∷◌, ◌++◌, Option, Some, None, Err, refl, sym, ap, ◌∙◌}
use Rattle.rp_io.specs.declared.faults.NoImage.TheVariants as no_image
use Rattle.rp_io.specs.Images.{ImageAnswer, IsToldFor, fetch_answer}
use Rattle.script_lang.specs.declared.commands.Command.{Command}
use Rattle.link_commands.specs.declared.stops.Stop.{Stop}
use Rattle.command_run.specs.Stores.{IsHeld, IsHeldAt, IsShelf, IsTold, IsToldAt, Shelf, StoreAnswers, answer_for, later_answers, store_of, store_answer}
use Rattle.command_run.specs.Runs.{Run, RunEffect, RunState, asked_name, effect_of, run_from, run_on, run_on_answer}
use Rattle.command_run.proofs.RunSteps.{first_told, run_first, run_none}

-- what was told at the commands so far, and behind them
abbrev pub told_then : List Shelf → StoreAnswers → StoreAnswers
told_then [] later = later
told_then (first ∷ more) later = first_told (Some first) (told_then more later)

-- one more command was told
pub told_more : (shelves : List Shelf) (shelf : Shelf) (later : StoreAnswers) → told_then (shelves ++ shelf ∷ []) later ≡ told_then shelves (first_told (Some shelf) later)
told_more [] shelf later = refl
told_more (first ∷ more) shelf later = ap (first_told (Some first)) (told_more more shelf later)

-- the store has them
abbrev pub AreShelves : Option (List (List ℕ × List ℕ)) → List Shelf → Type 0
AreShelves images [] = Unit {0}
AreShelves images (first ∷ more) = IsShelf images first × AreShelves images more

pub shelves_more : (images : Option (List (List ℕ × List ℕ))) (shelves : List Shelf) (shelf : Shelf) → AreShelves images shelves → IsShelf images shelf → AreShelves images (shelves ++ shelf ∷ [])
shelves_more images [] shelf are is = (is, tt)
shelves_more images (first ∷ more) shelf are is = (are.0, shelves_more images more shelf are.1 is)

-- a store that never fails
abbrev pub any_told : Option (List (List ℕ × List ℕ)) → StoreAnswers
any_told None number = Some (λ name. Err no_image.Missing)
any_told (Some images) number = Some (fetch_answer images)

pub any_held : (images : Option (List (List ℕ × List ℕ))) → IsHeld images (any_told images)
any_held None number = tt
any_held (Some images) number = refl

-- and one that fails at its next command
abbrev pub fault_next : Option (List (List ℕ × List ℕ)) → StoreAnswers
fault_next images = first_told None (any_told images)

held_told : (images : Option (List (List ℕ × List ℕ))) (shelf : Option Shelf) → IsHeldAt images shelf → IsToldAt images shelf
held_told images None is = absurd is
held_told images (Some shelf) is = is

pub fault_told : (images : Option (List (List ℕ × List ℕ))) → IsTold images (fault_next images)
fault_told images zero = tt
fault_told images (suc number) = held_told images (any_told images number) (any_held images number)

module _ (images : Option (List (List ℕ × List ℕ))) (later : StoreAnswers) where
  -- a store that didn't fail so far, and doesn't later
  pub then_held : (shelves : List Shelf) → AreShelves images shelves → IsHeld images later → IsHeld images (told_then shelves later)
  then_held [] are is number = is number
  then_held (first ∷ more) are is zero = are.0
  then_held (first ∷ more) are is (suc number) = then_held more are.1 is number

  -- a store that didn't fail so far
  pub then_told : (shelves : List Shelf) → AreShelves images shelves → IsTold images later → IsTold images (told_then shelves later)
  then_told [] are is number = is number
  then_told (first ∷ more) are is zero = are.0
  then_told (first ∷ more) are is (suc number) = then_told more are.1 is number

-- what a command was told is what the store has
pub shelf_of : (images : Option (List (List ℕ × List ℕ))) (asked : Option (List ℕ)) (answer : ImageAnswer) → IsToldFor images asked answer
    → (shelf : Shelf) × IsShelf images shelf × (answer ≡ answer_for shelf asked)
shelf_of None None answer is = ((λ name. Err no_image.Missing), tt, is)
shelf_of None (Some name) answer is = ((λ other. answer), tt, refl)
shelf_of (Some images) None answer is = (fetch_answer images, refl, is)
shelf_of (Some images) (Some name) answer is = (fetch_answer images, refl, is)

-- a store of these images that doesn't fail has them at each command
held_at : (images : List (List ℕ × List ℕ)) (shelf : Option Shelf) → IsHeldAt (Some images) shelf → shelf ≡ Some (fetch_answer images)
held_at images None is = absurd is
held_at images (Some shelf) is = ap (λ (s : Shelf). Some s) is

module _ (images : List (List ℕ × List ℕ)) where
  -- so the run over it is one over the images alone
  pub held_run : (told : StoreAnswers) (state : RunState) (commands : List Command) → IsHeld (Some images) told → run_from told state commands ≡ run_from (store_of images) state commands
  held_run told state [] is = run_none told state ∙ sym (run_none (store_of images) state)
  held_run told state (first ∷ more) is =
      let effect = effect_of (answer_for (fetch_answer images) (asked_name state.objects first)) state first in
      run_first told state first more
      ∙ ap (λ shelf. run_on_answer state first (store_answer shelf (asked_name state.objects first)) (λ next. run_from (later_answers told) next more)) (held_at images (told 0) (is 0))
      ∙ ap (run_on effect effect.ending) (held_run (later_answers told) effect.run more (λ number. is (suc number)))
      ∙ sym (run_first (store_of images) state first more)

-- a run that goes on fails where the rest of it does
on_failed : (effect : RunEffect) (ending : Option Stop) (later : Run) → later.failed ≡ false → (run_on effect ending later).failed ≡ false
on_failed effect None later is = is
on_failed effect (Some why) later is = refl

module _ (images : Option (List (List ℕ × List ℕ))) where
  -- and a store that doesn't fail at a command goes on with the rest
  told_failed : (shelf : Option Shelf) → IsHeldAt images shelf → (state : RunState) (first : Command) (later : RunState → Run) → ((next : RunState) → (later next).failed ≡ false)
      → (run_on_answer state first (store_answer shelf (asked_name state.objects first)) later).failed ≡ false
  told_failed None at state first later goes = absurd at
  told_failed (Some shelf) at state first later goes =
      let effect = effect_of (answer_for shelf (asked_name state.objects first)) state first in
      on_failed effect effect.ending (later effect.run) (goes effect.run)

  -- a run over a store that doesn't fail
  pub held_failed : (told : StoreAnswers) (state : RunState) (commands : List Command) → IsHeld images told → (run_from told state commands).failed ≡ false
  held_failed told state [] is = ap (λ (run : Run). run.failed) (run_none told state)
  held_failed told state (first ∷ more) is =
      ap (λ (run : Run). run.failed) (run_first told state first more)
      ∙ told_failed (told 0) (is 0) state first (λ next. run_from (later_answers told) next more) (λ next. held_failed (later_answers told) next more (λ number. is (suc number)))
