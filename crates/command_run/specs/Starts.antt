-- The starts of a core that may need an image, over what a store says of it (own).
use Rattle.std.specs.Prelude.{◌≡◌, ℕ, true, false, List, Option, Some, None, is_some, IsTrue, Result, Ok, Err}
use Rattle.rp_io.specs.Images.{ImageAnswer, IsToldFor, answer_of}
use Rattle.rp_io.specs.Causes.{Rose}
use Rattle.proc_state.specs.Lives.{life_after_boot, life_after_handover, recovery_fault}
use Rattle.crash_recover.specs.Cores.{CoreState}
use Rattle.crash_recover.specs.CoreBoots.{needs_image}
use Rattle.link_commands.specs.declared.acts.StartAct.{StartAct}
use Rattle.link_commands.specs.declared.acts.StartAct.TheVariants as starts
use Rattle.command_run.specs.declared.starts.Beginning.{Beginning}
use Rattle.command_run.specs.declared.starts.Beginning.TheVariants as beginning
use Rattle.command_run.specs.declared.starts.Rest.{Rest}
use Rattle.command_run.specs.declared.starts.Rest.TheVariants as rest
use Rattle.rp_io.specs.declared.faults.StoreFault.{StoreFault}
use Rattle.rp_io.specs.declared.faults.StoreFault.TheVariants as store_fault
use Rattle.command_run.specs.declared.fetches.FoundImage.{FoundImage}
use Rattle.command_run.specs.declared.fetches.FoundImage.TheVariants as found_image
use Rattle.link_commands.specs.declared.stops.Stop.{Stop}
use Rattle.command_run.specs.CoreLives.{found_image as image_of_name, made_image, start_with, started_effect}
use Rattle.run_log.specs.Logs.{LogState}
use Rattle.command_run.specs.Outcomes.{HasCoreEffect}
use Rattle.command_run.specs.NamedCores.{NamedCoreState}
use Rattle.command_run.specs.NamedImages.{ImageState}
use Rattle.command_run.specs.Runs.{outside_image, start_image, start_needs}

-- what is known of an image that was looked for
abbrev pub image_answer : FoundImage → ImageAnswer
image_answer (found_image.Script bytes) = made_image bytes.now
image_answer (found_image.Store found) = answer_of found

-- it is the image of this name: the script's, or else what was given of the one that the store was asked for
pub record IsImageOf (images : Option (List (List ℕ × List ℕ))) (made : List ImageState) (name : List ℕ) (found : FoundImage) : Type 0 where
  pub answer : ImageAnswer
  pub is : IsToldFor images (outside_image made name) answer
  pub image : image_answer found ≡ image_of_name made answer name

-- a start as it is to go on
abbrev pub start_of : Rest → StartAct
start_of (rest.Boot life image) = starts.Boot image
start_of (rest.Handover life image) = starts.Handover image
start_of rest.Recovery = starts.Recover

-- the core needs an image for it, with which a boot and a handover come to this life
abbrev pub NeedsImage : CoreState → Rest → Type 0
NeedsImage core (rest.Boot life image) = (needs_image core ≡ true) × (life ≡ (life_after_boot core.life).life)
NeedsImage core (rest.Handover life image) = ((life_after_handover core.life).answer ≡ Ok tt) × (life ≡ (life_after_handover core.life).life)
NeedsImage core rest.Recovery = recovery_fault core.life ≡ None

-- a start as far as it comes without an image: it is done, whatever image would be found, or it is to go on with one, and nothing has changed
abbrev pub Begins : StartAct → CoreState → CoreState → Beginning → Type 0
Begins start core left (beginning.Done answer) =
    (start_needs start core ≡ false) × ((found : ImageAnswer) → start_with start core found ≡ record { core = left; answer = answer })
Begins start core left (beginning.NeedsImage rest) = (start ≡ start_of rest) × (start_needs start core ≡ true) × NeedsImage left rest × (left ≡ core)

-- a start did what it does over what was given of the image that it asked for
pub record DidStart (images : Option (List (List ℕ × List ℕ))) (start : StartAct) (made : List ImageState) (named : NamedCoreState) (left : CoreState) (before after : LogState) (ending : Option Stop) : Type 0 where
  pub answer : ImageAnswer
  pub is : IsToldFor images (start_image start made (Some named)) answer
  pub did : HasCoreEffect (started_effect start made answer named before.steps) left before after ending

-- a start was made, or it asked a store that failed, told nothing and left all as it was, or memory ran out; with the store's faults before and then
abbrev pub StartsOver : Result (Option Stop) StoreFault → Option (List (List ℕ × List ℕ)) → StartAct → List ImageState → NamedCoreState → CoreState → LogState → LogState → ℕ → ℕ → Type 0
StartsOver (Ok ending) images start made named left before after was then = DidStart images start made named left before after ending × (then ≡ was)
StartsOver (Err store_fault.Failed) images start made named left before after was then =
    IsTrue (is_some (start_image start made (Some named))) × (left ≡ named.core) × (after ≡ before) × Rose was then
StartsOver (Err store_fault.NoMemory) images start made named left before after was then = then ≡ was
