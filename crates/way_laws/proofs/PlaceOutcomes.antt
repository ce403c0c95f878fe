-- What a command does to the items of a run, which are its links or its cores, seen from one place, and what is noted of the item there.
use Rattle.std.proofs.Common.{◌≡◌, ℕ, ◌==◌, Bool, true, false, cond, List, [], ◌∷◌, ◌++◌, Option, Some, None, IfSome, slice_get, slice_set, refl, sym, ap, subst, ◌∙◌}
use Rattle.rp_io.specs.Images.{ImageAnswer}
use Rattle.script_lang.specs.declared.commands.Command.{Command}
use Rattle.script_lang.specs.Runnable.{AreRunnable, IsRunnable}
use Rattle.command_run.specs.Runs.{RunState, effect_of, new_run, run_of}
use Rattle.command_run.specs.Stores.{StoreAnswers}
use Rattle.run_laws.proofs.Items.{get_changed, get_front, get_none_set, get_pushed}
use Rattle.run_laws.proofs.RunsReached.{AreSound, command_sound, none_sound}
use Rattle.run_laws.specs.Notes.{Noting, notes_from}
use Rattle.run_laws.proofs.RunInductions.{any_answers, each_is, noted_kept}

-- ---- one command

-- an item behind what is done on it, if anything is
abbrev pub item_behind : {X A : Type 0} → (X → A → X) → X → Option A → X
item_behind change item None = item
item_behind change item (Some act) = change item act

-- where it is done by a test
behind_if : {X A : Type 0} (change : X → A → X) (item : X) (act : A) (test : Bool) → cond test (change item act) item ≡ item_behind change item (cond test (Some act) None)
behind_if change item act true = refl
behind_if change item act false = refl

module _ {X A : Type 0} (change : X → A → X) (IsNew : X → Type 0) (items : List X) (place : ℕ) (acted : Option A) where
  -- what the items become, where this is done at the place, if anything is
  pub data PlaceOutcome : List X → Type 0 where
    -- they stay, or a new one comes behind them, and nothing is done at the place
    Stays : acted ≡ None → PlaceOutcome items
    Grows : (made : X) → IsNew made → acted ≡ None → PlaceOutcome (items ++ made ∷ [])
    -- one of them is changed by an act, which is done at the place exactly where the one stands there
    Changes : (at : ℕ) (one : X) (act : A) → slice_get items at ≡ Some one → acted ≡ cond (at == place) (Some act) None → PlaceOutcome (slice_set items at (change one act))

module _ {X A : Type 0} {change : X → A → X} {IsNew : X → Type 0} {items : List X} {place : ℕ} {acted : Option A} where
  -- an item at the place is there still, behind what is done on it
  there_after : {now : List X} → PlaceOutcome change IsNew items place acted now → (item : X) → slice_get items place ≡ Some item → slice_get now place ≡ Some (item_behind change item acted)
  there_after (Stays none) item found = found ∙ ap (λ (a : Option A). Some (item_behind change item a)) (sym none)
  there_after (Grows made new none) item found = get_front items (made ∷ []) place item found ∙ ap (λ (a : Option A). Some (item_behind change item a)) (sym none)
  there_after (Changes at one act here is) item found =
      get_changed (λ (other : X). change other act) items at place one item here found ∙ ap Some (behind_if change item act (at == place)) ∙ ap (λ (a : Option A). Some (item_behind change item a)) (sym is)

  -- where none was at the place, one that is there then is new
  new_after : {now : List X} → PlaceOutcome change IsNew items place acted now → slice_get items place ≡ None → IfSome (slice_get now place) IsNew
  new_after (Stays none) nothing = subst (λ (there : Option X). IfSome there IsNew) (sym nothing) tt
  new_after (Grows made new none) nothing = get_pushed IsNew items place made nothing new
  new_after (Changes at one act here is) nothing = subst (λ (there : Option X). IfSome there IsNew) (sym (get_none_set items at place (change one act) nothing)) tt

-- what is noted tells the tale of the item at a place, and nothing is noted where none is there
abbrev pub AreLevel : {X N : Type 0} → (X → Option N → Type 0) → Option X → Option N → Type 0
AreLevel Tale None noted = noted ≡ None
AreLevel Tale (Some item) noted = Tale item noted

-- a command keeps them level, where the tale of an item goes on with what is done on it, and that of a new one begins
module _ {X A N : Type 0} {change : X → A → X} {IsNew : X → Type 0} {items : List X} {place : ℕ} {acted : Option A} {now : List X} (outcome : PlaceOutcome change IsNew items place acted now)
    (Tale : X → Option N → Type 0) (noted : Option N) (next : Option X → Option N)
    (goes_on : (item : X) → slice_get items place ≡ Some item → Tale item noted → Tale (item_behind change item acted) (next (Some item)))
    (begins : IfSome (slice_get now place) IsNew → AreLevel Tale (slice_get now place) (next None)) where
  level_at : (found : Option X) → slice_get items place ≡ found → AreLevel Tale found noted → AreLevel Tale (slice_get now place) (next found)
  level_at None none level = begins (new_after outcome none)
  level_at (Some item) found level = subst (λ (there : Option X). AreLevel Tale there (next (Some item))) (sym (there_after outcome item found)) (goes_on item found level)

  pub level_after : AreLevel Tale (slice_get items place) noted → AreLevel Tale (slice_get now place) (next (slice_get items place))
  level_after level = level_at (slice_get items place) refl level

-- ---- runs

module _ {X N : Type 0} (items : RunState → List X) (Tale : X → Option N → Type 0) (place : ℕ) (note : Noting (Option N)) where
  abbrev LevelIn : RunState → Option N → Type 0
  LevelIn run noted = AreLevel Tale (slice_get (items run) place) noted

  record Stands (run : RunState) (noted : Option N) : Type 0 where
    pub sound : AreSound run.objects
    pub level : LevelIn run noted

  -- what each command keeps level is level at the end of a run
  pub run_level : ((answer : ImageAnswer) (run : RunState) (asked : Command) (noted : Option N) → IsRunnable asked → AreSound run.objects → LevelIn run noted
      → LevelIn (effect_of answer run asked).run (note answer run asked (effect_of answer run asked).run noted)) → LevelIn new_run None
      → (told : StoreAnswers) (commands : List Command) → AreRunnable commands → LevelIn (run_of told commands).last (notes_from note told new_run commands None)
  run_level keeps first told commands runs =
      (noted_kept note IsRunnable (λ answer. Unit {0}) Stands (λ answer run asked noted any may stands. record { sound = command_sound answer run asked may stands.sound; level = keeps answer run asked noted may stands.sound stands.level })
      told new_run commands None (any_answers told) (each_is (λ asked may. may) commands runs) (record { sound = none_sound; level = first })).level
