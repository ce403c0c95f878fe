-- A start of a core over what a store tells of its image.
use Rattle.std.proofs.Common.{◌≡◌, ℕ, zero, suc, Bool, true, false, cond, List, [], ◌∷◌, Option, Some, None, is_some, slice_get, slice_set, Result, Ok, Err, refl, sym, ap, subst, ◌∙◌}
use Rattle.std.specs.Prelude.{IsTrue}
use Rattle.std.specs.Result.{result_map_both}
use Rattle.std.proofs.lemmas.Option.{none-some, same_Some}
use Rattle.rp_io.specs.Images.{ImageAnswer, IsToldFor}
use Rattle.rp_io.specs.declared.faults.NoImage.TheVariants as no_image
use Rattle.crash_recover.specs.declared.core_answers.Start.{Start}
use Rattle.crash_recover.specs.declared.core_faults.StartFault.{StartFault}
use Rattle.crash_recover.specs.Cores.{CoreOutcome, CoreState}
use Rattle.command_run.specs.declared.fetches.FoundImage.{FoundImage}
use Rattle.command_run.specs.declared.starts.Rest.{Rest}
use Rattle.rp_io.specs.declared.faults.StoreFault.{StoreFault}
use Rattle.rp_io.specs.declared.faults.StoreFault.TheVariants as store_fault
use Rattle.link_commands.specs.declared.acts.StartAct.{StartAct}
use Rattle.link_commands.specs.declared.stops.Stop.{Stop}
use Rattle.command_run.specs.CoreCommands.{core_act_effect, core_effect}
use Rattle.command_run.specs.CoreEffects.{core_tells_all}
use Rattle.command_run.specs.CoreLives.{found_image, start_effect, start_events, start_name, start_with, started_effect}
use Rattle.command_run.specs.Faults.{store_command_fault}
use Rattle.command_run.specs.Fetches.{DidTold, RunsTold}
use Rattle.run_log.specs.Logs.{LogState}
use Rattle.command_run.specs.Outcomes.{HandsRunEffect, HasCoreEffect, HasRunEffect}
use Rattle.command_run.specs.NamedCores.{NamedCoreState}
use Rattle.command_run.specs.NamedImages.{ImageState}
use Rattle.command_run.specs.Runs.{ObjectsState, RunEffect, RunState, asked_name, core_under, core_place, act_asks, core_act, effect_of, line_effect, name_effect, outside_image, place_of, core_effect_at, start_image, start_needs}
use Rattle.command_run.specs.Starts.{DidStart, IsImageOf, StartsOver, start_of}
use Rattle.link_commands.specs.Acts.{line_of as line_of_command}
use Rattle.link_commands.specs.declared.acts.CoreAct.{CoreAct}
use Rattle.link_commands.specs.declared.acts.CoreAct.TheVariants as core
use Rattle.link_commands.specs.declared.acts.Line.{Line}
use Rattle.script_lang.specs.declared.recipes.RecipeLine.{RecipeLine}
use Rattle.link_commands.specs.declared.acts.Line.TheVariants as line
use Rattle.link_commands.specs.declared.acts.NamedAct.TheVariants as under
use Rattle.command_run.proofs.AskedNames.{core_at_place}
use Rattle.command_run.proofs.HandedLines.{front_of_none}
use Rattle.command_run.proofs.Placing.{effect_on_bare_core, kept_run, with_core}
use Rattle.command_run.proofs.Shelves.{shelf_of}
use Rattle.script_lang.specs.declared.commands.Command.{Command}

-- whether a start asks the store
asks_none : (start : StartAct) (made : List ImageState) (named : NamedCoreState) → start_needs start named.core ≡ false → start_image start made (Some named) ≡ None
asks_none start made named unneeded = ap (λ (needs : Bool). cond needs (outside_image made (start_name start named)) None) unneeded

asks_outside : (start : StartAct) (made : List ImageState) (named : NamedCoreState) → start_needs start named.core ≡ true → start_image start made (Some named) ≡ outside_image made (start_name start named)
asks_outside start made named needed = ap (λ (needs : Bool). cond needs (outside_image made (start_name start named)) None) needed

-- a start that went on with what was found
pub went_on : (start : StartAct) (rest : Rest) (core left : CoreState) (found given : ImageAnswer) (outcome : CoreOutcome Start StartFault) → start ≡ start_of rest → left ≡ core → given ≡ found
    → start_with (start_of rest) left given ≡ outcome → start_with start core found ≡ outcome
went_on start rest core left found given outcome is same there did =
    ap (λ (one : StartAct). start_with one core found) is ∙ sym (ap (λ (k : CoreState). start_with (start_of rest) k found) same) ∙ sym (ap (start_with (start_of rest) left) there) ∙ did

-- on the core of a name, with the image of a name
module _ (start : StartAct) (made : List ImageState) (name : List ℕ) (core : CoreState) (named : NamedCoreState) (is : record { name = name; core = core } ≡ named) (image : List ℕ) (called : image ≡ start_name start named)
    (now left : CoreState) (started : Result Start StartFault) (before after : LogState) (ending : Option Stop) (told : HasCoreEffect (core_tells_all now before.steps (start_events name image started)) left before after ending) where
  -- the core answered so, and that was told
  pub did_over : (answer : ImageAnswer) → start_with start core (found_image made answer image) ≡ record { core = now; answer = started }
      → HasCoreEffect (started_effect start made answer named before.steps) left before after ending
  unfolding started_effect
  did_over answer did =
      subst (λ (n : NamedCoreState). HasCoreEffect (start_effect n.name (start_name start named) before.steps (start_with start n.core (found_image made answer (start_name start named)))) left before after ending) is
      (subst (λ (asked : List ℕ). HasCoreEffect (start_effect name asked before.steps (start_with start core (found_image made answer asked))) left before after ending) called
      (subst (λ (outcome : CoreOutcome Start StartFault). HasCoreEffect (start_effect name image before.steps outcome) left before after ending) (sym did) told))

  module _ (images : Option (List (List ℕ × List ℕ))) where
    -- without an image
    pub did_without : start_needs start core ≡ false → ((found : ImageAnswer) → start_with start core found ≡ record { core = now; answer = started }) → DidStart images start made named left before after ending
    did_without unneeded did = record {
      answer = Err no_image.Missing;
      is = subst (λ (asked : Option (List ℕ)). IsToldFor images asked (Err no_image.Missing))
          (sym (asks_none start made named (ap (λ (n : NamedCoreState). start_needs start n.core) (sym is) ∙ unneeded))) refl;
      did = did_over (Err no_image.Missing) (did (found_image made (Err no_image.Missing) image));
    }

    -- with the one that was looked for
    pub did_with : (found : FoundImage) (it : IsImageOf images made image found) → start_needs start core ≡ true → start_with start core (found_image made it.answer image) ≡ record { core = now; answer = started }
        → DidStart images start made named left before after ending
    did_with found it needed did = record {
      answer = it.answer;
      is = subst (λ (asked : Option (List ℕ)). IsToldFor images asked it.answer)
          (ap (outside_image made) called ∙ sym (asks_outside start made named (ap (λ (n : NamedCoreState). start_needs start n.core) (sym is) ∙ needed))) it.is;
      did = did_over it.answer did;
    }

-- ---- a start of the core of a name is what the run does

-- a line whose act is one on a core is about that act and no more
pub on_core : (about : Line (List RecipeLine) (List ℕ)) (called : List ℕ) (act : CoreAct) → core_act about ≡ Some (called, act) → about ≡ line.On called (under.Core act)
on_core (line.Image name lines) called act is = absurd (none-some (called, act) is)
on_core (line.Quiet set) called act is = absurd (none-some (called, act) is)
on_core (line.Dump name image) called act is = absurd (none-some (called, act) is)
on_core (line.On name (under.Make made)) called act is = absurd (none-some (called, act) is)
on_core (line.On name (under.Link asked)) called act is = absurd (none-some (called, act) is)
on_core (line.On name (under.Manage managed)) called act is = absurd (none-some (called, act) is)
on_core (line.On name (under.Show shown)) called act is = absurd (none-some (called, act) is)
on_core (line.On name (under.Core asked)) called act is = ap (λ (p : List ℕ × CoreAct). line.On p.0 (under.Core p.1)) (same_Some (name, asked) (called, act) is)

-- a command that is an act on a core
pub core_line : (answer : ImageAnswer) (run : RunState) (asking : Command) (called : List ℕ) (act : CoreAct) → core_act (line_of_command asking) ≡ Some (called, act)
    → effect_of answer run asking ≡ name_effect answer run called (under.Core act)
unfolding effect_of
core_line answer run asking called act is = ap (line_effect answer run) (on_core (line_of_command asking) called act is)

-- an act that is a start, on a core
start_on_core : (made : List ImageState) (answer : ImageAnswer) (is_quiet : Bool) (named : NamedCoreState) (steps : ℕ) (start : StartAct)
    → core_effect made answer is_quiet named steps (under.Core (core.Start start)) ≡ started_effect start made answer named steps
unfolding core_effect core_act_effect
start_on_core made answer is_quiet named steps start = refl

-- what a command did over what was told, and handed on nothing
pub told_run : (images : Option (List (List ℕ × List ℕ))) (run : RunState) (asking : Command) (left : ObjectsState) (before after : LogState) (written : Option (List ℕ)) (ending : Option Stop) (answer : ImageAnswer)
    → IsToldFor images (asked_name run.objects asking) answer → HasRunEffect (effect_of answer run asking) left before after ending → DidTold images run asking left before after written written ending
told_run images run asking left before after written ending answer is did =
    let shelf = shelf_of images (asked_name run.objects asking) answer is in
    record {
      shelf = shelf.0;
      is = shelf.1;
      did = subst (λ (a : ImageAnswer). HandsRunEffect (effect_of a run asking) left before after written written ending) shelf.2 (kept_run (effect_of answer run asking) left before after written ending did);
    }

-- what stands at a place, written there again
set_same : {X : Type 0} (xs : List X) (place : ℕ) (x : X) → slice_get xs place ≡ Some x → slice_set xs place x ≡ xs
set_same [] place x is = refl
set_same (y ∷ ys) zero x is = ap (λ h. h ∷ ys) (same_Some x y (sym is))
set_same (y ∷ ys) (suc place) x is = ap (λ more. y ∷ more) (set_same ys place x is)

module _ (images : Option (List (List ℕ × List ℕ))) (run : RunState) (asking : Command) (called : List ℕ) (start : StartAct) (asks : core_act (line_of_command asking) ≡ Some (called, core.Start start))
    (before after : LogState) (written : Option (List ℕ)) (faults was then : ℕ) where
  -- on the core at a place
  module _ (place : ℕ) (named now : NamedCoreState) (none : None ≡ place_of run.objects.links called) (placed : Some place ≡ core_place run.objects.cores called)
      (there : slice_get run.objects.cores place ≡ Some named) (name : now.name ≡ named.name) (steps : before.steps ≡ run.steps) where
    asked_is : asked_name run.objects asking ≡ start_image start run.objects.images (Some named)
    asked_is = ap (act_asks run.objects) asks ∙ ap (start_image start run.objects.images) (core_at_place run.objects called place named none placed there)

    abbrev left_so : ObjectsState
    left_so = record run.objects { cores = slice_set run.objects.cores place now }

    placed_so : (answer : ImageAnswer) → effect_of answer run asking ≡ core_effect_at run place named (started_effect start run.objects.images answer named run.steps)
    placed_so answer =
        core_line answer run asking called (core.Start start) asks ∙ effect_on_bare_core answer run called (under.Core (core.Start start)) place named none placed there
        ∙ ap (core_effect_at run place named) (start_on_core run.objects.images answer run.objects.is_quiet named run.steps start)

    did_so : (answer : ImageAnswer) (ending : Option Stop) → HasCoreEffect (started_effect start run.objects.images answer named before.steps) now.core before after ending
        → HasRunEffect (effect_of answer run asking) left_so before after ending
    did_so answer ending did =
        let effect = started_effect start run.objects.images answer named run.steps in
        let has : HasCoreEffect effect now.core before after ending =
        subst (λ (s : ℕ). HasCoreEffect (started_effect start run.objects.images answer named s) now.core before after ending) steps did in
        subst (λ (e : RunEffect). HasRunEffect e left_so before after ending) (sym (placed_so answer)) (record {
          objects = sym (ap (λ (n : NamedCoreState). record run.objects { cores = slice_set run.objects.cores place n }) (with_core now named effect.core name has.core));
          steps = has.steps;
          lines = has.lines;
          ending = has.ending;
        })

    same_so : now.core ≡ named.core → left_so ≡ run.objects
    same_so same =
        ap (λ (n : NamedCoreState). record run.objects { cores = slice_set run.objects.cores place n }) (sym (with_core now named named.core name same))
        ∙ ap (λ (cores : List NamedCoreState). record run.objects { cores = cores }) (set_same run.objects.cores place named there)

    pub start_told : (result : Result (Option Stop) StoreFault) → StartsOver result images start run.objects.images named now.core before after was then
        → RunsTold (result_map_both (λ ending. ending) store_command_fault result) images run asking left_so before after written written faults faults was then
    start_told (Ok ending) did = (
      told_run images run asking left_so before after written ending did.0.answer
          (subst (λ (asked : Option (List ℕ)). IsToldFor images asked did.0.answer) (sym asked_is) did.0.is) (did_so did.0.answer ending did.0.did),
      refl,
      did.1,
    )
    start_told (Err store_fault.Failed) did =
        (subst (λ (asked : Option (List ℕ)). IsTrue (is_some asked)) (sym asked_is) did.0, did.2, refl, refl, did.3, same_so did.1)
    start_told (Err store_fault.NoMemory) did = ((λ shelf. (front_of_none written _, refl)), did)

  -- on no core
  pub nobody_told : (left : ObjectsState) (ending : Option Stop) → core_under run.objects called ≡ None → then ≡ was
      → HasRunEffect (name_effect (Err no_image.Missing) run called (under.Core (core.Start start))) left before after ending
      → RunsTold (Ok ending) images run asking left before after written written faults faults was then
  nobody_told left ending nobody same did =
      let none : asked_name run.objects asking ≡ None =
      ap (act_asks run.objects) asks ∙ ap (start_image start run.objects.images) nobody in (
        told_run images run asking left before after written ending (Err no_image.Missing)
            (subst (λ (asked : Option (List ℕ)). IsToldFor images asked (Err no_image.Missing)) (sym none) refl)
            (subst (λ (e : RunEffect). HasRunEffect e left before after ending) (sym (core_line (Err no_image.Missing) run asking called (core.Start start) asks)) did),
        refl,
        same,
      )
