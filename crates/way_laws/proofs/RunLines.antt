-- The lines of takes of the commands of a run.
use Rattle.std.proofs.Common.{◌≡◌, ℕ, ◌&&◌, Bool, true, false, cond, List, Option, Some, None, bytes_eq, is_none, option_and_then, slice_get, refl, sym, ap, subst, ◌∙◌, inl, inr}
use Rattle.std.specs.Prelude.{IfSome}
use Rattle.std.proofs.lemmas.Bool.{true≢false}
use Rattle.std.proofs.lemmas.Bool.Decides.{eqb_tells}
use Rattle.rp_io.specs.Images.{ImageAnswer}
use Rattle.script_lang.specs.declared.commands.Command.{Command}
use Rattle.script_lang.specs.declared.recipes.RecipeLine.{RecipeLine}
use Rattle.script_lang.specs.Runnable.{AreRunnable, IsRunnable}
use Rattle.link_bench.specs.declared.acts.LinkAct.{LinkAct}
use Rattle.link_bench.specs.Acts.{IsFitAct}
use Rattle.core_laws.specs.BenchMoves.{IsReachedBench}
use Rattle.link_commands.specs.declared.acts.CoreAct.TheVariants as core
use Rattle.link_commands.specs.declared.acts.Line.{Line}
use Rattle.link_commands.specs.declared.acts.Line.TheVariants as line
use Rattle.link_commands.specs.declared.acts.NamedAct.{NamedAct}
use Rattle.link_commands.specs.declared.acts.NamedAct.TheVariants as under
use Rattle.link_commands.specs.Acts.{line_of}
use Rattle.link_commands.specs.LinkCommands.{link_effect}
use Rattle.link_commands.specs.NamedLinks.{NamedLink}
use Rattle.command_run.specs.CoreCommands.{core_act_effect, core_effect}
use Rattle.command_run.specs.NamedCores.{NamedCoreState}
use Rattle.command_run.specs.Runs.{RunEffect, RunState, core_place, effect_of, line_effect, name_effect, place_of, run_of}
use Rattle.command_run.specs.Stores.{StoreAnswers}
use Rattle.run_laws.proofs.CommandWalks.{core_acts, link_acts}
use Rattle.run_laws.proofs.CoreWalks.{FitsNamed}
use Rattle.run_laws.proofs.CoresReady.{IsSoundCore}
use Rattle.run_laws.proofs.Items.{some_is, stands}
use Rattle.run_laws.proofs.RunWalks.{item_at}
use Rattle.run_laws.proofs.RunsReached.{line_fits, run_sound}
use Rattle.way_laws.specs.CoreAccounts.{core_act_deeds, core_act_at, drive_takes, is_unlinked}
use Rattle.way_laws.specs.RunAccounts.{link_act_at, is_place, named_takes}
use Rattle.way_laws.specs.WordedTakes.{AreLinesAmong, AreLinesOfTakes}
use Rattle.way_laws.proofs.DriveLines.{drive_among}
use Rattle.way_laws.proofs.LinkLines.{named_lines}
use Rattle.way_laws.proofs.RunCoreTales.{cores_come, done_fits as core_done_fits}
use Rattle.way_laws.proofs.RunTales.{done_fits, links_come}
use Rattle.way_laws.proofs.TakeLines.{core_act_lines}

-- a choice that is there was made
chosen : {X : Type 0} (test : Bool) (one wanted : X) → cond test (Some one) None ≡ Some wanted → (test ≡ true) × (one ≡ wanted)
chosen true one wanted is = (refl, some_is one wanted is)
chosen false one wanted is = absurd (cc)

same_place : (at : Option ℕ) (place : ℕ) → is_place at place ≡ true → at ≡ Some place
same_place None place is = absurd (true≢false (sym is))
same_place (Some at) place is = elim (eqb_tells at place) [
  | inl same ↦ ap Some same.1
  | inr differ ↦ absurd (true≢false (sym is ∙ differ.0))
]

-- ---- what a command tells that does something on a link

module _ (answer : ImageAnswer) (run : RunState) (place : ℕ) (on : NamedLink) (found : slice_get run.objects.links place ≡ Some on) where
  link_line : (now : Line (List RecipeLine) (List ℕ)) (wanted : NamedAct (List ℕ)) → link_act_at run place now ≡ Some wanted → (line_effect answer run now).events ≡ (link_effect on run.steps wanted).events
  link_line (line.Image name lines) wanted is = absurd (cc)
  link_line (line.Quiet set) wanted is = absurd (cc)
  link_line (line.Dump name image) wanted is = absurd (cc)
  link_line (line.On name act) wanted is =
      let made = chosen (is_place (place_of run.objects.links name) place) act wanted is in
      ap (λ (effect : RunEffect). effect.events) (link_acts answer run name act place on (record { placed = same_place (place_of run.objects.links name) place made.0; found = found }))
      ∙ ap (λ (w : NamedAct (List ℕ)). (link_effect on run.steps w).events) made.1

  pub link_tells : (asked : Command) (wanted : NamedAct (List ℕ)) → link_act_at run place (line_of asked) ≡ Some wanted → (effect_of answer run asked).events ≡ (link_effect on run.steps wanted).events
  unfolding effect_of
  link_tells asked wanted is = link_line (line_of asked) wanted is

-- ---- what a command tells that does something on a core

-- where no link is found by a name it has no place
linkless : (run : RunState) (name : List ℕ) (at : Option ℕ) → place_of run.objects.links name ≡ at → is_none (option_and_then (slice_get run.objects.links) at) ≡ true → at ≡ None
linkless run name None placed none = refl
linkless run name (Some at) placed none =
    absurd (true≢false (sym none ∙ stands (λ (named : NamedLink). bytes_eq named.name name) run.objects.links at placed))

module _ (answer : ImageAnswer) (run : RunState) (place : ℕ) (on : NamedCoreState) (found : slice_get run.objects.cores place ≡ Some on) where
  core_under : (name : List ℕ) (act wanted : NamedAct (List ℕ)) (unlinked : Bool) → is_unlinked run name ≡ unlinked → cond (unlinked && is_place (core_place run.objects.cores name) place) (Some act) None ≡ Some wanted
      → (name_effect answer run name act).events ≡ (core_effect run.objects.images answer run.objects.is_quiet on run.steps wanted).events
  core_under name act wanted false none is = absurd (cc)
  core_under name act wanted true none is =
      let made = chosen (is_place (core_place run.objects.cores name) place) act wanted is in
      ap (λ (effect : RunEffect). effect.events)
      (core_acts answer run name act place on
      (record { unlinked = linkless run name (place_of run.objects.links name) refl none; placed = same_place (core_place run.objects.cores name) place made.0; found = found }))
      ∙ ap (λ (w : NamedAct (List ℕ)). (core_effect run.objects.images answer run.objects.is_quiet on run.steps w).events) made.1

  core_line : (now : Line (List RecipeLine) (List ℕ)) (wanted : NamedAct (List ℕ)) → core_act_at run place now ≡ Some wanted
      → (line_effect answer run now).events ≡ (core_effect run.objects.images answer run.objects.is_quiet on run.steps wanted).events
  core_line (line.Image name lines) wanted is = absurd (cc)
  core_line (line.Quiet set) wanted is = absurd (cc)
  core_line (line.Dump name image) wanted is = absurd (cc)
  core_line (line.On name act) wanted is = core_under name act wanted (is_unlinked run name) refl is

  pub core_tells : (asked : Command) (wanted : NamedAct (List ℕ)) → core_act_at run place (line_of asked) ≡ Some wanted
      → (effect_of answer run asked).events ≡ (core_effect run.objects.images answer run.objects.is_quiet on run.steps wanted).events
  unfolding effect_of
  core_tells asked wanted is = core_line (line_of asked) wanted is

-- ---- the commands of a run

module _ (told : StoreAnswers) (commands : List Command) (runs : AreRunnable commands) (answer : ImageAnswer) (asked : Command) (may : IsRunnable asked) (place : ℕ) where
  abbrev run : RunState
  run = (run_of told commands).last

  -- what is done under the name of a link
  pub link_lines : (wanted : NamedAct (List ℕ)) (on : NamedLink) → slice_get run.objects.links place ≡ Some on → link_act_at run place (line_of asked) ≡ Some wanted
      → AreLinesOfTakes (named_takes on.bench run.steps wanted) on.name (effect_of answer run asked).events
  link_lines wanted on found done =
      subst (AreLinesOfTakes (named_takes on.bench run.steps wanted) on.name) (sym (link_tells answer run place on found asked wanted done))
      (named_lines on run.steps wanted
      (subst (λ (acted : Option (NamedAct (List ℕ))). IfSome acted (FitsNamed IsFitAct)) done (done_fits run place (line_of asked) (line_fits asked may)))
      (item_at (λ (named : NamedLink). IsReachedBench named.bench) run.objects.links place on found (run_sound told commands runs).links)
      (links_come told commands place on runs found))

  pub sound : (on : NamedCoreState) → slice_get run.objects.cores place ≡ Some on → IsSoundCore on.core
  sound on found = item_at (λ (named : NamedCoreState). IsSoundCore named.core) run.objects.cores place on found (run_sound told commands runs).cores

  -- an act on the link of a core
  pub core_lines : (act : LinkAct (List ℕ)) (on : NamedCoreState) → slice_get run.objects.cores place ≡ Some on → core_act_at run place (line_of asked) ≡ Some (under.Link act)
      → AreLinesOfTakes (core_act_deeds on.core on.core.bench run.steps act).takes on.name (effect_of answer run asked).events
  unfolding core_effect
  core_lines act on found done =
      subst (AreLinesOfTakes (core_act_deeds on.core on.core.bench run.steps act).takes on.name) (sym (core_tells answer run place on found asked (under.Link act) done))
      (core_act_lines on.name on.core run.steps act on.core.bench
      (subst (λ (wanted : Option (NamedAct (List ℕ))). IfSome wanted (FitsNamed IsFitAct)) done (core_done_fits run place (line_of asked) (line_fits asked may)))
      (sound on found).reached.bench
      (cores_come told commands place on runs found))

  -- a drive of a core
  pub drive_lines : (count : ℕ) (on : NamedCoreState) → slice_get run.objects.cores place ≡ Some on → core_act_at run place (line_of asked) ≡ Some (under.Core (core.Drive count))
      → AreLinesAmong (drive_takes count on.core run.steps) on.name (effect_of answer run asked).events
  unfolding core_effect core_act_effect
  drive_lines count on found done =
      subst (AreLinesAmong (drive_takes count on.core run.steps) on.name) (sym (core_tells answer run place on found asked (under.Core (core.Drive count)) done))
      (drive_among on.name run.objects.is_quiet on.core run.steps count (sound on found) (cores_come told commands place on runs found))
