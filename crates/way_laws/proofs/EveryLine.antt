-- Each line of a take that a command of a run tells is that of a handing which is told on a link of the run, or on that of a core.
use Rattle.std.proofs.Common.{◌≡◌, ◌⊎◌, ℕ, true, false, List, [], Some, slice_get, refl, sym, ap, subst, ◌∙◌, inl, inr}
use Rattle.std.specs.Prelude.{All, Contains}
use Rattle.std.proofs.lemmas.Bool.{true≢false}
use Rattle.std.proofs.lemmas.List.Elements.{All-weaker, Contains-push}
use Rattle.rp_io.specs.Images.{ImageAnswer}
use Rattle.rp_base.specs.declared.kinds.End.{End}
use Rattle.lane_laws.specs.Handings.{Handing}
use Rattle.script_lang.specs.declared.commands.Command.{Command}
use Rattle.script_lang.specs.declared.recipes.RecipeLine.{RecipeLine}
use Rattle.script_lang.specs.Runnable.{AreRunnable, IsRunnable}
use Rattle.journal.specs.declared.events.Event.{Event}
use Rattle.link_commands.specs.declared.acts.CoreAct.TheVariants as core
use Rattle.link_commands.specs.declared.acts.Line.{Line}
use Rattle.link_commands.specs.declared.acts.NamedAct.{NamedAct}
use Rattle.link_commands.specs.declared.acts.NamedAct.TheVariants as under
use Rattle.link_commands.specs.Acts.{line_of}
use Rattle.link_commands.specs.NamedLinks.{NamedLink}
use Rattle.command_run.specs.CoreCommands.{core_act_effect, core_effect}
use Rattle.command_run.specs.NamedCores.{NamedCoreState}
use Rattle.command_run.specs.Runs.{RunEffect, RunState, effect_of, run_of}
use Rattle.command_run.specs.Stores.{StoreAnswers}
use Rattle.run_laws.proofs.CommandWalks.{ActsOnCore, ActsOnLink, CommandOutcome, outcome}
use Rattle.way_laws.specs.CommandTakes.{AreTakesOfRun, IsTakeOfCore, IsTakeOfLink, core_takes}
use Rattle.way_laws.specs.CoreAccounts.{core_act_at}
use Rattle.way_laws.specs.RunAccounts.{link_act_at, named_takes}
use Rattle.way_laws.specs.WordedTakes.{AreLinesAmong, AreLinesOfTakes, IsLineAmong, IsLineOfTake, TellNoTakes, is_take_line}
use Rattle.way_laws.proofs.CoreLines.{core_none}
use Rattle.way_laws.proofs.DoneAt.{core_done_on_it, done_on_it}
use Rattle.way_laws.proofs.DriveLines.{drive_up_among}
use Rattle.way_laws.proofs.OtherLines.{no_takes, tells_none}
use Rattle.way_laws.proofs.RunCoreTales.{cores_come}
use Rattle.way_laws.proofs.RunLines.{core_lines, core_tells, link_lines, sound}

-- where no event is the line of a take, each that is one has what is wanted
none_are : (P : Event → Type 0) (events : List Event) → TellNoTakes events → All (λ (event : Event). is_take_line event ≡ true → P event) events
none_are P events none =
    All-weaker (λ (event : Event). is_take_line event ≡ false) (λ (event : Event). is_take_line event ≡ true → P event)
    (λ event other is. absurd (true≢false (sym is ∙ other))) events none

-- the one handing that is told is among those that are told
lines_among : (takes : End → List Handing) (name : List ℕ) (events : List Event) → AreLinesOfTakes takes name events → AreLinesAmong takes name events
lines_among takes name events are =
    All-weaker (λ (event : Event). is_take_line event ≡ true → IsLineOfTake takes name event) (λ (event : Event). is_take_line event ≡ true → IsLineAmong takes name event)
    (λ event of is. let one = of is in record {
      end = one.end;
      caller = one.caller;
      handing = one.handing;
      told = subst (λ (l : List Handing). Contains l one.handing) (sym one.told) (Contains-push [] one.handing);
      worded = one.worded;
    })
    events are

-- ---- the commands of a run

module _ (told : StoreAnswers) (commands : List Command) (runs : AreRunnable commands) (answer : ImageAnswer) (asked : Command) (may : IsRunnable asked) where
  abbrev run : RunState
  run = (run_of told commands).last

  abbrev done : Line (List RecipeLine) (List ℕ)
  done = line_of asked

  abbrev events : List Event
  events = (effect_of answer run asked).events

  abbrev IsOfRun : Event → Type 0
  IsOfRun event = IsTakeOfLink run done event ⊎ IsTakeOfCore run done event

  drive_are : (place count : ℕ) (on : NamedCoreState) → slice_get run.objects.cores place ≡ Some on → core_act_at run place done ≡ Some (under.Core (core.Drive count))
      → AreLinesAmong (core_takes on run.steps (under.Core (core.Drive count))) on.name events
  unfolding core_effect core_act_effect
  drive_are place count on found does =
      subst (AreLinesAmong (core_takes on run.steps (under.Core (core.Drive count))) on.name) (sym (core_tells answer run place on found asked (under.Core (core.Drive count)) does))
      (drive_up_among on.name run.objects.is_quiet on.core run.steps count (sound told commands runs answer asked may place on found) (cores_come told commands place on runs found))

  -- what is done under the name of a core
  pub core_are : (place : ℕ) (wanted : NamedAct (List ℕ)) (on : NamedCoreState) → slice_get run.objects.cores place ≡ Some on → core_act_at run place done ≡ Some wanted
      → AreLinesAmong (core_takes on run.steps wanted) on.name events
  core_are place (under.Link act) on found does =
      lines_among (core_takes on run.steps (under.Link act)) on.name events (core_lines told commands runs answer asked may place act on found does)
  core_are place (under.Core (core.Drive count)) on found does = drive_are place count on found does
  core_are place other on found does =
      none_are (IsLineAmong (λ end. []) on.name) events
      (subst TellNoTakes (sym (core_tells answer run place on found asked other does))
      (no_takes (core_effect run.objects.images answer run.objects.is_quiet on run.steps other).events (core_none run.objects.images answer run.objects.is_quiet on run.steps other refl)))

  on_link : (place : ℕ) (wanted : NamedAct (List ℕ)) (on : NamedLink) → slice_get run.objects.links place ≡ Some on → link_act_at run place done ≡ Some wanted → AreTakesOfRun run done events
  on_link place wanted on found does =
      All-weaker (λ (event : Event). is_take_line event ≡ true → IsLineOfTake (named_takes on.bench run.steps wanted) on.name event) (λ (event : Event). is_take_line event ≡ true → IsOfRun event)
      (λ event of is. inl (record { place = place; on = on; wanted = wanted; has = found; does = does; worded = of is }))
      events (link_lines told commands runs answer asked may place wanted on found does)

  on_core : (place : ℕ) (wanted : NamedAct (List ℕ)) (on : NamedCoreState) → slice_get run.objects.cores place ≡ Some on → core_act_at run place done ≡ Some wanted → AreTakesOfRun run done events
  on_core place wanted on found does =
      All-weaker (λ (event : Event). is_take_line event ≡ true → IsLineAmong (core_takes on run.steps wanted) on.name event) (λ (event : Event). is_take_line event ≡ true → IsOfRun event)
      (λ event of is. inr (record { place = place; on = on; wanted = wanted; has = found; does = does; worded = of is }))
      events (core_are place wanted on found does)

  -- whatever the outcome of the command is
  came_are : {now : Line (List RecipeLine) (List ℕ)} {effect : RunEffect} → CommandOutcome answer run now effect → done ≡ now → events ≡ effect.events → AreTakesOfRun run done events
  came_are (ActsOnLink name wanted place on at) is tells = on_link place wanted on at.found (ap (link_act_at run place) is ∙ done_on_it run place name wanted on at)
  came_are (ActsOnCore name wanted place on at) is tells = on_core place wanted on at.found (ap (core_act_at run place) is ∙ core_done_on_it run place name wanted on at)
  came_are came is tells = none_are IsOfRun events (subst TellNoTakes (sym tells) (tells_none came tt))

  pub every_line : AreTakesOfRun run done events
  every_line = came_are (outcome answer run asked) refl refl
