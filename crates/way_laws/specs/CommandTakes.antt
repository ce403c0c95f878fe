-- Which commands of a run may tell lines of takes, and of which handings these are (own).
use Rattle.std.specs.Prelude.{◌≡◌, ◌⊎◌, ℕ, Bool, true, false, List, [], ◌∷◌, ◌++◌, slice_get, Some, All, if◌then◌else◌}
use Rattle.rp_base.specs.declared.kinds.End.{End}
use Rattle.proc_state.specs.Lives.{is_up}
use Rattle.lane_laws.specs.Handings.{Handing}
use Rattle.journal.specs.declared.events.Event.{Event}
use Rattle.script_lang.specs.declared.commands.Command.{Command}
use Rattle.script_lang.specs.declared.recipes.RecipeLine.{RecipeLine}
use Rattle.link_commands.specs.declared.acts.CoreAct.TheVariants as core
use Rattle.link_commands.specs.declared.acts.Line.{Line}
use Rattle.link_commands.specs.declared.acts.Line.TheVariants as line
use Rattle.link_commands.specs.declared.acts.NamedAct.{NamedAct}
use Rattle.link_commands.specs.declared.acts.NamedAct.TheVariants as under
use Rattle.link_commands.specs.Acts.{line_of}
use Rattle.link_commands.specs.NamedLinks.{NamedLink}
use Rattle.command_run.specs.NamedCores.{NamedCoreState}
use Rattle.command_run.specs.Runs.{RunState, run_of}
use Rattle.command_run.specs.Stores.{StoreAnswers}
use Rattle.way_laws.specs.CoreAccounts.{core_act_deeds, core_act_at, drive_takes}
use Rattle.way_laws.specs.RunAccounts.{link_act_at, named_takes}
use Rattle.way_laws.specs.WordedTakes.{IsLineAmong, IsLineOfTake, is_take_line}

-- whether what is done under a name may take messages: an act on a link may, and a drive
abbrev pub may_take : NamedAct (List ℕ) → Bool
may_take (under.Link asked) = true
may_take (under.Core (core.Drive count)) = true
may_take other = false

-- the same of what a command is about: one that is under no name takes nothing
abbrev pub line_may_take : Line (List RecipeLine) (List ℕ) → Bool
line_may_take (line.On name wanted) = may_take wanted
line_may_take other = false

-- what is told of takes at each end by what is done under the name of a core: by an act on its link, and by a drive of a core that is up
abbrev pub core_takes : NamedCoreState → ℕ → NamedAct (List ℕ) → End → List Handing
core_takes on steps (under.Link asked) = (core_act_deeds on.core on.core.bench steps asked).takes
core_takes on steps (under.Core (core.Drive count)) = if is_up on.core.life.state then drive_takes count on.core steps else (λ end. [])
core_takes on steps other = λ end. []

-- an event is the line of the one handing that is told at an end of a link of the run, by what a command does under the name of that link
pub record IsTakeOfLink (run : RunState) (done : Line (List RecipeLine) (List ℕ)) (event : Event) : Type 0 where
  pub place : ℕ
  pub on : NamedLink
  pub wanted : NamedAct (List ℕ)
  pub has : slice_get run.objects.links place ≡ Some on
  pub does : link_act_at run place done ≡ Some wanted
  pub worded : IsLineOfTake (named_takes on.bench run.steps wanted) on.name event

-- an event is the line of a handing among those that are told at an end of the link of a core of the run, by what a command does under the name of that core
pub record IsTakeOfCore (run : RunState) (done : Line (List RecipeLine) (List ℕ)) (event : Event) : Type 0 where
  pub place : ℕ
  pub on : NamedCoreState
  pub wanted : NamedAct (List ℕ)
  pub has : slice_get run.objects.cores place ≡ Some on
  pub does : core_act_at run place done ≡ Some wanted
  pub worded : IsLineAmong (core_takes on run.steps wanted) on.name event

-- each of these events that is the line of a take is that of a handing which is told on a link of the run, or on that of a core
abbrev pub AreTakesOfRun : RunState → Line (List RecipeLine) (List ℕ) → List Event → Type 0
AreTakesOfRun run done events = All (λ (event : Event). is_take_line event ≡ true → IsTakeOfLink run done event ⊎ IsTakeOfCore run done event) events

-- an event is the line of a take in the run of these commands: after the first of them, one that is next has told a handing, on a link of the run then or on that of a core, of which it is the line
pub record IsTakeInRun (told : StoreAnswers) (commands : List Command) (event : Event) : Type 0 where
  pub done : List Command
  pub next : Command
  pub more : List Command
  pub parts : commands ≡ done ++ next ∷ more
  pub take : IsTakeOfLink (run_of told done).last (line_of next) event ⊎ IsTakeOfCore (run_of told done).last (line_of next) event
