-- What code was given of the image that a command asks for (own).
use Rattle.std.specs.Prelude.{◌≡◌, ℕ, List, ◌++◌, Option, IfSome, is_some, IsTrue, Result, Ok, Err}
use Rattle.rp_io.specs.declared.faults.NoImage.TheVariants as no_image
use Rattle.rp_io.specs.Causes.{Rose}
use Rattle.rp_io.specs.Contents.{AppendsFront}
use Rattle.script_lang.specs.declared.commands.Command.{Command}
use Rattle.script_lang.specs.declared.recipes.RecipeLine.{RecipeLine}
use Rattle.journal.specs.Lines.{transcript}
use Rattle.command_run.specs.declared.faults.CommandFault.{CommandFault}
use Rattle.command_run.specs.declared.faults.CommandFault.TheVariants as command_fault
use Rattle.command_run.specs.declared.faults.OutputFault.{OutputFault}
use Rattle.command_run.specs.declared.faults.OutputFault.TheVariants as output_fault
use Rattle.link_commands.specs.declared.acts.CoreAct.TheVariants as core
use Rattle.link_commands.specs.declared.acts.Line.{Line}
use Rattle.link_commands.specs.declared.acts.Line.TheVariants as line
use Rattle.link_commands.specs.declared.acts.NamedAct.TheVariants as under
use Rattle.link_commands.specs.declared.stops.Stop.{Stop}
use Rattle.link_commands.specs.Acts.{line_of}
use Rattle.command_run.specs.Stores.{IsShelf, Shelf, answer_for}
use Rattle.command_run.specs.Runs.{ObjectsState, RunState, asked_name, core_under, effect_of, line_effect}
use Rattle.run_log.specs.Logs.{KeepsLess, LogState}
use Rattle.command_run.specs.Outcomes.{CutsRun, HandsRunEffect, KeepsWhole}

-- a command did what it does over what the store has, and some lines were handed on meanwhile
pub record DidTold (images : Option (List (List ℕ × List ℕ))) (run : RunState) (command : Command) (left : ObjectsState) (before after : LogState) (written now : Option (List ℕ)) (answer : Option Stop) : Type 0 where
  pub shelf : Shelf
  pub is : IsShelf images shelf
  pub did : HandsRunEffect (effect_of (answer_for shelf (asked_name run.objects command)) run command) left before after written now answer

-- a text was cut off where the sink failed or memory ran out: a prefix of it is written
abbrev pub EndsCut : OutputFault → List ℕ → Option (List ℕ) → Option (List ℕ) → ℕ → ℕ → Type 0
EndsCut output_fault.Failed text old new before now = AppendsFront old new text × Rose before now
EndsCut output_fault.NoMemory text old new before now = AppendsFront old new text × (now ≡ before)

-- this holds where the sink failed
abbrev pub IfSinkFailed : OutputFault → Type 0 → Type 0
IfSinkFailed output_fault.Failed holds = holds
IfSinkFailed output_fault.NoMemory holds = Unit {0}

-- what a command writes was cut off, whatever the store has
abbrev pub IsToldCut : OutputFault → RunState → Command → LogState → Option (List ℕ) → Option (List ℕ) → ℕ → ℕ → Type 0
IsToldCut why run command before old new faults now =
    (shelf : Shelf) → EndsCut why (before.lines ++ transcript (effect_of (answer_for shelf (asked_name run.objects command)) run command).events) old new faults now

-- a drive of so many steps of the core of a name
abbrev pub drive_line : List ℕ → ℕ → Line (List RecipeLine) (List ℕ)
drive_line name count = line.On name (under.Core (core.Drive count))

-- the command is a drive, and was cut off where the sink failed
pub record IsCutCommand (run : RunState) (asked : Command) (left : ObjectsState) (before : LogState) (written now : Option (List ℕ)) : Type 0 where
  pub name : List ℕ
  pub count : ℕ
  pub is : line_of asked ≡ drive_line name count
  pub cut : CutsRun (λ done. line_effect (Err no_image.Missing) run (drive_line name done)) count left before.lines written now

-- the lines that are kept after a drive of a core: with less than a piece kept before it, they are few, however long it was
abbrev pub KeepsDriven : RunState → List ℕ → ℕ → LogState → List ℕ → Type 0
KeepsDriven run name count before lines =
    IfSome (core_under run.objects name) (λ _. KeepsLess before → KeepsWhole (λ done. (line_effect (Err no_image.Missing) run (drive_line name done)).events) count lines)

-- the same of a command, if it is a drive
abbrev pub KeepsDrive : RunState → Command → LogState → List ℕ → Type 0
KeepsDrive run asked before lines = (name : List ℕ) (count : ℕ) → line_of asked ≡ drive_line name count → KeepsDriven run name count before lines

-- a command was run, or it asked a store that failed, told nothing and left all as it was, or what it writes was cut off
abbrev pub RunsTold : Result (Option Stop) CommandFault → Option (List (List ℕ × List ℕ)) → RunState → Command → ObjectsState → LogState → LogState → Option (List ℕ) → Option (List ℕ) → ℕ → ℕ → ℕ → ℕ → Type 0
RunsTold (Ok answer) images run command left before after old new faults now was then =
    DidTold images run command left before after old new answer × (now ≡ faults) × (then ≡ was)
RunsTold (Err command_fault.Store) images run command left before after old new faults now was then =
    IsTrue (is_some (asked_name run.objects command)) × (after ≡ before) × (new ≡ old) × (now ≡ faults) × Rose was then × (left ≡ run.objects)
RunsTold (Err command_fault.Write) images run command left before after old new faults now was then =
    IsToldCut output_fault.Failed run command before old new faults now × (then ≡ was) × IsCutCommand run command left before old new
RunsTold (Err command_fault.NoMemory) images run command left before after old new faults now was then =
    IsToldCut output_fault.NoMemory run command before old new faults now × (then ≡ was)
