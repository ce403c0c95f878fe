-- What is in a yard after a run: its links and cores, by the state in which the run ended or was cut off (own).
use Rattle.std.specs.Prelude.{◌≡◌, ◌⊎◌, ℕ, List, [], ◌∷◌, ◌++◌, Option, Some, None, Result, Ok, Err}
use Rattle.rp_io.specs.Causes.{Rose}
use Rattle.rp_io.specs.Contents.{AppendsFront}
use Rattle.script_lang.specs.declared.commands.Command.{Command}
use Rattle.script_lang.specs.declared.commands.Command.TheVariants as command
use Rattle.script_lang.specs.Grammar.{Refusal, script_of}
use Rattle.link_commands.specs.Acts.{line_of}
use Rattle.command_run.specs.Stores.{StoreAnswers}
use Rattle.command_run.specs.Fetches.{drive_line}
use Rattle.command_run.specs.Outcomes.{IsCutDrive}
use Rattle.command_run.specs.Runs.{ObjectsState, Run, run_of}
use Rattle.program_status.specs.declared.statuses.Status.{Status}
use Rattle.program_status.specs.declared.statuses.Status.TheVariants as status
use Rattle.script_run.specs.Outputs.{Form, other, run, check, demo, storm, audit, transcript_output}
use Rattle.script_run.specs.Endings.{Devices, OfSource, RunEnds}

-- the yard stands for the state after the first of the commands, and nothing is written of what the later ones write
pub record StandsBehind (told : StoreAnswers) (commands : List Command) (yard : ObjectsState) (old new : Option (List ℕ)) : Type 0 where
  pub done : List Command
  pub more : List Command
  pub are : commands ≡ done ++ more
  pub is : yard ≡ (run_of told done).last.objects
  pub front : AppendsFront old new (transcript_output (run_of told done)).text

-- the run of these commands and a drive of so many steps after them
abbrev pub run_to_drive : StoreAnswers → List Command → List ℕ → ℕ → Run
run_to_drive told done name steps = run_of told (done ++ command.Drive name steps ∷ [])

-- the yard stands for the state after the first of the commands and some steps of the drive that is next, and nothing is written of what comes later; where the sink failed, less than a piece was kept beside what the last 1,024 of these steps, or one event, told
pub record StandsInDrive (told : StoreAnswers) (commands : List Command) (yard : ObjectsState) (old new : Option (List ℕ)) : Type 0 where
  pub done : List Command
  pub next : Command
  pub name : List ℕ
  pub count : ℕ
  pub drives : line_of next ≡ drive_line name count
  pub more : List Command
  pub are : commands ≡ done ++ next ∷ more
  pub cut : IsCutDrive ObjectsState (λ steps. (run_to_drive told done name steps).last.objects) (λ steps. (run_to_drive told done name steps).events) count yard [] old new

-- the yard of a run by the status with which it ends: it stands for the state in which the run ends, so for that before the command for which the store failed; where the sink failed, for one that the run had, of which no later event is written; where memory ran out nothing is said of it
abbrev pub StandsAs : Status → StoreAnswers → List Command → ObjectsState → Option (List ℕ) → Option (List ℕ) → Type 0
StandsAs status.WriteFault told commands yard old new = StandsBehind told commands yard old new ⊎ StandsInDrive told commands yard old new
StandsAs status.NoMemory told commands yard old new = Unit {0}
StandsAs ended told commands yard old new = yard ≡ (run_of told commands).last.objects

-- the run of these commands ends so, and the yard stands for what it left
pub record RunLeaves (ended : Status) (images : Option (List (List ℕ × List ℕ))) (commands : List Command) (yard : ObjectsState) (old new : Option (List ℕ)) (before now was then : ℕ) : Type 0 where
  pub ends : RunEnds ended images (Ok commands) old new before now was then
  pub stands : StandsAs ended ends.told commands yard old new

-- the answer is the number of a status with which the run of these commands ends, and the yard stands for what it left
abbrev pub RunLeavesAs : Option Status → Option (List (List ℕ × List ℕ)) → List Command → ObjectsState → Option (List ℕ) → Option (List ℕ) → ℕ → ℕ → ℕ → ℕ → Type 0
RunLeavesAs None images commands yard old new before now was then = ⊥
RunLeavesAs (Some ended) images commands yard old new before now was then = RunLeaves ended images commands yard old new before now was then

-- a script leaves the yard as its run does, and a text that is none leaves it as it was
abbrev pub TextLeaves : Status → Option (List (List ℕ × List ℕ)) → Result (List Command) Refusal → ObjectsState → ObjectsState → Option (List ℕ) → Option (List ℕ) → ℕ → ℕ → ℕ → ℕ → Type 0
TextLeaves ended images (Ok commands) yard left old new before now was then = RunLeaves ended images commands left old new before now was then
TextLeaves ended images (Err refusal) yard left old new before now was then = left ≡ yard

-- the text that a source has leaves the yard so
abbrev pub SourceLeaves : Status → Devices → Devices → ObjectsState → ObjectsState → Type 0
SourceLeaves ended before now yard left =
    OfSource before.left (λ bytes. TextLeaves ended before.images (script_of bytes) yard left before.written now.written before.sink_faults now.sink_faults before.store_faults now.store_faults)

-- what `run` leaves of the yard: all as it was where the source failed
abbrev pub ScriptLeaves : Status → Devices → Devices → ObjectsState → ObjectsState → Type 0
ScriptLeaves status.ReadFault before now yard left = left ≡ yard
ScriptLeaves status.WriteFault before now yard left = SourceLeaves status.WriteFault before now yard left ⊎ ((left ≡ yard) × Rose before.source_faults now.source_faults)
ScriptLeaves ended before now yard left = SourceLeaves ended before now yard left

-- what the words leave of the yard: all as it was, but with `run`
abbrev pub Leaves : Status → Form → Devices → Devices → ObjectsState → ObjectsState → Type 0
Leaves ended other before now yard left = left ≡ yard
Leaves ended run before now yard left = ScriptLeaves ended before now yard left
Leaves ended (check name) before now yard left = left ≡ yard
Leaves ended (demo sessions) before now yard left = left ≡ yard
Leaves ended (storm plan) before now yard left = left ≡ yard
Leaves ended audit before now yard left = left ≡ yard

-- the answer is the number of a status with which the words leave the yard so
abbrev pub LeavesAs : Option Status → Form → Devices → Devices → ObjectsState → ObjectsState → Type 0
LeavesAs None form before now yard left = ⊥
LeavesAs (Some ended) form before now yard left = Leaves ended form before now yard left
