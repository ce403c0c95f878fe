-- How what a run writes comes to its sink (own). No public clause speaks of this: it serves the contracts of the crate's own functions.
use Rattle.std.specs.Prelude.{◌≡◌, ◌⊎◌, ℕ, List, ◌++◌, Option, Result, Ok, Err}
use Rattle.std.specs.Io.KnownBytes.{Appends}
use Rattle.rp_io.specs.Causes.{Rose}
use Rattle.rp_io.specs.Contents.{AppendsFront}
use Rattle.script_lang.specs.declared.commands.Command.{Command}
use Rattle.program_status.specs.declared.statuses.Status.{Status}
use Rattle.command_run.specs.declared.faults.OutputFault.{OutputFault}
use Rattle.command_run.specs.declared.faults.OutputFault.TheVariants as output_fault
use Rattle.command_run.specs.Stores.{StoreAnswers}
use Rattle.command_run.specs.Runs.{ObjectsState, run_of}
use Rattle.script_run.specs.Outputs.{Output, transcript_output}
use Rattle.script_run.specs.Endings.{IsRunCourse, IsWellRun}
use Rattle.script_run.specs.Yards.{StandsBehind, StandsInDrive}

-- a text is appended whole, or a prefix of it, where the sink failed or memory ran out; no store has a part in it
abbrev pub Tells : {T : Type 0} → Result T OutputFault → List ℕ → Option (List ℕ) → Option (List ℕ) → ℕ → ℕ → Type 0
Tells (Ok value) text old new before now = Appends old new text × (now ≡ before)
Tells (Err output_fault.Failed) text old new before now = AppendsFront old new text × Rose before now
Tells (Err output_fault.NoMemory) text old new before now = AppendsFront old new text × (now ≡ before)

-- the answer is how the run ends, where all was written
abbrev pub AnswersStatus : Result Status OutputFault → Status → Type 0
AnswersStatus (Ok answer) ended = answer ≡ ended
AnswersStatus (Err fault) ended = Unit {0}

-- what waits is handed on, with the last line of the run
abbrev pub EndsRun : Result Status OutputFault → Output → List ℕ → Option (List ℕ) → Option (List ℕ) → ℕ → ℕ → Type 0
EndsRun result last lines old new before now = AnswersStatus result last.status × Tells result (lines ++ last.text) old new before now

-- what the store did: memory that ran out is no fault of it
abbrev pub IsResultCourse : Result Status OutputFault → Option (List (List ℕ × List ℕ)) → StoreAnswers → List Command → ℕ → ℕ → Type 0
IsResultCourse (Err output_fault.NoMemory) images told commands was then = IsWellRun images told was then
IsResultCourse (Err output_fault.Failed) images told commands was then = IsRunCourse images told (run_of told commands).failed was then
IsResultCourse (Ok ended) images told commands was then = IsRunCourse images told (run_of told commands).failed was then

-- what is left stands for the state in which the run ends; where the sink failed, for one that it had
abbrev pub StandsFor : Result Status OutputFault → StoreAnswers → List Command → ObjectsState → Option (List ℕ) → Option (List ℕ) → Type 0
StandsFor (Ok ended) told commands left old new = left ≡ (run_of told commands).last.objects
StandsFor (Err output_fault.Failed) told commands left old new = StandsBehind told commands left old new ⊎ StandsInDrive told commands left old new
StandsFor (Err output_fault.NoMemory) told commands left old new = Unit {0}

-- the run of these commands is written, over what the store told, with its last line
pub record RunWrites (images : Option (List (List ℕ × List ℕ))) (commands : List Command) (left : ObjectsState) (result : Result Status OutputFault) (old new : Option (List ℕ)) (before now was then : ℕ) : Type 0 where
  pub told : StoreAnswers
  pub course : IsResultCourse result images told commands was then
  pub status : AnswersStatus result (transcript_output (run_of told commands)).status
  pub text : Tells result (transcript_output (run_of told commands)).text old new before now
  pub stands : StandsFor result told commands left old new
