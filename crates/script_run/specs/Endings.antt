-- How the program ends, by its words and by what its devices did (own).
use Rattle.std.specs.Prelude.{◌≡◌, ◌⊎◌, ◌<◌, ◌≤◌, ◌+◌, ℕ, Bool, true, false, List, length, Option, Some, None, Result, Ok, Err}
use Rattle.std.specs.Io.KnownBytes.{Appends}
use Rattle.rp_io.specs.Images.{ImageAnswer}
use Rattle.rp_io.specs.declared.sinks.Sink as sinks
use Rattle.rp_io.specs.declared.sources.Source as sources
use Rattle.rp_io.specs.declared.stores.FirmwareStore as stores
use Rattle.rp_io.specs.Causes.{Rose}
use Rattle.rp_io.specs.Contents.{AppendsFront}
use Rattle.rp_base.specs.declared.limits.TheConstants.{SCRIPT_MOST}
use Rattle.journal_check.specs.declared.limits.TheConstants.{TRANSCRIPT_MOST}
use Rattle.journal_check.specs.declared.answers.Audit.{Audit}
use Rattle.journal_check.specs.Lines.{lines_of}
use Rattle.journal_check.specs.Audits.{IsAudit}
use Rattle.program_status.specs.declared.statuses.Status.{Status}
use Rattle.program_status.specs.declared.statuses.Status.TheVariants as status
use Rattle.script_lang.specs.declared.commands.Command.{Command}
use Rattle.script_lang.specs.Grammar.{Refusal, script_of}
use Rattle.command_run.specs.Runs.{AsksNone, new_run}
use Rattle.command_run.specs.Stores.{IsHeld, IsTold, StoreAnswers, store_of}
use Rattle.storm_run.specs.declared.plans.Plan.{Plan}
use Rattle.script_run.specs.Outputs.{Form, other, run, check, demo, storm, audit, Output, usage_output, run_output, script_output, fails_in, report_output, storm_output, audit_output, too_long_output, read_fault_output, store_fault_output}
use Rattle.script_run.specs.Reports.{report_of_fetch, check_report}
use Rattle.script_run.specs.Demos.{demo_output}

-- what the devices hold, where they say it, and their counts of faults
pub record Devices : Type 0 where
  -- what the source has left
  pub left : Option (List ℕ)
  -- the names and images of the store
  pub images : Option (List (List ℕ × List ℕ))
  -- what the sink was given
  pub written : Option (List ℕ)
  pub source_faults : ℕ
  pub store_faults : ℕ
  pub sink_faults : ℕ

-- the source, the store and the sink, by what contracts know of each: what it holds, with its count of faults
abbrev pub devices : {S F K : Type 0} → sources.Ghosts S → stores.Ghosts F → sinks.Ghosts K → S → F → K → Devices
devices source store sink script images out = record {
  left = source.left script;
  images = store.images images;
  written = sink.written out;
  source_faults = source.faults script;
  store_faults = store.faults images;
  sink_faults = sink.faults out;
}

-- a source that has so much left, and a store of these images, each with its count of faults, for what is done without the one or the other
abbrev pub source_with : Option (List ℕ) → ℕ → sources.Ghosts (Unit {0})
source_with left faults = record { left = λ source. left; faults = λ source. faults }

abbrev pub store_with : Option (List (List ℕ × List ℕ)) → ℕ → stores.Ghosts (Unit {0})
store_with images faults = record { images = λ store. images; faults = λ store. faults }

-- neither the source nor the store failed
pub record IsReadWell (before now : Devices) : Type 0 where
  pub source : now.source_faults ≡ before.source_faults
  pub store : now.store_faults ≡ before.store_faults

-- the store told what it has, and failed at no command
abbrev pub IsWellRun : Option (List (List ℕ × List ℕ)) → StoreAnswers → ℕ → ℕ → Type 0
IsWellRun images told before now = IsHeld images told × (now ≡ before)

-- the store failed, and so ended the run
abbrev pub IsFailedRun : Option (List (List ℕ × List ℕ)) → StoreAnswers → Bool → ℕ → ℕ → Type 0
IsFailedRun images told failed before now = IsTold images told × (failed ≡ true) × Rose before now

-- one or the other
abbrev pub IsRunCourse : Option (List (List ℕ × List ℕ)) → StoreAnswers → Bool → ℕ → ℕ → Type 0
IsRunCourse images told failed before now = IsWellRun images told before now ⊎ IsFailedRun images told failed before now

-- the output of a script over a store that didn't fail; of one that doesn't say its images, that over some answers
abbrev pub IsScriptOutput : Option (List (List ℕ × List ℕ)) → List ℕ → Output → Type 0
IsScriptOutput None bytes output = (told : StoreAnswers) × IsHeld None told × (output ≡ run_output told bytes)
IsScriptOutput (Some images) bytes output = output ≡ run_output (store_of images) bytes

-- the output of a script whose run ends where the store fails
pub record IsCutOutput (images : Option (List (List ℕ × List ℕ))) (bytes : List ℕ) (output : Output) : Type 0 where
  pub told : StoreAnswers
  pub is : IsTold images told
  pub fails : fails_in told (script_of bytes) ≡ true
  pub written : output ≡ run_output told bytes

-- this holds of the text that was read; of a source that doesn't say, of some text
abbrev pub OfSource : Option (List ℕ) → (List ℕ → Type 0) → Type 0
OfSource None holds = (bytes : List ℕ) × holds bytes
OfSource (Some bytes) holds = holds bytes

-- the output of a script that was read, over a store that didn't fail
abbrev pub IsRunOutput : Option (List ℕ) → Option (List (List ℕ × List ℕ)) → Output → Type 0
IsRunOutput left images output = OfSource left (λ bytes. IsScriptOutput images bytes output)

-- the report of an image; of a store that doesn't say, that of some answer
abbrev pub IsReportOutput : Option (List (List ℕ × List ℕ)) → List ℕ → Output → Type 0
IsReportOutput None name output =
    (answer : ImageAnswer) × (output ≡ report_output (report_of_fetch name answer))
IsReportOutput (Some images) name output = output ≡ report_output (check_report images name)

-- the output of an audit of a transcript, which is refused where it is too long
abbrev pub IsAuditOutput : List ℕ → Output → Type 0
IsAuditOutput bytes output =
    ((TRANSCRIPT_MOST < length bytes) × (output ≡ too_long_output))
    ⊎ ((length bytes ≤ TRANSCRIPT_MOST) × ((answer : Audit) × IsAudit (lines_of bytes) answer × (output ≡ audit_output answer)))

-- the output that the words ask for, over these devices
abbrev pub IsAsked : Form → Devices → Output → Type 0
IsAsked other before output = output ≡ usage_output
IsAsked run before output = IsRunOutput before.left before.images output
IsAsked (check name) before output = IsReportOutput before.images name output
IsAsked (demo sessions) before output = output ≡ demo_output sessions
IsAsked (storm plan) before output = output ≡ storm_output plan
IsAsked audit before output = OfSource before.left (λ bytes. IsAuditOutput bytes output)

-- the line of the device that failed, where the words need it
abbrev pub IsFaultOutput : Form → Devices → Devices → Output → Type 0
IsFaultOutput other before now output = ⊥
IsFaultOutput run before now output =
    ((output ≡ read_fault_output) × Rose before.source_faults now.source_faults × (now.store_faults ≡ before.store_faults))
    ⊎ (OfSource before.left (λ bytes. IsCutOutput before.images bytes output) × Rose before.store_faults now.store_faults × (now.source_faults ≡ before.source_faults))
IsFaultOutput (check name) before now output =
    (output ≡ store_fault_output) × Rose before.store_faults now.store_faults × (now.source_faults ≡ before.source_faults)
IsFaultOutput (demo sessions) before now output = ⊥
IsFaultOutput (storm plan) before now output = ⊥
IsFaultOutput audit before now output =
    (output ≡ read_fault_output) × Rose before.source_faults now.source_faults × (now.store_faults ≡ before.store_faults)

-- what is to be written: what the words ask for where the source and the store didn't fail, or the line of the one that did
abbrev pub IsOutput : Form → Devices → Devices → Output → Type 0
IsOutput form before now output =
    (IsAsked form before output × IsReadWell before now) ⊎ IsFaultOutput form before now output

-- how an output is written, by the status with which the program ends: a prefix of it where the sink failed or memory ran out, else the whole
abbrev pub Writes : Status → Output → Option (List ℕ) → Option (List ℕ) → ℕ → ℕ → Type 0
Writes status.WriteFault output old new before now = AppendsFront old new output.text × Rose before now
Writes status.NoMemory output old new before now = AppendsFront old new output.text × (now ≡ before)
Writes ended output old new before now = (output.status ≡ ended) × Appends old new output.text × (now ≡ before)

-- what is to be written, by the status: memory that ran out is no fault of a device
abbrev pub IsCourse : Status → Form → Devices → Devices → Output → Type 0
IsCourse status.NoMemory form before now output = IsAsked form before output × IsReadWell before now
IsCourse ended form before now output = IsOutput form before now output

-- the program ends with this status
pub record Ends (ended : Status) (form : Form) (before now : Devices) : Type 0 where
  pub output : Output
  pub course : IsCourse ended form before now output
  pub written : Writes ended output before.written now.written before.sink_faults now.sink_faults

-- the answer is the number of a status with which the program ends
abbrev pub AnswersAs : Option Status → Form → Devices → Devices → Type 0
AnswersAs None form before now = ⊥
AnswersAs (Some ended) form before now = Ends ended form before now

-- a status with which the program ends where all was written
abbrev pub IsFinal : Status → Type 0
IsFinal status.WriteFault = ⊥
IsFinal status.NoMemory = ⊥
IsFinal ended = Unit {0}

-- what the store did in a run, by the status: memory that ran out is no fault of it
abbrev pub IsStatusCourse : Status → Option (List (List ℕ × List ℕ)) → StoreAnswers → Bool → ℕ → ℕ → Type 0
IsStatusCourse status.NoMemory images told failed before now = IsWellRun images told before now
IsStatusCourse ended images told failed before now = IsRunCourse images told failed before now

-- a script is run over what the store says, or refused, and its output written
pub record RunEnds (ended : Status) (images : Option (List (List ℕ × List ℕ))) (said : Result (List Command) Refusal) (old new : Option (List ℕ)) (before now was then : ℕ) : Type 0 where
  pub told : StoreAnswers
  pub course : IsStatusCourse ended images told (fails_in told said) was then
  pub written : Writes ended (script_output told said) old new before now

-- the answer is the number of a status with which the run of these commands ends
abbrev pub RunAnswersAs : Option Status → Option (List (List ℕ × List ℕ)) → List Command → Option (List ℕ) → Option (List ℕ) → ℕ → ℕ → ℕ → ℕ → Type 0
RunAnswersAs None images commands old new before now was then = ⊥
RunAnswersAs (Some ended) images commands old new before now was then = RunEnds ended images (Ok commands) old new before now was then

-- the answer is the number of a status with which the storm of this plan ends: its report is written, or a prefix of it
abbrev pub StormAnswersAs : Option Status → Plan → Option (List ℕ) → Option (List ℕ) → ℕ → ℕ → Type 0
StormAnswersAs None plan old new before now = ⊥
StormAnswersAs (Some ended) plan old new before now = Writes ended (storm_output plan) old new before now

-- a transcript is audited, and the line of its audit written
pub record AuditEnds (ended : Status) (bytes : List ℕ) (old new : Option (List ℕ)) (before now : ℕ) : Type 0 where
  pub output : Output
  pub is : IsAuditOutput bytes output
  pub written : Writes ended output old new before now

-- where no device failed, the program ends with the status of what the words ask for, unless memory ran out
abbrev pub EndsWell : Status → Form → Devices → Type 0
EndsWell status.WriteFault form before = ⊥
EndsWell status.StoreFault form before = ⊥
EndsWell status.NoMemory form before = Unit {0}
EndsWell ended form before = (output : Output) × IsAsked form before output × (output.status ≡ ended)

-- the answer is the number of a status with which the program ends where no device failed
abbrev pub AnswersWell : Option Status → Form → Devices → Type 0
AnswersWell None form before = ⊥
AnswersWell (Some ended) form before = EndsWell ended form before

-- the words have the source read
abbrev pub reads_source : Form → Bool
reads_source run = true
reads_source audit = true
reads_source form = false

-- the most bytes that the words take from the source
abbrev pub source_most : Form → ℕ
source_most audit = TRANSCRIPT_MOST + 1
source_most form = SCRIPT_MOST + 1

-- a script was run, to its end, to the most steps or to a fault of the store; or a transcript was audited
abbrev pub IsReadEnd : Status → Type 0
IsReadEnd status.Done = Unit {0}
IsReadEnd status.Unsound = Unit {0}
IsReadEnd status.StepLimit = Unit {0}
IsReadEnd status.StoreFault = Unit {0}
IsReadEnd ended = ⊥

-- the answer is the number of such a status
abbrev pub IsReadAnswer : Option Status → Type 0
IsReadAnswer None = ⊥
IsReadAnswer (Some ended) = IsReadEnd ended

-- a script, or a text that is none, asks the store for no image
abbrev pub TextAsksNone : Result (List Command) Refusal → Type 0
TextAsksNone (Ok commands) = AsksNone new_run commands
TextAsksNone (Err refusal) = Unit {0}

-- the same of the script that a source has, where it says
abbrev pub SourceAsksNone : Option (List ℕ) → Type 0
SourceAsksNone None = ⊥
SourceAsksNone (Some bytes) = TextAsksNone (script_of bytes)

-- what the words ask for needs no store
abbrev pub NeedsNoStore : Form → Option (List ℕ) → Type 0
NeedsNoStore other left = Unit {0}
NeedsNoStore run left = SourceAsksNone left
NeedsNoStore (check name) left = ⊥
NeedsNoStore (demo sessions) left = Unit {0}
NeedsNoStore (storm plan) left = Unit {0}
NeedsNoStore audit left = Unit {0}
