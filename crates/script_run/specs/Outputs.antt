-- What the program writes and how it ends where no device fails and memory is found (own).
use Rattle.std.specs.Prelude.{ℕ, Bool, false, ◌&&◌, nat_le, List, [], ◌∷◌, ◌++◌, length, Option, Some, None, Result, Ok, Err, bytes_eq, codes, if◌then◌else◌}
use Rattle.word_kinds.specs.Spellings.{digits_from, name_of}
use Rattle.image_maker.specs.declared.demo.TheConstants.{SESSIONS_MOST}
use Rattle.script_lang.specs.declared.commands.Command.{Command}
use Rattle.script_lang.specs.Grammar.{Refusal, bad_line, script_of}
use Rattle.word_kinds.specs.declared.causes.Cause.TheVariants as cause
use Rattle.journal_check.specs.declared.answers.Audit.{Audit}
use Rattle.journal_check.specs.declared.answers.Audit.TheVariants as verdict
use Rattle.journal.specs.Lines.{transcript}
use Rattle.journal.specs.declared.notices.Notice.TheVariants as notice
use Rattle.journal.specs.Notices.{report_text}
use Rattle.program_status.specs.declared.statuses.Status.{Status}
use Rattle.program_status.specs.declared.statuses.Status.TheVariants as status
use Rattle.link_commands.specs.declared.stops.Stop.{Stop}
use Rattle.link_commands.specs.declared.stops.Stop.TheVariants as stop
use Rattle.command_run.specs.Stores.{StoreAnswers}
use Rattle.command_run.specs.Runs.{Run, run_of}
use Rattle.image_report.specs.Reports.{Report}
use Rattle.rp_base.specs.Limits.{is_ring_size}
use Rattle.storm_run.specs.declared.plans.Plan.{Plan}
use Rattle.storm_run.specs.declared.plans.TheConstants.{COUNT_MOST, END_CALLERS_MOST}
use Rattle.storm_run.specs.Storms.{storm_text}

-- what the words ask for
pub data Form : Type 0 where
  other : Form
  run : Form
  check : List ℕ → Form
  demo : ℕ → Form
  storm : Plan → Form
  audit : Form

-- `check` with a name; a word that is no name is none of the forms
abbrev pub named_form : Option (List ℕ) → Form
named_form (Some name) = check name
named_form None = other

-- a number of the command line: one to ten decimal digits, where leading zeros are allowed
abbrev pub argument_of : List ℕ → Option ℕ
argument_of word = if nat_le 1 (length word) && nat_le (length word) 10 then digits_from 10 0 word else None

-- `demo` with a number of sessions; a word that is no number from 1 to 500 is none of the forms
abbrev pub demo_form : Option ℕ → Form
demo_form (Some sessions) = if nat_le 1 sessions && nat_le sessions SESSIONS_MOST then demo sessions else other
demo_form None = other

-- whether a storm may have so many callers on each end, so many messages of each and so many entries of a ring
abbrev pub is_plan : Plan → Bool
is_plan plan =
    nat_le 1 plan.hosts && nat_le plan.hosts END_CALLERS_MOST && nat_le 1 plan.remotes && nat_le plan.remotes END_CALLERS_MOST
    && nat_le 1 plan.count && nat_le plan.count COUNT_MOST && is_ring_size plan.num

-- `storm` with these numbers; others are none of the forms
abbrev pub plan_form : Plan → Form
plan_form plan = if is_plan plan then storm plan else other

-- `storm` with four numbers; a word that is no number makes none of the forms
abbrev pub storm_form : Option ℕ → Option ℕ → Option ℕ → Option ℕ → Form
storm_form (Some hosts) (Some remotes) (Some count) (Some num) = plan_form (record { hosts = hosts; remotes = remotes; count = count; num = num })
storm_form hosts remotes count num = other

-- what a first word asks for with the one after it
abbrev pub argument_form : List ℕ → List ℕ → Form
argument_form word argument =
    if bytes_eq word (codes "check") then named_form (name_of argument)
    else (if bytes_eq word (codes "demo") then demo_form (argument_of argument) else other)

-- what a word alone asks for
abbrev pub word_form : List ℕ → Form
word_form word = if bytes_eq word (codes "run") then run else (if bytes_eq word (codes "audit") then audit else other)

-- what a first word asks for with the four after it
abbrev pub numbers_form : List ℕ → List ℕ → List ℕ → List ℕ → List ℕ → Form
numbers_form word hosts remotes count num =
    if bytes_eq word (codes "storm") then storm_form (argument_of hosts) (argument_of remotes) (argument_of count) (argument_of num) else other

-- what these words after the program's name ask for
abbrev pub form_of : List (List ℕ) → Form
form_of [] = other
form_of (word ∷ []) = word_form word
form_of (word ∷ argument ∷ []) = argument_form word argument
form_of (word ∷ hosts ∷ remotes ∷ []) = other
form_of (word ∷ hosts ∷ remotes ∷ count ∷ []) = other
form_of (word ∷ hosts ∷ remotes ∷ count ∷ num ∷ []) = numbers_form word hosts remotes count num
form_of (word ∷ hosts ∷ remotes ∷ count ∷ num ∷ sixth ∷ more) = other

-- how the program ends, and all that it writes
pub record Output : Type 0 where
  pub status : Status
  pub text : List ℕ

-- the line of a store that failed, with its status
abbrev pub store_fault_output : Output
store_fault_output = record { status = status.StoreFault; text = report_text (notice.StoreFault ∷ []) }

-- how a run ends that went to its end or stopped in its midst, and its last line
abbrev pub stop_output : Option Stop → Output
stop_output None = record { status = status.Done; text = [] }
stop_output (Some stop.StepLimit) = record { status = status.StepLimit; text = report_text (notice.StepLimit ∷ []) }

-- how a run ends, and its last line
abbrev pub end_output : Run → Output
end_output ended = if ended.failed then store_fault_output else stop_output ended.ending

-- lines, and an end after them
abbrev pub output_behind : List ℕ → Output → Output
output_behind lines last = record last { text = lines ++ last.text }

-- the transcript of a run, with its last line
abbrev pub transcript_output : Run → Output
transcript_output ended = output_behind (transcript ended.events) (end_output ended)

-- the line of a text that is refused, with its status
abbrev pub refusal_output : Refusal → Output
refusal_output refusal = record { status = status.Refused; text = report_text (notice.Refused refusal.line refusal.cause ∷ []) }

-- the transcript of a script, or its refusal
abbrev pub script_output : StoreAnswers → Result (List Command) Refusal → Output
script_output told (Ok commands) = transcript_output (run_of told commands)
script_output told (Err refusal) = refusal_output refusal

-- the output of the words `run`, by what the store says and the bytes of the script
unfoldable pub run_output : StoreAnswers → List ℕ → Output
run_output told bytes = script_output told (script_of bytes)

-- whether the store fails while a script runs
abbrev pub fails_in : StoreAnswers → Result (List Command) Refusal → Bool
fails_in told (Ok commands) = (run_of told commands).failed
fails_in told (Err refusal) = false

-- the lines of a report, with its status
abbrev pub report_output : Report → Output
report_output report = record { status = if report.loads then status.Done else status.Unsound; text = report_text report.notices }

-- the report of a storm, with its status
abbrev pub storm_output : Plan → Output
storm_output plan = record { status = status.Done; text = storm_text plan }

-- the line of an audit, with its status
abbrev pub audit_output : Audit → Output
audit_output (verdict.Sound lines) = record { status = status.Done; text = report_text (notice.Sound lines ∷ []) }
audit_output (verdict.Broken line rule) = record { status = status.Unsound; text = report_text (notice.Broken line rule ∷ []) }

-- the line of a transcript that is too long, with its status
abbrev pub too_long_output : Output
too_long_output = refusal_output (bad_line 0 cause.Size)

-- the usage line, with its status
abbrev pub usage_output : Output
usage_output = record { status = status.Usage; text = report_text (notice.Usage ∷ []) }

-- the line of a source that failed
abbrev pub read_fault_output : Output
read_fault_output = record { status = status.ReadFault; text = report_text (notice.ReadFault ∷ []) }
