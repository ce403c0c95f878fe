-- How the program ends, from what was to be written and how it was written.
use Rattle.std.proofs.Common.{◌≡◌, ◌≢◌, ◌⊎◌, ◌+◌, ◌≤◌, ◌<◌, ℕ, Bool, true, false, cond, Vec, ltb, List, [], Option, Some, None, Result, Ok, Err, length, take, is_ok, refl, sym, ap, subst, ◌∙◌, inl, inr, arith}
use Rattle.std.proofs.lemmas.Bool.{lt-ltb, cases_lt, false≢true, true≢false}
use Rattle.std.proofs.lemmas.List.{length-take-le, take_all}
use Rattle.std.specs.Io.KnownBytes.{Appends}
use Rattle.rp_base.specs.declared.limits.TheConstants.{SCRIPT_MOST}
use Rattle.journal_check.specs.declared.limits.TheConstants.{TRANSCRIPT_MOST}
use Rattle.journal_check.specs.declared.answers.Audit.{Audit}
use Rattle.journal_check.specs.declared.answers.Audit.TheVariants as verdict
use Rattle.journal_check.specs.Lines.{lines_of}
use Rattle.journal_check.specs.Audits.{IsAudit}
use Rattle.journal_check.proofs.Found.{audit_found}
use Rattle.std.specs.declared.alloc.Global.{Global}
use Rattle.rp_io.specs.declared.faults.ReadFault.{ReadFault}
use Rattle.rp_io.specs.declared.faults.ReadFault.TheVariants as read_fault
use Rattle.rp_io.specs.declared.faults.NoImage.TheVariants as no_image
use Rattle.rp_io.specs.Causes.{Rose}
use Rattle.rp_io.specs.Contents.{AppendsFront, IsFrontOf}
use Rattle.word_kinds.specs.declared.causes.Cause.TheVariants as cause
use Rattle.script_lang.specs.declared.commands.Command.{Command}
use Rattle.script_lang.specs.Grammar.{Refusal, bad_line, script_of}
use Rattle.image_maker.specs.Demo.{demo_text}
use Rattle.script_run.specs.declared.demos.AcceptedCounts.{AcceptedCounts}
use Rattle.program_status.specs.declared.statuses.Status.{Status}
use Rattle.program_status.specs.declared.statuses.Status.TheVariants as status
use Rattle.program_status.specs.Statuses.{status_number, status_of}
use Rattle.link_commands.specs.declared.stops.Stop.{Stop}
use Rattle.link_commands.specs.declared.stops.Stop.TheVariants as stop
use Rattle.command_run.specs.declared.faults.OutputFault.{OutputFault}
use Rattle.command_run.specs.declared.faults.OutputFault.TheVariants as output_fault
use Rattle.command_run.specs.Stores.{IsHeld, IsTold, StoreAnswers, store_of}
use Rattle.command_run.specs.Runs.{ObjectsState, new_run, run_of}
use Rattle.script_run.specs.Outputs.{Form, other, run, check, demo, storm, audit, Output, audit_output, storm_output, fails_in, too_long_output, usage_output, run_output, script_output, stop_output, transcript_output, report_output, store_fault_output}
use Rattle.script_run.specs.Reports.{check_report, report_of_fetch}
use Rattle.script_run.specs.Demos.{counts_from, commands_output, counted_output, demo_output}
use Rattle.script_run.specs.Delivery.{RunWrites}
use Rattle.command_run.proofs.HandedLines.{front_of_none}
use Rattle.command_run.proofs.Shelves.{any_held, any_told, held_failed, held_run}
use Rattle.script_run.specs.Endings.{AuditEnds, Devices, IsAsked, IsAuditOutput, IsReadWell, IsFaultOutput, IsOutput, IsCourse, IsCutOutput, IsFinal, IsRunCourse, IsRunOutput, IsReportOutput, IsScriptOutput, IsStatusCourse, IsWellRun, OfSource, SourceAsksNone, TextAsksNone, EndsWell, RunEnds, Writes, Ends}
use Rattle.script_run.specs.Yards.{RunLeaves, StandsAs}

-- the status of its number
pub status_back : (ended : Status) → status_of (status_number ended) ≡ Some ended
status_back status.Done = refl
status_back status.Unsound = refl
status_back status.Usage = refl
status_back status.ReadFault = refl
status_back status.WriteFault = refl
status_back status.NoMemory = refl
status_back status.Refused = refl
status_back status.StepLimit = refl
status_back status.StoreFault = refl

-- what the words ask for may be written with each status
pub asked_course : (ended : Status) (form : Form) (before now : Devices) (output : Output)
    → IsAsked form before output → IsReadWell before now → IsCourse ended form before now output
asked_course status.Done form before now output asked well = inl (asked, well)
asked_course status.Unsound form before now output asked well = inl (asked, well)
asked_course status.Usage form before now output asked well = inl (asked, well)
asked_course status.ReadFault form before now output asked well = inl (asked, well)
asked_course status.WriteFault form before now output asked well = inl (asked, well)
asked_course status.NoMemory form before now output asked well = (asked, well)
asked_course status.Refused form before now output asked well = inl (asked, well)
asked_course status.StepLimit form before now output asked well = inl (asked, well)
asked_course status.StoreFault form before now output asked well = inl (asked, well)

-- the line of a device that failed may be written with each status but that of memory that ran out
pub fault_course : (ended : Status) (form : Form) (before now : Devices) (output : Output)
    → ended ≢ status.NoMemory → IsFaultOutput form before now output → IsCourse ended form before now output
fault_course status.Done form before now output found fault = inr fault
fault_course status.Unsound form before now output found fault = inr fault
fault_course status.Usage form before now output found fault = inr fault
fault_course status.ReadFault form before now output found fault = inr fault
fault_course status.WriteFault form before now output found fault = inr fault
fault_course status.NoMemory form before now output found fault = absurd (found refl)
fault_course status.Refused form before now output found fault = inr fault
fault_course status.StepLimit form before now output found fault = inr fault
fault_course status.StoreFault form before now output found fault = inr fault

-- an output that was written whole, with its status
pub writes_whole : (ended : Status) (output : Output) (old new : Option (List ℕ)) (before now : ℕ)
    → IsFinal ended → output.status ≡ ended → Appends old new output.text → now ≡ before → Writes ended output old new before now
writes_whole status.Done output old new before now final is appended same = (is, appended, same)
writes_whole status.Unsound output old new before now final is appended same = (is, appended, same)
writes_whole status.Usage output old new before now final is appended same = (is, appended, same)
writes_whole status.ReadFault output old new before now final is appended same = (is, appended, same)
writes_whole status.WriteFault output old new before now final is appended same = absurd final
writes_whole status.NoMemory output old new before now final is appended same = absurd final
writes_whole status.Refused output old new before now final is appended same = (is, appended, same)
writes_whole status.StepLimit output old new before now final is appended same = (is, appended, same)
writes_whole status.StoreFault output old new before now final is appended same = (is, appended, same)

-- what the words ask for was written
pub ends_asked : (ended : Status) (form : Form) (before now : Devices) (output : Output) → IsAsked form before output → IsReadWell before now
    → Writes ended output before.written now.written before.sink_faults now.sink_faults → Ends ended form before now
ends_asked ended form before now output asked well written =
    record { output = output; course = asked_course ended form before now output asked well; written = written }

-- the line of a device that failed was written
pub ends_fault : (ended : Status) (form : Form) (before now : Devices) (made output : Output) → output ≡ made → ended ≢ status.NoMemory → IsFaultOutput form before now output
    → Writes ended made before.written now.written before.sink_faults now.sink_faults → Ends ended form before now
ends_fault ended form before now made output is found fault written =
    record { output = output; course = fault_course ended form before now output found fault; written = rw (is) written }

-- some output of a script, and of an image
some_script : (images : Option (List (List ℕ × List ℕ))) (bytes : List ℕ) → (output : Output) × IsScriptOutput images bytes output
some_script None bytes = (run_output (any_told None) bytes, (any_told None, any_held None, refl))
some_script (Some images) bytes = (run_output (store_of images) bytes, refl)

some_run : (left : Option (List ℕ)) (images : Option (List (List ℕ × List ℕ))) → (output : Output) × IsRunOutput left images output
some_run None images =
    let some = some_script images [] in
    (some.0, ([], some.1))
some_run (Some bytes) images = some_script images bytes

some_report : (images : Option (List (List ℕ × List ℕ))) (name : List ℕ) → (output : Output) × IsReportOutput images name output
some_report None name = (report_output (report_of_fetch name (Err no_image.Missing)), (Err no_image.Missing, refl))
some_report (Some images) name = (report_output (check_report images name), refl)

-- and of an audit
some_verdict : (bytes : List ℕ) → (TRANSCRIPT_MOST < length bytes) ⊎ (length bytes ≤ TRANSCRIPT_MOST) → (output : Output) × IsAuditOutput bytes output
some_verdict bytes (inl long) = (too_long_output, inl (long, refl))
some_verdict bytes (inr fits) =
    let found = audit_found (lines_of bytes) in
    (audit_output found.0, inr (fits, (found.0, found.1, refl)))

pub some_audit : (bytes : List ℕ) → (output : Output) × IsAuditOutput bytes output
some_audit bytes = some_verdict bytes (cases_lt TRANSCRIPT_MOST (length bytes))

some_transcript : (left : Option (List ℕ)) → (output : Output) × OfSource left (λ bytes. IsAuditOutput bytes output)
some_transcript None =
    let some = some_audit [] in
    (some.0, ([], some.1))
some_transcript (Some bytes) = some_audit bytes

-- what the words ask for is some output
some_asked : (form : Form) (before : Devices) → (output : Output) × IsAsked form before output
some_asked other before = (usage_output, refl)
some_asked run before = some_run before.left before.images
some_asked (check name) before = some_report before.images name
some_asked (demo sessions) before = (demo_output sessions, refl)
some_asked (storm plan) before = (storm_output plan, refl)
some_asked audit before = some_transcript before.left

-- memory ran out before anything was written
pub ends_no_memory : (form : Form) (before now : Devices) → IsReadWell before now → now.written ≡ before.written → now.sink_faults ≡ before.sink_faults
    → Ends status.NoMemory form before now
ends_no_memory form before now well same faults =
    let asked = some_asked form before in
    record {
      output = asked.0;
      course = (asked.1, well);
      written = (subst (λ (written : Option (List ℕ)). AppendsFront before.written written asked.0.text) (sym same) (front_of_none before.written asked.0.text), faults);
    }

-- a text of which all but the first byte too many was read says the same
cut_same : (left : List ℕ) → script_of (take (SCRIPT_MOST + 1) left) ≡ script_of left
unfolding script_of
cut_same left = by_length (cases_lt (SCRIPT_MOST + 1) (length left))
  where
    by_length : (SCRIPT_MOST + 1 < length left) ⊎ (length left ≤ SCRIPT_MOST + 1) → script_of (take (SCRIPT_MOST + 1) left) ≡ script_of left
    by_length (inl long) =
        let all : ltb SCRIPT_MOST (length left) ≡ true = lt-ltb SCRIPT_MOST (length left) (omega (arith, long)) in
        let len : length (take (SCRIPT_MOST + 1) left) ≡ SCRIPT_MOST + 1 = length-take-le (SCRIPT_MOST + 1) left (omega (arith, long)) in
        rw (all, len) refl
    by_length (inr fits) = ap script_of (take_all (SCRIPT_MOST + 1) left fits)

-- the output of the words `run`, by what the script says
output_is : (told : StoreAnswers) (bytes : List ℕ) → script_output told (script_of bytes) ≡ run_output told bytes
unfolding run_output
output_is told bytes = refl

-- over a store that didn't fail, the output is that over its images alone
said_same : (images : List (List ℕ × List ℕ)) (told : StoreAnswers) (said : Result (List Command) Refusal) → IsHeld (Some images) told → script_output told said ≡ script_output (store_of images) said
said_same images told (Ok commands) is = ap transcript_output (held_run images told new_run commands is)
said_same images told (Err refusal) is = refl

script_held : (images : Option (List (List ℕ × List ℕ))) (told : StoreAnswers) (bytes : List ℕ) → IsHeld images told → IsScriptOutput images bytes (script_output told (script_of bytes))
script_held None told bytes is = (told, is, output_is told bytes)
script_held (Some images) told bytes is = said_same images told (script_of bytes) is ∙ output_is (store_of images) bytes

-- over a store that failed
script_cut : (images : Option (List (List ℕ × List ℕ))) (told : StoreAnswers) (bytes : List ℕ) → IsTold images told → fails_in told (script_of bytes) ≡ true
    → IsCutOutput images bytes (script_output told (script_of bytes))
script_cut images told bytes is fails = record { told = told; is = is; fails = fails; written = output_is told bytes }

-- what was read of a source says what all of it says
pub read_same : (left bytes : List ℕ) → IsFrontOf (Some left) (SCRIPT_MOST + 1) bytes → script_of bytes ≡ script_of left
read_same left bytes front = ap script_of front ∙ cut_same left

-- what was read of a source that asks for no image asks for none
pub read_asks : (left : Option (List ℕ)) (bytes : List ℕ) → IsFrontOf left (SCRIPT_MOST + 1) bytes → SourceAsksNone left → TextAsksNone (script_of bytes)
read_asks None bytes front none = absurd none
read_asks (Some left) bytes front none = subst TextAsksNone (sym (read_same left bytes front)) none

-- so its output is that of all of it
read_held : (left : Option (List ℕ)) (images : Option (List (List ℕ × List ℕ))) (told : StoreAnswers) (bytes : List ℕ) → IsFrontOf left (SCRIPT_MOST + 1) bytes → IsHeld images told
    → IsRunOutput left images (script_output told (script_of bytes))
read_held None images told bytes front is = (bytes, script_held images told bytes is)
read_held (Some left) images told bytes front is =
    subst (λ (said : Result (List Command) Refusal). IsScriptOutput images left (script_output told said)) (sym (read_same left bytes front)) (script_held images told left is)

read_cut : (left : Option (List ℕ)) (images : Option (List (List ℕ × List ℕ))) (told : StoreAnswers) (bytes : List ℕ) → IsFrontOf left (SCRIPT_MOST + 1) bytes → IsTold images told
    → fails_in told (script_of bytes) ≡ true → OfSource left (λ text. IsCutOutput images text (script_output told (script_of bytes)))
read_cut None images told bytes front is fails = (bytes, script_cut images told bytes is fails)
read_cut (Some left) images told bytes front is fails =
    let same = read_same left bytes front in
    subst (λ (said : Result (List Command) Refusal). IsCutOutput images left (script_output told said)) (sym same)
    (script_cut images told left is (subst (λ (said : Result (List Command) Refusal). fails_in told said ≡ true) same fails))

module _ (before now : Devices) (told : StoreAnswers) (bytes : List ℕ) (front : IsFrontOf before.left (SCRIPT_MOST + 1) bytes) (source : now.source_faults ≡ before.source_faults) where
  -- what was to be written
  run_well : IsWellRun before.images told before.store_faults now.store_faults → IsAsked run before (script_output told (script_of bytes)) × IsReadWell before now
  run_well is = (read_held before.left before.images told bytes front is.0, record { source = source; store = is.1 })

  run_either : IsRunCourse before.images told (fails_in told (script_of bytes)) before.store_faults now.store_faults → IsOutput run before now (script_output told (script_of bytes))
  run_either (inl is) = inl (run_well is)
  run_either (inr is) = inr (inr (read_cut before.left before.images told bytes front is.0 is.1, is.2, source))

  -- by the status
  run_course : (ended : Status) → IsStatusCourse ended before.images told (fails_in told (script_of bytes)) before.store_faults now.store_faults
      → IsCourse ended run before now (script_output told (script_of bytes))
  run_course status.Done is = run_either is
  run_course status.Unsound is = run_either is
  run_course status.Usage is = run_either is
  run_course status.ReadFault is = run_either is
  run_course status.WriteFault is = run_either is
  run_course status.NoMemory is = run_well is
  run_course status.Refused is = run_either is
  run_course status.StepLimit is = run_either is
  run_course status.StoreFault is = run_either is

-- a script that was read was run
pub ends_run : (ended : Status) (before now : Devices) (bytes : List ℕ) → IsFrontOf before.left (SCRIPT_MOST + 1) bytes → now.source_faults ≡ before.source_faults
    → RunEnds ended before.images (script_of bytes) before.written now.written before.sink_faults now.sink_faults before.store_faults now.store_faults → Ends ended run before now
ends_run ended before now bytes front source ends = record {
  output = script_output ends.told (script_of bytes);
  course = run_course before now ends.told bytes front source ended ends.course;
  written = ends.written;
}

-- a transcript of which all but the first byte too many was read has the same audit
audit_long : (bytes : List ℕ) (output : Output) → TRANSCRIPT_MOST < length bytes → IsAuditOutput bytes output → output ≡ too_long_output
audit_long bytes output long (inl refused) = refused.1
audit_long bytes output long (inr audited) = absurd (omega (arith, long, audited.0))

audit_cut : (left : List ℕ) (output : Output) → (TRANSCRIPT_MOST + 1 < length left) ⊎ (length left ≤ TRANSCRIPT_MOST + 1)
    → IsAuditOutput (take (TRANSCRIPT_MOST + 1) left) output → IsAuditOutput left output
audit_cut left output (inl long) is =
    let len : length (take (TRANSCRIPT_MOST + 1) left) ≡ TRANSCRIPT_MOST + 1 = length-take-le (TRANSCRIPT_MOST + 1) left (omega (arith, long)) in
    inl (omega (arith, long), audit_long (take (TRANSCRIPT_MOST + 1) left) output (omega (arith, len)) is)
audit_cut left output (inr fits) is = subst (λ (bytes : List ℕ). IsAuditOutput bytes output) (take_all (TRANSCRIPT_MOST + 1) left fits) is

audit_read : (left : Option (List ℕ)) (bytes : List ℕ) (output : Output) → IsFrontOf left (TRANSCRIPT_MOST + 1) bytes → IsAuditOutput bytes output
    → OfSource left (λ text. IsAuditOutput text output)
audit_read None bytes output front is = (bytes, is)
audit_read (Some left) bytes output front is =
    audit_cut left output (cases_lt (TRANSCRIPT_MOST + 1) (length left)) (subst (λ (text : List ℕ). IsAuditOutput text output) front is)

-- a transcript that was read was audited
pub ends_audit : (ended : Status) (before now : Devices) (bytes : List ℕ) → IsFrontOf before.left (TRANSCRIPT_MOST + 1) bytes → IsReadWell before now
    → AuditEnds ended bytes before.written now.written before.sink_faults now.sink_faults → Ends ended audit before now
ends_audit ended before now bytes front well ends =
    ends_asked ended audit before now ends.output (audit_read before.left bytes ends.output front ends.is) well ends.written

-- a line that is that of an audit was written
pub audit_written : (ended : Status) (made : Output) (bytes : List ℕ) (answer : Audit) (old new : Option (List ℕ)) (before now : ℕ) → made.status ≡ (audit_output answer).status
    → made.text ≡ (audit_output answer).text → length bytes ≤ TRANSCRIPT_MOST → IsAudit (lines_of bytes) answer → Writes ended made old new before now
    → AuditEnds ended bytes old new before now
audit_written ended made bytes answer old new before now status text fits is written =
    let same : made ≡ audit_output answer =
    ap (λ (s : Status). record { status = s; text = made.text }) status ∙ ap (λ (t : List ℕ). record { status = (audit_output answer).status; text = t }) text in
    record {
      output = audit_output answer;
      is = inr (fits, (answer, is, refl));
      written = subst (λ (output : Output). Writes ended output old new before now) same written;
    }

-- memory ran out in the audit
pub unaudited_ends : (bytes : List ℕ) (old : Option (List ℕ)) (before : ℕ) → AuditEnds status.NoMemory bytes old old before before
unaudited_ends bytes old before =
    let some = some_audit bytes in
    record { output = some.0; is = some.1; written = (front_of_none old some.0.text, refl) }

-- a store that didn't fail, by the status
well_status : (ended : Status) (images : Option (List (List ℕ × List ℕ))) (told : StoreAnswers) (failed : Bool) (was then : ℕ) → IsWellRun images told was then → IsStatusCourse ended images told failed was then
well_status status.Done images told failed was then is = inl is
well_status status.Unsound images told failed was then is = inl is
well_status status.Usage images told failed was then is = inl is
well_status status.ReadFault images told failed was then is = inl is
well_status status.WriteFault images told failed was then is = inl is
well_status status.NoMemory images told failed was then is = is
well_status status.Refused images told failed was then is = inl is
well_status status.StepLimit images told failed was then is = inl is
well_status status.StoreFault images told failed was then is = inl is

-- a status with which a run ends where all was written
final_status : (ended : Status) (images : Option (List (List ℕ × List ℕ))) (told : StoreAnswers) (failed : Bool) (was then : ℕ) → IsFinal ended → IsRunCourse images told failed was then
    → IsStatusCourse ended images told failed was then
final_status status.Done images told failed was then final is = is
final_status status.Unsound images told failed was then final is = is
final_status status.Usage images told failed was then final is = is
final_status status.ReadFault images told failed was then final is = is
final_status status.WriteFault images told failed was then final is = is
final_status status.NoMemory images told failed was then final is = absurd final
final_status status.Refused images told failed was then final is = is
final_status status.StepLimit images told failed was then final is = is
final_status status.StoreFault images told failed was then final is = is

stop_final : (stop : Option Stop) → IsFinal (stop_output stop).status
stop_final None = tt
stop_final (Some stop.StepLimit) = tt

end_final : (failed : Bool) (stop : Option Stop) → IsFinal (cond failed store_fault_output (stop_output stop)).status
end_final true stop = tt
end_final false stop = stop_final stop

-- with such a status the yard stands for the state in which the run ends
final_stands : (ended : Status) (told : StoreAnswers) (commands : List Command) (yard : ObjectsState) (old new : Option (List ℕ)) → IsFinal ended → yard ≡ (run_of told commands).last.objects
    → StandsAs ended told commands yard old new
final_stands status.Done told commands yard old new final is = is
final_stands status.Unsound told commands yard old new final is = is
final_stands status.Usage told commands yard old new final is = is
final_stands status.ReadFault told commands yard old new final is = is
final_stands status.WriteFault told commands yard old new final is = absurd final
final_stands status.NoMemory told commands yard old new final is = absurd final
final_stands status.Refused told commands yard old new final is = is
final_stands status.StepLimit told commands yard old new final is = is
final_stands status.StoreFault told commands yard old new final is = is

module _ (images : Option (List (List ℕ × List ℕ))) (commands : List Command) (yard : ObjectsState) (old new : Option (List ℕ)) (before now was then : ℕ) where
  -- a run that was written whole
  pub run_whole : (ended : Status) → RunWrites images commands yard (Ok ended) old new before now was then → RunLeaves ended images commands yard old new before now was then
  run_whole ended writes =
      let ran = run_of writes.told commands in
      let final : IsFinal ended = subst IsFinal (sym writes.status) (end_final ran.failed ran.ending) in
      record {
        ends = record {
          told = writes.told;
          course = final_status ended images writes.told ran.failed was then final writes.course;
          written = writes_whole ended (transcript_output ran) old new before now final (sym writes.status) writes.text.0 writes.text.1;
        };
        stands = final_stands ended writes.told commands yard old new final writes.stands;
      }

  -- what was written, by the fault that is answered
  run_to : (fault why : OutputFault) → fault ≡ why → RunWrites images commands yard (Err fault) old new before now was then → RunWrites images commands yard (Err why) old new before now was then
  run_to fault why is writes = subst (λ (it : OutputFault). RunWrites images commands yard (Err it) old new before now was then) is writes

  -- a run that was written in part
  pub run_in_part : (fault : OutputFault) → fault ≡ output_fault.Failed → RunWrites images commands yard (Err fault) old new before now was then
      → RunLeaves status.WriteFault images commands yard old new before now was then
  run_in_part fault is wrote =
      let writes = run_to fault output_fault.Failed is wrote in
      record { ends = record { told = writes.told; course = writes.course; written = writes.text }; stands = writes.stands }

  pub run_no_memory : (fault : OutputFault) → fault ≡ output_fault.NoMemory → RunWrites images commands yard (Err fault) old new before now was then
      → RunLeaves status.NoMemory images commands yard old new before now was then
  run_no_memory fault is wrote =
      let writes = run_to fault output_fault.NoMemory is wrote in
      record { ends = record { told = writes.told; course = writes.course; written = writes.text }; stands = tt }

module _ (images : Option (List (List ℕ × List ℕ))) (said : Result (List Command) Refusal) (old : Option (List ℕ)) (before was : ℕ) where
  -- memory ran out before the run
  pub unread_ends : RunEnds status.NoMemory images said old old before before was was
  unread_ends = record { told = any_told images; course = (any_held images, refl); written = (front_of_none old (script_output (any_told images) said).text, refl) }

-- a text that is no script
pub refused_ends : (images : Option (List (List ℕ × List ℕ))) (said : Result (List Command) Refusal) (refusal : Refusal) (ended : Status) (old new : Option (List ℕ)) (before now was : ℕ) → said ≡ Err refusal
    → Writes ended (script_output (any_told images) (Err refusal)) old new before now → RunEnds ended images said old new before now was was
refused_ends images said refusal ended old new before now was is written =
    subst (λ (text : Result (List Command) Refusal). RunEnds ended images text old new before now was was) (sym is)
    (record { told = any_told images; course = well_status ended images (any_told images) false was was (any_held images, refl); written = written })

-- a text that is too long is refused
script_long : (bytes : List ℕ) → ltb SCRIPT_MOST (length bytes) ≡ true → script_of bytes ≡ Err (bad_line 0 cause.Size)
unfolding script_of
script_long bytes long = rw (long) refl

abbrev refusal_of : Refusal → Result (List Command) Refusal
refusal_of refusal = Err refusal

no_refusal : (commands : List Command) (refusal : Refusal) → refusal_of refusal ≡ Ok commands → ⊥
no_refusal commands refusal same = true≢false (sym (ap is_ok same))

-- a text that is a script is no longer than a script may be
pub script_fits : (bytes : List ℕ) (commands : List Command) → script_of bytes ≡ Ok commands → length bytes ≤ SCRIPT_MOST
script_fits bytes commands says = by_length (cases_lt SCRIPT_MOST (length bytes))
  where
    by_length : (SCRIPT_MOST < length bytes) ⊎ (length bytes ≤ SCRIPT_MOST) → length bytes ≤ SCRIPT_MOST
    by_length (inl long) = absurd (no_refusal commands (bad_line 0 cause.Size) (sym (script_long bytes (lt-ltb SCRIPT_MOST (length bytes) long)) ∙ says))
    by_length (inr fits) = fits

-- no count rose, so no device failed
well_of : (ended : Status) (form : Form) (before now : Devices) (output : Output)
    → ¬ (Rose before.source_faults now.source_faults) → ¬ (Rose before.store_faults now.store_faults) → IsOutput form before now output → IsAsked form before output
well_of ended form before now output source store (inl asked) = asked.0
well_of ended other before now output source store (inr fault) = absurd fault
well_of ended run before now output source store (inr (inl fault)) = absurd (source fault.1)
well_of ended run before now output source store (inr (inr fault)) = absurd (store fault.1)
well_of ended (check name) before now output source store (inr fault) = absurd (store fault.1)
well_of ended (demo sessions) before now output source store (inr fault) = absurd fault
well_of ended (storm plan) before now output source store (inr fault) = absurd fault
well_of ended audit before now output source store (inr fault) = absurd (source fault.1)

-- the status of a store that failed
abbrev is_store_fault : Status → Bool
is_store_fault status.StoreFault = true
is_store_fault ended = false

-- no run ends so whose store didn't fail
held_well : (images : Option (List (List ℕ × List ℕ))) (told : StoreAnswers) (said : Result (List Command) Refusal) → IsHeld images told → fails_in told said ≡ false
held_well images told (Ok commands) is = held_failed images told new_run commands is
held_well images told (Err refusal) is = refl

stop_well : (stop : Option Stop) → is_store_fault (stop_output stop).status ≡ false
stop_well None = refl
stop_well (Some stop.StepLimit) = refl

said_well : (told : StoreAnswers) (said : Result (List Command) Refusal) → fails_in told said ≡ false → is_store_fault (script_output told said).status ≡ false
said_well told (Ok commands) well =
    ap (λ (failed : Bool). is_store_fault (cond failed store_fault_output (stop_output (run_of told commands).ending)).status) well ∙ stop_well (run_of told commands).ending
said_well told (Err refusal) well = refl

over_well : (images : Option (List (List ℕ × List ℕ))) (told : StoreAnswers) (bytes : List ℕ) (output : Output) → IsHeld images told → output ≡ run_output told bytes → is_store_fault output.status ≡ false
over_well images told bytes output held is =
    ap (λ (o : Output). is_store_fault o.status) (is ∙ sym (output_is told bytes)) ∙ said_well told (script_of bytes) (held_well images told (script_of bytes) held)

script_well : (images : Option (List (List ℕ × List ℕ))) (bytes : List ℕ) (output : Output) → IsScriptOutput images bytes output → is_store_fault output.status ≡ false
script_well None bytes output is = over_well None is.0 bytes output is.1 is.2
script_well (Some images) bytes output is = over_well (Some images) (store_of images) bytes output (λ number. refl) is

run_script_well : (left : Option (List ℕ)) (images : Option (List (List ℕ × List ℕ))) (output : Output) → IsRunOutput left images output → is_store_fault output.status ≡ false
run_script_well None images output is = script_well images is.0 output is.1
run_script_well (Some bytes) images output is = script_well images bytes output is

-- nor does a report
loads_well : (loads : Bool) → is_store_fault (cond loads status.Done status.Unsound) ≡ false
loads_well true = refl
loads_well false = refl

report_well : (images : Option (List (List ℕ × List ℕ))) (name : List ℕ) (output : Output) → IsReportOutput images name output → is_store_fault output.status ≡ false
report_well None name output is = ap (λ (o : Output). is_store_fault o.status) is.1 ∙ loads_well (report_of_fetch name is.0).loads
report_well (Some images) name output is = ap (λ (o : Output). is_store_fault o.status) is ∙ loads_well (check_report images name).loads

-- nor a demo, which runs over an empty store
counted_well : (sessions : ℕ) (accepted : AcceptedCounts) (stop : Option Stop) → is_store_fault (counted_output sessions accepted stop).status ≡ false
counted_well sessions accepted None = refl
counted_well sessions accepted (Some why) = stop_well (Some why)

said_demo_well : (sessions : ℕ) (said : Result (List Command) Refusal) → is_store_fault (commands_output sessions said).status ≡ false
said_demo_well sessions (Ok commands) = counted_well sessions (counts_from new_run commands) (run_of (store_of []) commands).ending
said_demo_well sessions (Err refusal) = refl

demo_well : (sessions : ℕ) → is_store_fault (demo_output sessions).status ≡ false
unfolding demo_output
demo_well sessions = said_demo_well sessions (script_of (demo_text sessions))

-- nor an audit
verdict_well : (answer : Audit) → is_store_fault (audit_output answer).status ≡ false
verdict_well (verdict.Sound lines) = refl
verdict_well (verdict.Broken line rule) = refl

audit_well : (bytes : List ℕ) (output : Output) → IsAuditOutput bytes output → is_store_fault output.status ≡ false
audit_well bytes output (inl refused) = ap (λ (o : Output). is_store_fault o.status) refused.1
audit_well bytes output (inr audited) = ap (λ (o : Output). is_store_fault o.status) audited.1.2 ∙ verdict_well audited.1.0

transcript_well : (left : Option (List ℕ)) (output : Output) → OfSource left (λ bytes. IsAuditOutput bytes output) → is_store_fault output.status ≡ false
transcript_well None output is = audit_well is.0 output is.1
transcript_well (Some bytes) output is = audit_well bytes output is

asked_well : (form : Form) (before : Devices) (output : Output) → IsAsked form before output → is_store_fault output.status ≡ false
asked_well other before output is = ap (λ (o : Output). is_store_fault o.status) is
asked_well run before output is = run_script_well before.left before.images output is
asked_well (check name) before output is = report_well before.images name output is
asked_well (demo sessions) before output is = ap (λ (o : Output). is_store_fault o.status) is ∙ demo_well sessions
asked_well (storm plan) before output is = ap (λ (o : Output). is_store_fault o.status) is
asked_well audit before output is = transcript_well before.left output is

-- where no count rose, the program ends with the status of the output that is asked for, or memory ran out
pub complete : (ended : Status) (form : Form) (before now : Devices)
    → ¬ (Rose before.source_faults now.source_faults) → ¬ (Rose before.store_faults now.store_faults) → ¬ (Rose before.sink_faults now.sink_faults)
    → Ends ended form before now → EndsWell ended form before
complete status.Done form before now source store sink ends = (ends.output, well_of status.Done form before now ends.output source store ends.course, ends.written.0)
complete status.Unsound form before now source store sink ends = (ends.output, well_of status.Unsound form before now ends.output source store ends.course, ends.written.0)
complete status.Usage form before now source store sink ends = (ends.output, well_of status.Usage form before now ends.output source store ends.course, ends.written.0)
complete status.ReadFault form before now source store sink ends = (ends.output, well_of status.ReadFault form before now ends.output source store ends.course, ends.written.0)
complete status.WriteFault form before now source store sink ends = sink ends.written.1
complete status.NoMemory form before now source store sink ends = tt
complete status.Refused form before now source store sink ends = (ends.output, well_of status.Refused form before now ends.output source store ends.course, ends.written.0)
complete status.StepLimit form before now source store sink ends = (ends.output, well_of status.StepLimit form before now ends.output source store ends.course, ends.written.0)
complete status.StoreFault form before now source store sink ends =
    false≢true (sym (asked_well form before ends.output (well_of status.StoreFault form before now ends.output source store ends.course)) ∙ ap is_store_fault ends.written.0)

-- a read that didn't fail left the count as it was
abbrev is_failed : ReadFault → Bool
is_failed read_fault.Failed = true
is_failed read_fault.NoMemory = false

abbrev fault_of : Result (Vec ℕ Global) ReadFault → Bool
fault_of (Ok bytes) = false
fault_of (Err fault) = is_failed fault

pub read_well : (bytes : Vec ℕ Global) → Ok bytes ≢ Err read_fault.Failed
read_well bytes same = true≢false (sym (ap fault_of same))

abbrev unread : ReadFault → Result (Vec ℕ Global) ReadFault
unread fault = Err fault

pub memory_well : (fault : ReadFault) → fault ≡ read_fault.NoMemory → unread fault ≢ unread read_fault.Failed
memory_well fault is same = true≢false (sym (ap fault_of same) ∙ ap is_failed is)
