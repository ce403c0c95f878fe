-- How the program ends and what it leaves of the yard, from what was read and what was left.
use Rattle.std.proofs.Common.{◌≡◌, ◌≢◌, ◌⊎◌, ◌<◌, ◌≤◌, ◌+◌, inl, inr, ℕ, Bool, true, false, cond, List, [], Option, Some, None, Result, Ok, Err, length, refl, sym, ap, subst, ◌∙◌, true≢false, arith}
use Rattle.std.specs.Io.KnownBytes.{IsAtEnd}
use Rattle.std.proofs.lemmas.Bool.{cases_lt}
use Rattle.rp_base.specs.declared.limits.TheConstants.{SCRIPT_MOST}
use Rattle.rp_io.specs.Causes.{Rose}
use Rattle.rp_io.specs.Contents.{IsFrontOf}
use Rattle.script_lang.specs.declared.commands.Command.{Command}
use Rattle.script_lang.specs.Grammar.{Refusal, script_of}
use Rattle.link_commands.specs.declared.stops.Stop.{Stop}
use Rattle.link_commands.specs.declared.stops.Stop.TheVariants as stop
use Rattle.command_run.specs.Runs.{ObjectsState, run_of}
use Rattle.program_status.specs.declared.statuses.Status.{Status}
use Rattle.program_status.specs.declared.statuses.Status.TheVariants as status
use Rattle.script_run.specs.Outputs.{Form, other, run, check, demo, storm, audit, Output, read_fault_output, stop_output, store_fault_output}
use Rattle.script_run.specs.Endings.{Devices, IsReadWell, OfSource, RunEnds, Writes}
use Rattle.script_run.specs.Yards.{Leaves, ScriptLeaves, SourceLeaves, TextLeaves}
use Rattle.script_run.specs.Programs.{FormEnds, ProgramEnds}
use Rattle.script_run.proofs.Ends.{complete, ends_fault, ends_no_memory, ends_run, read_same, script_fits, unread_ends}

-- the status of a source that failed
abbrev is_read_fault : Status → Bool
is_read_fault status.ReadFault = true
is_read_fault ended = false

-- no run ends so
stop_read : (stop : Option Stop) → is_read_fault (stop_output stop).status ≡ false
stop_read None = refl
stop_read (Some stop.StepLimit) = refl

end_read : (failed : Bool) (stop : Option Stop) → is_read_fault (cond failed store_fault_output (stop_output stop)).status ≡ false
end_read true stop = refl
end_read false stop = stop_read stop

module _ (before now : Devices) (yard left : ObjectsState) where
  -- what a text leaves of the yard, over these devices
  abbrev text_leaves : Status → Result (List Command) Refusal → Type 0
  text_leaves ended said = TextLeaves ended before.images said yard left before.written now.written before.sink_faults now.sink_faults before.store_faults now.store_faults

  -- no script ends with the status of a source that failed, and a text that is none leaves the yard as it was
  unread_text : (said : Result (List Command) Refusal) → text_leaves status.ReadFault said → left ≡ yard
  unread_text (Ok commands) leaves =
      let ran = run_of leaves.ends.told commands in
      absurd (true≢false (sym (ap is_read_fault leaves.ends.written.0) ∙ end_read ran.failed ran.ending))
  unread_text (Err refusal) leaves = leaves

  unread_source : (source : Option (List ℕ)) → OfSource source (λ bytes. text_leaves status.ReadFault (script_of bytes)) → left ≡ yard
  unread_source None leaves = unread_text (script_of leaves.0) leaves.1
  unread_source (Some bytes) leaves = unread_text (script_of bytes) leaves

  -- what was read of a source leaves the yard as all of it does
  read_leaves : (ended : Status) (source : Option (List ℕ)) (bytes : List ℕ) → IsFrontOf source (SCRIPT_MOST + 1) bytes → text_leaves ended (script_of bytes)
      → OfSource source (λ text. text_leaves ended (script_of text))
  read_leaves ended None bytes front leaves = (bytes, leaves)
  read_leaves ended (Some text) bytes front leaves = subst (λ (said : Result (List Command) Refusal). text_leaves ended said) (read_same text bytes front) leaves

  -- by the status
  source_leaves : (ended : Status) → SourceLeaves ended before now yard left → ScriptLeaves ended before now yard left
  source_leaves status.Done leaves = leaves
  source_leaves status.Unsound leaves = leaves
  source_leaves status.Usage leaves = leaves
  source_leaves status.ReadFault leaves = unread_source before.left leaves
  source_leaves status.WriteFault leaves = inl leaves
  source_leaves status.NoMemory leaves = leaves
  source_leaves status.Refused leaves = leaves
  source_leaves status.StepLimit leaves = leaves
  source_leaves status.StoreFault leaves = leaves

  -- a script that was read was run
  pub read_ends : (ended : Status) (bytes : List ℕ) → IsFrontOf before.left (SCRIPT_MOST + 1) bytes → now.source_faults ≡ before.source_faults
      → RunEnds ended before.images (script_of bytes) before.written now.written before.sink_faults now.sink_faults before.store_faults now.store_faults → text_leaves ended (script_of bytes)
      → FormEnds ended run before now yard left
  read_ends ended bytes front same ends leaves =
      record { ends = ends_run ended before now bytes front same ends; leaves = source_leaves ended (read_leaves ended before.left bytes front leaves) }

  -- with the number of the status
  pub program_ends : (answer : Option Status) (ended : Status) (form : Form) → answer ≡ Some ended → FormEnds ended form before now yard left → ProgramEnds answer form before now yard left
  program_ends answer ended form is ends = rw (is) (record {
    answer = ends.ends;
    complete = λ sources stores sinks. complete ended form before now sources stores sinks ends.ends;
    yard = ends.leaves;
  })

-- a text of which memory ran out before it was run
pub memory_leaves : (images : Option (List (List ℕ × List ℕ))) (said : Result (List Command) Refusal) (yard : ObjectsState) (old : Option (List ℕ)) (before was : ℕ)
    → TextLeaves status.NoMemory images said yard yard old old before before was was
memory_leaves images (Ok commands) yard old before was = record { ends = unread_ends images (Ok commands) old before was; stands = tt }
memory_leaves images (Err refusal) yard old before was = refl

-- a text that is too long to be a script leaves the yard as it was
pub long_leaves : (ended : Status) (images : Option (List (List ℕ × List ℕ))) (bytes : List ℕ) (yard left : ObjectsState) (old new : Option (List ℕ)) (before now was then : ℕ) → SCRIPT_MOST < length bytes
    → TextLeaves ended images (script_of bytes) yard left old new before now was then → left ≡ yard
long_leaves ended images bytes yard left old new before now was then long = by_said (script_of bytes) refl
  where
    by_said : (said : Result (List Command) Refusal) → script_of bytes ≡ said → TextLeaves ended images said yard left old new before now was then → left ≡ yard
    by_said (Ok commands) says leaves = absurd (omega (arith, long, script_fits bytes commands says))
    by_said (Err refusal) says leaves = leaves

-- a script that wasn't read to its end leaves it so too
pub unended : (source : Option (List ℕ)) (bytes : List ℕ) (holds : Type 0) → (length bytes ≤ SCRIPT_MOST → IsAtEnd source) → ¬ IsAtEnd source → (SCRIPT_MOST < length bytes → holds) → holds
unended source bytes holds ends not_ended long = by_length (cases_lt SCRIPT_MOST (length bytes))
  where
    by_length : (SCRIPT_MOST < length bytes) ⊎ (length bytes ≤ SCRIPT_MOST) → holds
    by_length (inl is) = long is
    by_length (inr fits) = absurd (not_ended (ends fits))

module _ (form : Form) (before now : Devices) (yard : ObjectsState) (well : IsReadWell before now) (written : now.written ≡ before.written) (sinks : now.sink_faults ≡ before.sink_faults) where
  -- memory ran out before a text was read
  unread_memory : (said : Result (List Command) Refusal)
      → TextLeaves status.NoMemory before.images said yard yard before.written now.written before.sink_faults now.sink_faults before.store_faults now.store_faults
  unread_memory said = rw (written, sinks, well.store) (memory_leaves before.images said yard before.written before.sink_faults before.store_faults)

  unread_any : (source : Option (List ℕ))
      → OfSource source (λ bytes. TextLeaves status.NoMemory before.images (script_of bytes) yard yard before.written now.written before.sink_faults now.sink_faults before.store_faults now.store_faults)
  unread_any None = ([], unread_memory (script_of []))
  unread_any (Some bytes) = unread_memory (script_of bytes)

  -- or before the words were
  memory_words : (asked : Form) → Leaves status.NoMemory asked before now yard yard
  memory_words other = refl
  memory_words run = unread_any before.left
  memory_words (check name) = refl
  memory_words (demo sessions) = refl
  memory_words (storm plan) = refl
  memory_words audit = refl

  pub memory_ends : FormEnds status.NoMemory form before now yard yard
  memory_ends = record { ends = ends_no_memory form before now well written sinks; leaves = memory_words form }

-- the line of a source that failed was written, or a front of it
unread_leaves : (ended : Status) (before now : Devices) (yard : ObjectsState) → ended ≢ status.NoMemory → Rose before.source_faults now.source_faults
    → Writes ended read_fault_output before.written now.written before.sink_faults now.sink_faults → ScriptLeaves ended before now yard yard
unread_leaves status.Done before now yard found rose wrote = absurd (true≢false (ap is_read_fault wrote.0))
unread_leaves status.Unsound before now yard found rose wrote = absurd (true≢false (ap is_read_fault wrote.0))
unread_leaves status.Usage before now yard found rose wrote = absurd (true≢false (ap is_read_fault wrote.0))
unread_leaves status.ReadFault before now yard found rose wrote = refl
unread_leaves status.WriteFault before now yard found rose wrote = inr (refl, rose)
unread_leaves status.NoMemory before now yard found rose wrote = absurd (found refl)
unread_leaves status.Refused before now yard found rose wrote = absurd (true≢false (ap is_read_fault wrote.0))
unread_leaves status.StepLimit before now yard found rose wrote = absurd (true≢false (ap is_read_fault wrote.0))
unread_leaves status.StoreFault before now yard found rose wrote = absurd (true≢false (ap is_read_fault wrote.0))

pub fault_ends : (ended : Status) (before now : Devices) (yard : ObjectsState) (made : Output) → read_fault_output ≡ made → ended ≢ status.NoMemory → Rose before.source_faults now.source_faults
    → now.store_faults ≡ before.store_faults → Writes ended made before.written now.written before.sink_faults now.sink_faults → FormEnds ended run before now yard yard
fault_ends ended before now yard made is found rose same wrote = record {
  ends = ends_fault ended run before now made read_fault_output is found (inl (refl, rose, same)) wrote;
  leaves = unread_leaves ended before now yard found rose (rw (is) wrote);
}
