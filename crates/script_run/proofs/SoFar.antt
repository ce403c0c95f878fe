-- What a run told so far, and what it is still to tell.
use Rattle.std.proofs.Common.{◌≡◌, ◌≢◌, inl, inr, ◌+◌, ◌<◌, ℕ, zero, suc, false, true, List, [], ◌∷◌, ◌++◌, Option, Some, None, Result, Ok, Err, refl, sym, ap, subst, ◌∙◌, append_assoc, append-nil, drop, length, get_or}
use Rattle.std.specs.Prelude.{is_some}
use Rattle.std.proofs.lemmas.Bool.{false≢true}
use Rattle.std.specs.Io.KnownBytes.{Appends}
use Rattle.rp_io.specs.Causes.{Rose}
use Rattle.rp_io.specs.Contents.{AppendsFront}
use Rattle.script_lang.specs.declared.commands.Command.{Command}
use Rattle.script_lang.specs.declared.commands.Command.TheVariants as command
use Rattle.journal.specs.declared.events.Event.{Event}
use Rattle.journal.specs.Lines.{transcript}
use Rattle.program_status.specs.declared.statuses.Status.{Status}
use Rattle.link_commands.specs.declared.stops.Stop.{Stop}
use Rattle.command_run.specs.declared.faults.OutputFault.{OutputFault}
use Rattle.command_run.specs.declared.faults.OutputFault.TheVariants as output_fault
use Rattle.rp_io.specs.declared.faults.NoImage.TheVariants as no_image
use Rattle.command_run.specs.Stores.{IsHeld, IsShelf, Shelf, StoreAnswers, answer_for}
use Rattle.command_run.specs.Runs.{ObjectsState, RunEffect, RunState, Run, asked_name, effect_of, line_effect, run_from, run_of, new_run}
use Rattle.script_run.specs.Outputs.{Output, end_output, stop_output, store_fault_output, transcript_output}
use Rattle.script_run.specs.Endings.{IsFailedRun, IsWellRun}
use Rattle.run_log.specs.Logs.{Hands, KeepsLess, LogState}
use Rattle.command_run.specs.Outcomes.{HandsRunEffect, KeepsLast}
use Rattle.command_run.specs.Fetches.{DidTold, IsCutCommand, IsToldCut, drive_line}
use Rattle.script_run.specs.Delivery.{AnswersStatus, EndsRun, IsResultCourse, RunWrites, StandsFor, Tells}
use Rattle.script_run.specs.Yards.{StandsInDrive, run_to_drive}
use Rattle.command_run.proofs.HandedLines.{appends_more, appends_same, hands_nothing, hands_kept, hands_more, hands_front, hands_front_kept, front_of_all}
use Rattle.link_commands.proofs.Transcripts.{transcript-append}
use Rattle.command_run.proofs.RunSteps.{behind, effect_over, first_told, left_at, run_behind, run_fails, run_none, run_rest}
use Rattle.command_run.proofs.Shelves.{AreShelves, any_held, any_told, fault_next, fault_told, shelf_of, shelves_more, then_held, then_told, told_more, told_then}

-- the text of a run behind these events begins with their lines
text_behind : (events : List Event) (run : Run) → (transcript_output (behind events run)).text ≡ transcript events ++ (transcript_output run).text
text_behind events run =
    ap (λ lines. lines ++ (end_output run).text) (transcript-append events run.events)
    ∙ append_assoc (transcript events) (transcript run.events) (end_output run).text

-- what was told from the start is kept or handed on, over what the store told, and the rest of the run follows; so it would with any commands behind those that are done
pub record SoFar (images : Option (List (List ℕ × List ℕ))) (commands left : List Command) (from now : Option (List ℕ)) (lines : List ℕ) (rest : StoreAnswers → List Command → Run) : Type 0 where
  pub done : List Command
  pub all : commands ≡ done ++ left
  pub events : List Event
  pub shelves : List Shelf
  pub are : AreShelves images shelves
  pub hands : Hands from [] now lines (transcript events)
  pub run : (later : StoreAnswers) (more : List Command) → run_of (told_then shelves later) (done ++ more) ≡ behind events (rest later more)

-- what is kept of a drive, where other events were told before it
keeps_behind : (before : List Event) (first second : ℕ → List Event) (count : ℕ) (told : List Event) (lines : List ℕ) → ((n : ℕ) → first n ≡ before ++ second n)
    → KeepsLast second count told lines → KeepsLast first count (before ++ told) lines
keeps_behind before first second count told lines same keeps = record {
  done = keeps.done;
  within = keeps.within;
  earlier = before ++ keeps.earlier;
  last = keeps.last;
  here = same keeps.done ∙ ap (λ (events : List Event). before ++ events) keeps.here ∙ sym (append_assoc before keeps.earlier (keeps.last ∷ []));
  later = keeps.later;
  all = ap (λ (events : List Event). before ++ events) keeps.all ∙ sym (append_assoc before keeps.earlier keeps.later);
  near = keeps.near;
  rest = keeps.rest;
  less = keeps.less;
  kept = keeps.kept;
}

-- nothing is told yet
pub so_far_none : (images : Option (List (List ℕ × List ℕ))) (commands : List Command) (written : Option (List ℕ))
    → SoFar images commands commands written written [] (λ later more. run_from later new_run more)
so_far_none images commands written = record { done = []; all = refl; events = []; shelves = []; are = tt; hands = hands_nothing written; run = λ later more. refl }

-- a name that is there
pub asked_some : (asked : Option (List ℕ)) → is_some asked ≡ true → (name : List ℕ) × (asked ≡ Some name)
asked_some None is = absurd (false≢true is)
asked_some (Some name) is = (name, refl)

-- events behind events
behind_twice : (first second : List Event) (run : Run) → behind first (behind second run) ≡ behind (first ++ second) run
behind_twice first second run = ap (λ (events : List Event). record run { events = events }) (sym (append_assoc first second run.events))

-- the last line of a run that tells no more
last_text : (rest : Run) → rest.events ≡ [] → (end_output rest).text ≡ (transcript_output rest).text
last_text rest none = ap (λ (events : List Event). transcript events ++ (end_output rest).text) (sym none)

module _ (images : Option (List (List ℕ × List ℕ))) (commands left : List Command) (from now : Option (List ℕ)) (lines : List ℕ) where
  -- the rest told by these events and what follows them
  told_events : (rest next : StoreAnswers → List Command → Run) (first : Command) (behind_it : List Command) (shelf : Shelf) (events : List Event) (new : Option (List ℕ)) (kept : List ℕ)
      → SoFar images commands left from now lines rest → left ≡ first ∷ behind_it → IsShelf images shelf
      → ((later : StoreAnswers) (more : List Command) → rest (first_told (Some shelf) later) (first ∷ more) ≡ behind events (next later more))
      → Hands now lines new kept (transcript events) → SoFar images commands behind_it from new kept next
  told_events rest next first behind_it shelf events new kept so_far next_is is told hands = record {
    done = so_far.done ++ first ∷ [];
    all = so_far.all ∙ ap (λ (c : List Command). so_far.done ++ c) next_is ∙ sym (append_assoc so_far.done (first ∷ []) behind_it);
    events = so_far.events ++ events;
    shelves = so_far.shelves ++ shelf ∷ [];
    are = shelves_more images so_far.shelves shelf so_far.are is;
    hands = subst (λ bytes. Hands from [] new kept bytes) (sym (transcript-append so_far.events events))
        (hands_more from now new [] lines kept (transcript so_far.events) (transcript events) so_far.hands hands);
    run = λ later more. ap (λ (t : StoreAnswers). run_of t ((so_far.done ++ first ∷ []) ++ more)) (told_more so_far.shelves shelf later)
        ∙ ap (λ (c : List Command). run_of (told_then so_far.shelves (first_told (Some shelf) later)) c) (append_assoc so_far.done (first ∷ []) more)
        ∙ so_far.run (first_told (Some shelf) later) (first ∷ more)
        ∙ ap (behind so_far.events) (told later more) ∙ behind_twice so_far.events events (next later more);
  }

  module _ (state : RunState) (first : Command) (more : List Command) (shelf : Shelf)
      (so_far : SoFar images commands left from now lines (λ later rest. run_from later state rest)) (is : left ≡ first ∷ more) (has : IsShelf images shelf) where
    abbrev told_first : RunEffect
    told_first = effect_over shelf state first

    -- what the next command tells, and what follows it
    pub so_far_told : (new : Option (List ℕ)) (kept : List ℕ) → Hands now lines new kept (transcript told_first.events)
        → SoFar images commands more from new kept (λ later rest. run_rest told_first told_first.ending (run_from later told_first.run rest))
    so_far_told new kept hands =
        told_events (λ later rest. run_from later state rest) (λ later rest. run_rest told_first told_first.ending (run_from later told_first.run rest)) first more shelf told_first.events new kept so_far is has
        (λ later rest. run_behind shelf later state first rest) hands

    -- a command that was run
    pub so_far_more : (objects : ObjectsState) (before after : LogState) (new : Option (List ℕ)) (answer : Option Stop) → before.lines ≡ lines → HandsRunEffect told_first objects before after now new answer
        → SoFar images commands more from new after.lines (λ later rest. run_rest told_first answer (run_from later (record { objects = objects; steps = after.steps }) rest))
    so_far_more objects before after new answer kept found =
        let reached : told_first.run ≡ record { objects = objects; steps = after.steps } =
        ap (λ (l : ObjectsState). record { objects = l; steps = told_first.run.steps }) (sym found.objects)
        ∙ ap (λ (s : ℕ). record { objects = objects; steps = s }) (sym found.steps) in
        subst (λ (run : RunState). SoFar images commands more from new after.lines (λ later rest. run_rest told_first answer (run_from later run rest))) reached
        (subst (λ (ending : Option Stop). SoFar images commands more from new after.lines (λ later rest. run_rest told_first ending (run_from later told_first.run rest))) (sym found.ending)
        (so_far_told new after.lines (subst (λ (bytes : List ℕ). Hands now bytes new after.lines (transcript told_first.events)) kept found.hands)))

  -- what is kept is handed on, all of it or nothing
  pub so_far_handed : (rest : StoreAnswers → List Command → Run) (new : Option (List ℕ)) (kept : List ℕ) → SoFar images commands left from now lines rest → Hands now lines new kept []
      → SoFar images commands left from new kept rest
  so_far_handed rest new kept so_far handed = record {
    done = so_far.done;
    all = so_far.all;
    events = so_far.events;
    shelves = so_far.shelves;
    are = so_far.are;
    hands = subst (λ bytes. Hands from [] new kept bytes) (append-nil (transcript so_far.events))
        (hands_more from now new [] lines kept (transcript so_far.events) [] so_far.hands handed);
    run = so_far.run;
  }

  -- all that is kept and a last text are handed on
  handed_whole : (new : Option (List ℕ)) (bytes text : List ℕ) → Hands from [] now lines bytes → Appends now new (lines ++ text) → Appends from new (bytes ++ text)
  handed_whole new bytes text hands whole =
      appends_same from new (hands.handed ++ (lines ++ text)) (bytes ++ text)
      (sym (append_assoc hands.handed lines text) ∙ ap (λ front. front ++ text) hands.rest)
      (appends_more from now new hands.handed (lines ++ text) hands.appended whole)

  -- and so the whole of it is told
  tells_whole : (result : Result Status OutputFault) (new : Option (List ℕ)) (bytes text all : List ℕ) (faults before after : ℕ) → Hands from [] now lines bytes
      → bytes ++ text ≡ all → before ≡ faults → Tells result (lines ++ text) now new before after → Tells result all from new faults after
  tells_whole (Ok ended) new bytes text all faults before after hands whole same tells =
      (subst (λ b. Appends from new b) whole (handed_whole new bytes text hands tells.0), tells.1 ∙ same)
  tells_whole (Err output_fault.Failed) new bytes text all faults before after hands whole same tells =
      (subst (λ b. AppendsFront from new b) whole (hands_front from now new [] lines bytes text hands tells.0), subst (λ (n : ℕ). Rose n after) same tells.1)
  tells_whole (Err output_fault.NoMemory) new bytes text all faults before after hands whole same tells =
      (subst (λ b. AppendsFront from new b) whole (hands_front from now new [] lines bytes text hands tells.0), tells.1 ∙ same)

  -- what is left where the run has ended, or where its last lines were cut off
  stands_end : (result : Result Status OutputFault) (told : StoreAnswers) (yard : ObjectsState) (new : Option (List ℕ)) (before after : ℕ) → yard ≡ (run_of told commands).last.objects
      → Tells result (transcript_output (run_of told commands)).text from new before after → StandsFor result told commands yard from new
  stands_end (Ok ended) told yard new before after is tells = is
  stands_end (Err output_fault.Failed) told yard new before after is tells = inl (record { done = commands; more = []; are = sym (append-nil commands); is = is; front = tells.0 })
  stands_end (Err output_fault.NoMemory) told yard new before after is tells = tt

  module _ (rest : StoreAnswers → List Command → Run) (so_far : SoFar images commands left from now lines rest) (later : StoreAnswers) where
    -- the run of the whole, by the events so far
    run_all : run_of (told_then so_far.shelves later) commands ≡ behind so_far.events (rest later left)
    run_all = ap (run_of (told_then so_far.shelves later)) so_far.all ∙ so_far.run later left

    -- and its text
    whole_text : transcript so_far.events ++ (transcript_output (rest later left)).text ≡ (transcript_output (run_of (told_then so_far.shelves later) commands)).text
    whole_text = sym (ap (λ (run : Run). (transcript_output run).text) run_all ∙ text_behind so_far.events (rest later left))

    -- the run of the commands that are done
    run_done : run_of (told_then so_far.shelves later) so_far.done ≡ behind so_far.events (rest later [])
    run_done = ap (run_of (told_then so_far.shelves later)) (sym (append-nil so_far.done)) ∙ so_far.run later []

    -- the run has ended, and what is kept is handed on with its last line
    ends_by : (result : Result Status OutputFault) (yard : ObjectsState) (new : Option (List ℕ)) (faults before after was then : ℕ) → (rest later left).events ≡ [] → yard ≡ (rest later left).last.objects → before ≡ faults
        → EndsRun result (end_output (rest later left)) lines now new before after → IsResultCourse result images (told_then so_far.shelves later) commands was then
        → RunWrites images commands yard result from new faults after was then
    ends_by result yard new faults before after was then none is same ends course =
        let told = told_then so_far.shelves later in
        let text = tells_whole result new (transcript so_far.events) (end_output (rest later left)).text (transcript_output (run_of told commands)).text faults before after
        so_far.hands (ap (λ (text : List ℕ). transcript so_far.events ++ text) (last_text (rest later left) none) ∙ whole_text) same ends.1 in
        record {
          told = told;
          course = course;
          status = subst (λ (ended : Status). AnswersStatus result ended) (sym (ap (λ (run : Run). (transcript_output run).status) run_all)) ends.0;
          text = text;
          stands = stands_end result told yard new faults after (is ∙ sym (ap (λ (run : Run). run.last.objects) run_all)) text;
        }

  -- a store that didn't fail
  well : (result : Result Status OutputFault) (told : StoreAnswers) (was then : ℕ) → IsWellRun images told was then → IsResultCourse result images told commands was then
  well (Ok ended) told was then is = inl is
  well (Err output_fault.Failed) told was then is = inl is
  well (Err output_fault.NoMemory) told was then is = is

  -- a store that failed
  cut : (result : Result Status OutputFault) (told : StoreAnswers) (was then : ℕ) → result ≢ Err output_fault.NoMemory → IsFailedRun images told (run_of told commands).failed was then
      → IsResultCourse result images told commands was then
  cut (Ok ended) told was then found is = inr is
  cut (Err output_fault.Failed) told was then found is = inr is
  cut (Err output_fault.NoMemory) told was then found is = absurd (found refl)

  -- a store that didn't fail so far, and of which nothing more is asked
  pub so_far_held : (rest : StoreAnswers → List Command → Run) (so_far : SoFar images commands left from now lines rest) → IsHeld images (told_then so_far.shelves (any_told images))
  so_far_held rest so_far = then_held images (any_told images) so_far.shelves so_far.are (any_held images)

  -- the run has ended without a fault of the store
  pub so_far_ends : (rest : StoreAnswers → List Command → Run) (result : Result Status OutputFault) (stop : Option Stop) (yard : ObjectsState) (new : Option (List ℕ)) (faults before after was then : ℕ)
      → SoFar images commands left from now lines rest → ((later : StoreAnswers) → (rest later left).events ≡ []) → ((later : StoreAnswers) → end_output (rest later left) ≡ stop_output stop)
      → ((later : StoreAnswers) → yard ≡ (rest later left).last.objects) → before ≡ faults → then ≡ was
      → EndsRun result (stop_output stop) lines now new before after → RunWrites images commands yard result from new faults after was then
  so_far_ends rest result stop yard new faults before after was then so_far none last is same still ends =
      ends_by rest so_far (any_told images) result yard new faults before after was then (none (any_told images)) (is (any_told images)) same
      (subst (λ (o : Output). EndsRun result o lines now new before after) (sym (last (any_told images))) ends)
      (well result (told_then so_far.shelves (any_told images)) was then (so_far_held rest so_far, still))

  -- the store failed at the command that is next
  pub so_far_fails : (state : RunState) (first : Command) (more : List Command) (name : List ℕ) (result : Result Status OutputFault) (yard : ObjectsState) (new : Option (List ℕ)) (faults before after was then : ℕ)
      → SoFar images commands left from now lines (λ later rest. run_from later state rest) → left ≡ first ∷ more → asked_name state.objects first ≡ Some name → yard ≡ state.objects
      → before ≡ faults → result ≢ Err output_fault.NoMemory → Rose was then
      → EndsRun result store_fault_output lines now new before after → RunWrites images commands yard result from new faults after was then
  so_far_fails state first more name result yard new faults before after was then so_far is asks stays same found rose ends =
      let rest : StoreAnswers → List Command → Run = λ later commands. run_from later state commands in
      let told = told_then so_far.shelves (fault_next images) in
      let stopped : rest (fault_next images) left ≡ record { events = []; last = state; ending = None; failed = true } =
      ap (run_from (fault_next images) state) is ∙ run_fails (any_told images) state first more name asks in
      ends_by rest so_far (fault_next images) result yard new faults before after was then (ap (λ (run : Run). run.events) stopped) (stays ∙ sym (ap (λ (run : Run). run.last.objects) stopped)) same
      (subst (λ (run : Run). EndsRun result (end_output run) lines now new before after) (sym stopped) ends)
      (cut result told was then found (
        then_told images (fault_next images) so_far.shelves so_far.are (fault_told images),
        ap (λ (run : Run). run.failed) (run_all rest so_far (fault_next images)) ∙ ap (λ (run : Run). run.failed) stopped,
        rose,
      ))

  -- memory ran out, and no device failed
  pub so_far_no_memory : (rest : StoreAnswers → List Command → Run) (yard : ObjectsState) (new : Option (List ℕ)) (before after was then : ℕ) → SoFar images commands left from now lines rest → AppendsFront now new lines
      → after ≡ before → then ≡ was → RunWrites images commands yard (Err output_fault.NoMemory) from new before after was then
  so_far_no_memory rest yard new before after was then so_far front same still = record {
    told = told_then so_far.shelves (any_told images);
    course = (so_far_held rest so_far, still);
    status = tt;
    text = (
      front_of_all from new (transcript so_far.events) (transcript_output (rest (any_told images) left)).text
          (transcript_output (run_of (told_then so_far.shelves (any_told images)) commands)).text
          (hands_front_kept from now new lines (transcript so_far.events) so_far.hands front) (whole_text rest so_far (any_told images)),
      same,
    );
    stands = tt;
  }

  -- the sink failed behind a command
  pub so_far_write_fault : (state : RunState) (new : Option (List ℕ)) (before after was then : ℕ) → SoFar images commands left from now lines (λ later rest. run_from later state rest)
      → AppendsFront now new lines → Rose before after → then ≡ was → RunWrites images commands state.objects (Err output_fault.Failed) from new before after was then
  so_far_write_fault state new before after was then so_far front rose still =
      let rest : StoreAnswers → List Command → Run = λ later commands. run_from later state commands in
      let later = any_told images in
      let told = told_then so_far.shelves later in
      let ended = run_done rest so_far later ∙ ap (behind so_far.events) (run_none later state) in
      let written = hands_front_kept from now new lines (transcript so_far.events) so_far.hands front in
      record {
        told = told;
        course = inl (so_far_held rest so_far, still);
        status = tt;
        text = (front_of_all from new (transcript so_far.events) (transcript_output (rest later left)).text (transcript_output (run_of told commands)).text written (whole_text rest so_far later), rose);
        stands = inl (record {
          done = so_far.done;
          more = left;
          are = so_far.all;
          is = sym (ap (λ (run : Run). run.last.objects) ended);
          front = subst (λ (bytes : List ℕ). AppendsFront from new bytes)
              (sym (ap (λ (run : Run). (transcript_output run).text) ended ∙ text_behind so_far.events (record { events = []; last = state; ending = None; failed = false }) ∙ append-nil (transcript so_far.events)))
              written;
        });
      }

-- a run whose last command tells the last of it
rest_last : (effect : RunEffect) (ending : Option Stop) (later : StoreAnswers)
    → ((run_rest effect ending (run_from later effect.run [])).last ≡ effect.run) × ((run_rest effect ending (run_from later effect.run [])).events ≡ [])
rest_last effect None later = (ap (λ (run : Run). run.last) (run_none later effect.run), ap (λ (run : Run). run.events) (run_none later effect.run))
rest_last effect (Some why) later = (refl, refl)

module _ (images : Option (List (List ℕ × List ℕ))) (commands : List Command) (from now : Option (List ℕ)) (objects : ObjectsState) (i : ℕ) (first : Command) (before : LogState)
    (so_far : SoFar images commands (drop i commands) from now before.lines (λ later rest. run_from later (record { objects = objects; steps = before.steps }) rest))
    (inside : i < length commands) (is : first ≡ get_or commands i first) where
  abbrev state_at : RunState
  state_at = record { objects = objects; steps = before.steps }

  abbrev more_at : List Command
  more_at = drop (i + 1) commands

  module _ (after_objects : ObjectsState) (after : LogState) (new : Option (List ℕ)) (answer : Option Stop) (found : DidTold images state_at first after_objects before after now new answer) where
    -- the command at a place was run
    so_far_run : SoFar images commands more_at from new after.lines (λ later rest. run_rest (effect_over found.shelf state_at first) answer (run_from later (record { objects = after_objects; steps = after.steps }) rest))
    so_far_run =
        so_far_more images commands (drop i commands) from now before.lines state_at first more_at found.shelf so_far (left_at commands i first inside is) found.is after_objects before after new answer refl found.did

    -- and the run goes on
    pub so_far_after : answer ≡ None → SoFar images commands more_at from new after.lines (λ later rest. run_from later (record { objects = after_objects; steps = after.steps }) rest)
    so_far_after goes =
        subst (λ (ending : Option Stop). SoFar images commands more_at from new after.lines
        (λ later rest. run_rest (effect_over found.shelf state_at first) ending (run_from later (record { objects = after_objects; steps = after.steps }) rest))) goes so_far_run

    -- or it stops
    pub so_far_until : (why : Stop) → answer ≡ Some why
        → SoFar images commands more_at from new after.lines (λ later rest. record { events = []; last = (effect_over found.shelf state_at first).run; ending = Some why; failed = false })
    so_far_until why stops =
        subst (λ (ending : Option Stop). SoFar images commands more_at from new after.lines
        (λ later rest. run_rest (effect_over found.shelf state_at first) ending (run_from later (record { objects = after_objects; steps = after.steps }) rest))) stops so_far_run

  -- what the command at a place tells, as if it were kept
  any_shelf : (shelf : Shelf) × IsShelf images shelf × (Err no_image.Missing ≡ answer_for shelf None)
  any_shelf = shelf_of images None (Err no_image.Missing) refl

  abbrev told_at : RunEffect
  told_at = effect_over any_shelf.0 state_at first

  abbrev lines_at : List ℕ
  lines_at = before.lines ++ transcript told_at.events

  abbrev rest_at : StoreAnswers → List Command → Run
  rest_at later rest = run_rest told_at told_at.ending (run_from later told_at.run rest)

  so_far_kept : SoFar images commands more_at from now lines_at rest_at
  so_far_kept =
      so_far_told images commands (drop i commands) from now before.lines state_at first more_at any_shelf.0 so_far (left_at commands i first inside is) any_shelf.1 now lines_at
      (hands_kept now before.lines (transcript told_at.events) lines_at refl)

  module _ (new : Option (List ℕ)) (yard : ObjectsState) (cut : IsCutCommand state_at first yard before now new) where
    -- what the store tells at this command and later
    abbrev later_here : StoreAnswers
    later_here = first_told (Some any_shelf.0) (any_told images)

    held_here : IsHeld images later_here
    held_here zero = any_shelf.1
    held_here (suc number) = any_held images number

    abbrev told_here : StoreAnswers
    told_here = told_then so_far.shelves later_here

    -- the whole run, by what the command at this place tells
    run_whole : run_of told_here commands ≡ behind so_far.events (behind told_at.events (rest_at (any_told images) more_at))
    run_whole =
        run_all images commands (drop i commands) from now before.lines (λ later rest. run_from later state_at rest) so_far later_here
        ∙ ap (λ (rest : List Command). behind so_far.events (run_from later_here state_at rest)) (left_at commands i first inside is)
        ∙ ap (behind so_far.events) (run_behind any_shelf.0 (any_told images) state_at first more_at)

    -- a front of it is written
    front_here : AppendsFront now new lines_at → AppendsFront from new (transcript_output (run_of told_here commands)).text
    front_here front =
        let rest = rest_at (any_told images) more_at in
        front_of_all from new (transcript so_far.events ++ transcript told_at.events) (transcript_output rest).text (transcript_output (run_of told_here commands)).text
        (hands_front from now new [] before.lines (transcript so_far.events) (transcript told_at.events) so_far.hands front)
        (append_assoc (transcript so_far.events) (transcript told_at.events) (transcript_output rest).text
        ∙ ap (λ (text : List ℕ). transcript so_far.events ++ text) (sym (text_behind told_at.events rest))
        ∙ sym (ap (λ (run : Run). (transcript_output run).text) run_whole ∙ text_behind so_far.events (behind told_at.events rest)))

    -- a drive of so many steps at its place
    abbrev drive_here : ℕ → RunEffect
    drive_here steps = effect_of (Err no_image.Missing) state_at (command.Drive cut.name steps)

    -- the same of its line
    abbrev line_here : ℕ → RunEffect
    line_here steps = line_effect (Err no_image.Missing) state_at (drive_line cut.name steps)

    drive_is : (steps : ℕ) → drive_here steps ≡ line_here steps
    unfolding effect_of
    drive_is steps = refl

    run_here : (steps : ℕ) → run_to_drive told_here so_far.done cut.name steps
        ≡ behind so_far.events (behind (effect_over any_shelf.0 state_at (command.Drive cut.name steps)).events
        (run_rest (effect_over any_shelf.0 state_at (command.Drive cut.name steps)) (effect_over any_shelf.0 state_at (command.Drive cut.name steps)).ending
        (run_from (any_told images) (effect_over any_shelf.0 state_at (command.Drive cut.name steps)).run [])))
    run_here steps =
        let driving = command.Drive cut.name steps in
        so_far.run later_here (driving ∷ []) ∙ ap (behind so_far.events) (run_behind any_shelf.0 (any_told images) state_at driving [])

    -- what it tells
    events_here : (steps : ℕ) → (run_to_drive told_here so_far.done cut.name steps).events ≡ so_far.events ++ (line_here steps).events
    events_here steps =
        let effect = drive_here steps in
        ap (λ (run : Run). run.events) (run_here steps)
        ∙ ap (λ (events : List Event). so_far.events ++ (effect.events ++ events)) (rest_last effect effect.ending (any_told images)).1
        ∙ ap (λ (events : List Event). so_far.events ++ events) (append-nil effect.events ∙ ap (λ (e : RunEffect). e.events) (drive_is steps))

    -- what is left is what the drive left behind its steps so far
    stands_cut : KeepsLess before → StandsInDrive told_here commands yard from new
    stands_cut less =
        let drove = cut.cut in
        let effect = drive_here drove.done in
        let last = rest_last effect effect.ending (any_told images) in
        let ran = run_here drove.done in
        record {
          done = so_far.done;
          next = first;
          name = cut.name;
          count = cut.count;
          drives = cut.is;
          more = more_at;
          are = so_far.all ∙ ap (λ (c : List Command). so_far.done ++ c) (left_at commands i first inside is);
          cut = record {
            done = drove.done;
            within = drove.within;
            is = drove.is ∙ sym (ap (λ (e : RunEffect). e.run.objects) (drive_is drove.done)) ∙ sym (ap (λ (run : Run). run.last.objects) ran ∙ ap (λ (run : RunState). run.objects) last.0);
            told = so_far.events ++ drove.told;
            last = drove.last;
            tells = events_here drove.done ∙ ap (λ (events : List Event). so_far.events ++ events) drove.tells ∙ sym (append_assoc so_far.events drove.told (drove.last ∷ []));
            handed = drove.handed;
            kept = drove.kept;
            hands = subst (λ (bytes : List ℕ). Hands from [] drove.handed drove.kept bytes) (sym (transcript-append so_far.events drove.told))
                (hands_more from now drove.handed [] before.lines drove.kept (transcript so_far.events) (transcript drove.told) so_far.hands drove.hands);
            front = drove.front;
            few = λ _. keeps_behind so_far.events _ (λ (steps : ℕ). (line_here steps).events) drove.done drove.told drove.kept events_here (drove.few less);
          };
        }

    -- the command at a place was cut off by the sink
    pub so_far_write_cut : KeepsLess before → (start faults after was then : ℕ) → IsToldCut output_fault.Failed state_at first before now new faults after
        → faults ≡ start → then ≡ was → RunWrites images commands yard (Err output_fault.Failed) from new start after was then
    so_far_write_cut less start faults after was then told same still = record {
      told = told_here;
      course = inl (then_held images later_here so_far.shelves so_far.are held_here, still);
      status = tt;
      text = (front_here (told any_shelf.0).0, subst (λ (n : ℕ). Rose n after) same (told any_shelf.0).1);
      stands = inr (stands_cut less);
    }

  -- or for want of memory
  pub so_far_memory_cut : (yard : ObjectsState) (new : Option (List ℕ)) (start faults after was then : ℕ) → IsToldCut output_fault.NoMemory state_at first before now new faults after
      → faults ≡ start → then ≡ was → RunWrites images commands yard (Err output_fault.NoMemory) from new start after was then
  so_far_memory_cut yard new start faults after was then cut same still =
      so_far_no_memory images commands more_at from now lines_at rest_at yard new start after was then so_far_kept (cut any_shelf.0).0 ((cut any_shelf.0).1 ∙ same) still
