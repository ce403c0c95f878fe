-- The run of a demo's commands over an empty store, command by command, and what its links accepted.
use Rattle.std.proofs.Common.{◌≡◌, ℕ, zero, suc, ◌+◌, ◌*◌, ◌-◌, ◌^◌, ◌≤◌, List, [], ◌∷◌, length, length-append, Option, Some, None, Result, Ok, Err, is_ok, nat_lt, refl, sym, ap, ap₂, subst, ◌∙◌, arith}
use Rattle.std.proofs.lemmas.Bool.{cond_both, true≢false}
use Rattle.std.specs.Result.{result_unwrap_or}
use Rattle.rp_base.specs.declared.kinds.DriverKind.TheVariants as driver
use Rattle.rp_base.specs.declared.limits.TheConstants.{BOOK_MOST, SCRIPT_LINES_MOST}
use Rattle.rp_io.specs.declared.faults.NoImage.TheVariants as no_image
use Rattle.rp_io.specs.Images.{fetch_answer}
use Rattle.script_lang.specs.declared.commands.Command.{Command}
use Rattle.script_lang.specs.declared.commands.Command.TheVariants as command
use Rattle.script_lang.specs.declared.commands.RegionSet.TheVariants as regions
use Rattle.script_lang.specs.Grammar.{Refusal, script_of}
use Rattle.script_lang.specs.Runnable.{AreRunnable}
use Rattle.script_lang.proofs.Runnable.{are_runnable}
use Rattle.image_maker.specs.Demo.{core_commands, demo_commands, demo_text, first_sessions, number_at, reply_length, sample_channel, session_commands, session_core, session_image, worker_lines}
use Rattle.image_maker.proofs.DemoSizes.{demo_is_said}
use Rattle.script_run.specs.declared.demos.AcceptedCounts.{AcceptedCounts}
use Rattle.script_run.specs.declared.demos.DemoFault.{DemoFault}
use Rattle.script_run.specs.declared.demos.DemoFault.TheVariants as fault
use Rattle.link_commands.specs.declared.stops.Stop.{Stop}
use Rattle.command_run.specs.Stores.{answer_for, later_answers, store_of}
use Rattle.run_log.specs.Logs.{LogState}
use Rattle.command_run.specs.Outcomes.{HasRunEffect}
use Rattle.command_run.specs.Runs.{ObjectsState, Run, RunState, asked_name, effect_of, new_run, run_from, run_of, run_on}
use Rattle.script_run.specs.Demos.{counts_from, accepted_sum, bare_effect, commands_output, counted_output, demo_output, drive_counts, no_counts}
use Rattle.script_run.specs.DemoRuns.{IsCounted, IsDemoCount}
use Rattle.command_run.proofs.RunSteps.{run_first, run_none}
use Rattle.command_run.proofs.Shelves.{held_run}

-- an empty store has no image
none_held : (asked : Option (List ℕ)) → answer_for (fetch_answer []) asked ≡ Err no_image.Missing
none_held None = refl
none_held (Some name) = refl

pub bare_is : (state : RunState) (command : Command) → effect_of (Err no_image.Missing) state command ≡ bare_effect state command
bare_is state command = ap (λ answer. effect_of answer state command) (sym (none_held (asked_name state.objects command)))

-- a run that stops with its first command, and one that goes on
module _ (state : RunState) (first : Command) (more : List Command) where
  stops : (why : Stop) → (bare_effect state first).ending ≡ Some why → (run_from (store_of []) state (first ∷ more)).ending ≡ Some why
  stops why is =
      ap (λ (run : Run). run.ending) (run_first (store_of []) state first more
      ∙ ap (λ ending. run_on (bare_effect state first) ending (run_from (later_answers (store_of [])) (bare_effect state first).run more)) is)

  pub goes_on : (bare_effect state first).ending ≡ None
      → (run_from (store_of []) state (first ∷ more)).ending ≡ (run_from (store_of []) (bare_effect state first).run more).ending
  goes_on is =
      ap (λ (run : Run). run.ending) (run_first (store_of []) state first more
      ∙ ap (λ ending. run_on (bare_effect state first) ending (run_from (later_answers (store_of [])) (bare_effect state first).run more)) is)
      ∙ ap (λ (run : Run). run.ending) (held_run [] (later_answers (store_of [])) (bare_effect state first).run more (λ number. refl))

accepted_first : (state : RunState) (first : Command) (more : List Command) → counts_from state (first ∷ more)
    ≡ accepted_sum (drive_counts (bare_effect state first).run.objects first) (counts_from (bare_effect state first).run more)
unfolding counts_from
accepted_first state first more = refl

accepted_none : (state : RunState) → counts_from state [] ≡ no_counts
unfolding counts_from
accepted_none state = refl

none_first : (accepted : AcceptedCounts) → accepted ≡ accepted_sum no_counts accepted
none_first accepted =
    let host : accepted.to_host ≡ 0 + accepted.to_host = omega arith in
    let remote : accepted.to_remote ≡ 0 + accepted.to_remote = omega arith in
    ap₂ (λ (h r : ℕ). record { to_host = h; to_remote = r }) host remote

none_last : (accepted : AcceptedCounts) → accepted_sum accepted no_counts ≡ accepted
none_last accepted =
    let host : accepted.to_host + 0 ≡ accepted.to_host = omega arith in
    let remote : accepted.to_remote + 0 ≡ accepted.to_remote = omega arith in
    ap₂ (λ (h r : ℕ). record { to_host = h; to_remote = r }) host remote

count_assoc : (a b c : ℕ) → a + (b + c) ≡ (a + b) + c
count_assoc a b c = omega arith

sum_assoc : (a b c : AcceptedCounts) → accepted_sum a (accepted_sum b c) ≡ accepted_sum (accepted_sum a b) c
sum_assoc a b c =
    ap₂ (λ (h r : ℕ). record { to_host = h; to_remote = r }) (count_assoc a.to_host b.to_host c.to_host) (count_assoc a.to_remote b.to_remote c.to_remote)

-- no more messages than a book has room for
pub record IsOfBooks (accepted : AcceptedCounts) : Type 0 where
  pub to_host : accepted.to_host ≤ BOOK_MOST
  pub to_remote : accepted.to_remote ≤ BOOK_MOST

-- so much was accepted before this state of a run, in which these commands are left
pub record CountsSoFar (commands : List Command) (state : RunState) (accepted : AcceptedCounts) (left : List Command) : Type 0 where
  pub ending : (run_of (store_of []) commands).ending ≡ (run_from (store_of []) state left).ending
  pub counted : counts_from new_run commands ≡ accepted_sum accepted (counts_from state left)
  pub to_host : accepted.to_host + BOOK_MOST * length left ≤ BOOK_MOST * SCRIPT_LINES_MOST
  pub to_remote : accepted.to_remote + BOOK_MOST * length left ≤ BOOK_MOST * SCRIPT_LINES_MOST

-- nothing is done
pub counts_none : (commands : List Command) → length commands ≤ SCRIPT_LINES_MOST → CountsSoFar commands new_run no_counts commands
counts_none commands few = record { ending = refl; counted = none_first (counts_from new_run commands); to_host = omega (arith, few); to_remote = omega (arith, few) }

module _ (commands : List Command) (state : RunState) (accepted : AcceptedCounts) where
  -- nothing is left
  pub counts_all : CountsSoFar commands state accepted [] → ((run_of (store_of []) commands).ending ≡ None) × (accepted ≡ counts_from new_run commands)
  counts_all so_far = (
    so_far.ending ∙ ap (λ (run : Run). run.ending) (run_none (store_of []) state),
    sym (so_far.counted ∙ ap (accepted_sum accepted) (accepted_none state) ∙ none_last accepted),
  )

  module _ (first : Command) (more : List Command) (so_far : CountsSoFar commands state accepted (first ∷ more)) where
    -- the run stops with the first command that is left
    stops_first : (why : Stop) → (bare_effect state first).ending ≡ Some why → (run_of (store_of []) commands).ending ≡ Some why
    stops_first why is = so_far.ending ∙ stops state first more why is

    -- the run goes on after it
    counts_first : (bare_effect state first).ending ≡ None → IsOfBooks (drive_counts (bare_effect state first).run.objects first)
        → CountsSoFar commands (bare_effect state first).run (accepted_sum accepted (drive_counts (bare_effect state first).run.objects first)) more
    counts_first goes few =
        let driven = drive_counts (bare_effect state first).run.objects first in
        record {
          ending = so_far.ending ∙ goes_on state first more goes;
          counted = so_far.counted ∙ ap (accepted_sum accepted) (accepted_first state first more) ∙ sum_assoc accepted driven (counts_from (bare_effect state first).run more);
          to_host = omega (arith, so_far.to_host, few.to_host);
          to_remote = omega (arith, so_far.to_remote, few.to_remote);
        }

-- the same by what the command left in code
module _ (commands : List Command) (objects after_objects : ObjectsState) (before after : LogState) (accepted : AcceptedCounts) (left : List Command) (first : Command) (more : List Command) (answer : Option Stop)
    (is : left ≡ first ∷ more) (so_far : CountsSoFar commands (record { objects = objects; steps = before.steps }) accepted left)
    (did : HasRunEffect (effect_of (Err no_image.Missing) (record { objects = objects; steps = before.steps }) first) after_objects before after answer) where
  first_did : HasRunEffect (bare_effect (record { objects = objects; steps = before.steps }) first) after_objects before after answer
  first_did = subst (λ effect. HasRunEffect effect after_objects before after answer) (bare_is (record { objects = objects; steps = before.steps }) first) did

  first_so_far : CountsSoFar commands (record { objects = objects; steps = before.steps }) accepted (first ∷ more)
  first_so_far = subst (CountsSoFar commands (record { objects = objects; steps = before.steps }) accepted) is so_far

  pub counts_until : (why : Stop) → answer ≡ Some why → (run_of (store_of []) commands).ending ≡ Some why
  counts_until why stopped =
      stops_first commands (record { objects = objects; steps = before.steps }) accepted first more first_so_far why (sym first_did.ending ∙ stopped)

  -- a number of 64 bits holds so many and those of one drive
  pub sum_fits : (driven : AcceptedCounts) → IsOfBooks driven → (accepted.to_host + driven.to_host ≤ 2 ^ 64 - 1) × (accepted.to_remote + driven.to_remote ≤ 2 ^ 64 - 1)
  sum_fits driven few = (omega (arith, first_so_far.to_host, few.to_host), omega (arith, first_so_far.to_remote, few.to_remote))

  pub counts_after : answer ≡ None → (steps : ℕ) → steps ≡ after.steps → IsOfBooks (drive_counts after_objects first)
      → CountsSoFar commands (record { objects = after_objects; steps = steps }) (accepted_sum accepted (drive_counts after_objects first)) more
  counts_after goes steps same few =
      let state : RunState = record { objects = objects; steps = before.steps } in
      let effect = bare_effect state first in
      let reached : effect.run ≡ record { objects = after_objects; steps = steps } =
      ap (λ (l : ObjectsState). record { objects = l; steps = effect.run.steps }) (sym first_did.objects)
      ∙ ap (λ (s : ℕ). record { objects = after_objects; steps = s }) (sym first_did.steps ∙ sym same) in
      subst (λ (run : RunState). CountsSoFar commands run (accepted_sum accepted (drive_counts run.objects first)) more) reached
      (counts_first commands state accepted first more first_so_far (sym first_did.ending ∙ goes)
      (subst (λ (run : RunState). IsOfBooks (drive_counts run.objects first)) (sym reached) few))

-- the output of a demo, by the commands that its script says
pub demo_is : (sessions : ℕ) (commands : List Command) → script_of (demo_text sessions) ≡ Ok commands
    → demo_output sessions ≡ counted_output sessions (counts_from new_run commands) (run_of (store_of []) commands).ending
unfolding demo_output
demo_is sessions commands says = ap (commands_output sessions) says

-- what code counted of it, by the commands that its script says
pub counted : (sessions : ℕ) (commands : List Command) (result : Result AcceptedCounts DemoFault) → script_of (demo_text sessions) ≡ Ok commands → IsCounted commands result → IsDemoCount sessions result
counted sessions commands (Ok accepted) says is =
    demo_is sessions commands says ∙ ap (counted_output sessions (counts_from new_run commands)) is.0 ∙ ap (λ (a : AcceptedCounts). counted_output sessions a None) (sym is.1)
counted sessions commands (Err (fault.Stopped why)) says is = demo_is sessions commands says ∙ ap (counted_output sessions (counts_from new_run commands)) is
counted sessions commands (Err fault.NoMemory) says is = tt

-- the commands that the script of a demo says are those of a demo
pub said_commands : (sessions : ℕ) (text : List ℕ) (commands : List Command) → sessions ≤ 500 → text ≡ demo_text sessions → script_of text ≡ Ok commands → commands ≡ demo_commands sessions
said_commands sessions text commands few is says =
    ap (λ (read : Result (List Command) Refusal). result_unwrap_or read []) (sym says ∙ ap script_of is ∙ demo_is_said sessions few)

-- they are no more than a script has lines
core_count : (session : ℕ) → length (core_commands session) ≤ 2
core_count session =
    cond_both (nat_lt session 8)
    (command.Core (session_core session) regions.Standard 128 ∷ command.Driver (session_core session) sample_channel driver.Sample ∷ []) []
    (λ (commands : List Command). length commands ≤ 2) (λ _. omega arith) (λ _. omega arith)

sessions_count : (seed count : ℕ) → length (first_sessions seed count) ≤ 6 * count
sessions_count seed zero = omega arith
sessions_count seed (suc session) =
    let name = session_core session in
    let reply = reply_length (number_at seed (suc session)) in
    let image = session_image session in
    let before = sessions_count seed session in
    let core = core_count session in
    omega (
      arith,
      before,
      core,
      length-append (first_sessions seed session) (session_commands session reply),
      length-append (core_commands session) (command.Image image (worker_lines reply) ∷ command.Boot name image ∷ command.Drive name 100000 ∷ command.Shutdown name ∷ []),
    )

pub demo_count : (sessions : ℕ) → sessions ≤ 500 → length (demo_commands sessions) ≤ SCRIPT_LINES_MOST
unfolding demo_commands
demo_count sessions few = let all = sessions_count sessions sessions in omega (arith, all, few)

-- the script of a demo is not refused, and can be run
pub not_refused : (sessions : ℕ) (text : List ℕ) (refusal : Refusal) → sessions ≤ 500 → text ≡ demo_text sessions → script_of text ≡ Err refusal → ⊥
not_refused sessions text refusal few is refused = differ (sym refused ∙ ap script_of is ∙ demo_is_said sessions few)
  where
    differ : Err refusal ≡ Ok (demo_commands sessions) → ⊥
    differ same = true≢false (sym (ap is_ok same))

pub script_runnable : (text : List ℕ) (commands : List Command) → script_of text ≡ Ok commands → AreRunnable commands
script_runnable text commands says = are_runnable commands (record { text = text; says = says })
