-- A run, command by command.
use Rattle.std.proofs.Common.{◌≡◌, ℕ, true, false, zero, suc, ◌+◌, ◌<◌, List, [], ◌∷◌, ◌++◌, length, Option, Some, None, Err, refl, sym, ap, subst, ◌∙◌, append-nil, drop, get_or, add-one, drop-cons}
use Rattle.script_lang.specs.declared.commands.Command.{Command}
use Rattle.script_lang.specs.Runnable.{AreRunnable, IsRunnable}
use Rattle.journal.specs.declared.events.Event.{Event}
use Rattle.link_commands.specs.declared.stops.Stop.{Stop}
use Rattle.command_run.specs.Stores.{Shelf, StoreAnswers, answer_for, later_answers, store_answer}
use Rattle.rp_io.specs.declared.faults.NoImage.TheVariants as no_image
use Rattle.run_log.specs.Logs.{LogState}
use Rattle.command_run.specs.Outcomes.{HandsRunEffect}
use Rattle.command_run.specs.Runs.{AsksNone, IfGoesOn, ObjectsState, RunEffect, RunState, Run, asked_name, run_on, run_from, run_on_answer, effect_of}

-- a run behind these events
abbrev pub behind : List Event → Run → Run
behind events run = record run { events = events ++ run.events }

-- what is told at a command, and behind it
abbrev pub first_told : Option Shelf → StoreAnswers → StoreAnswers
first_told first later zero = first
first_told first later (suc number) = later number

-- a command before others
pub run_first : (told : StoreAnswers) (state : RunState) (first : Command) (more : List Command)
    → run_from told state (first ∷ more) ≡ run_on_answer state first (store_answer (told 0) (asked_name state.objects first)) (λ next. run_from (later_answers told) next more)
unfolding run_from
run_first told state first more = refl

-- no command
pub run_none : (told : StoreAnswers) (state : RunState) → run_from told state [] ≡ record { events = []; last = state; ending = None; failed = false }
unfolding run_from
run_none told state = refl

-- what a command does over what the store has
abbrev pub effect_over : Shelf → RunState → Command → RunEffect
effect_over shelf state command = effect_of (answer_for shelf (asked_name state.objects command)) state command

-- what follows a command: the run stops with it, or the later commands follow
abbrev pub run_rest : RunEffect → Option Stop → Run → Run
run_rest effect (Some why) later = record { events = []; last = effect.run; ending = Some why; failed = false }
run_rest effect None later = later

-- a run is what its first command tells, and what follows
rest_behind : (effect : RunEffect) (ending : Option Stop) (later : Run) → run_on effect ending later ≡ behind effect.events (run_rest effect ending later)
rest_behind effect (Some why) later = ap (λ (events : List Event). record { events = events; last = effect.run; ending = Some why; failed = false }) (sym (append-nil effect.events))
rest_behind effect None later = refl

pub run_behind : (shelf : Shelf) (later : StoreAnswers) (state : RunState) (first : Command) (more : List Command)
    → run_from (first_told (Some shelf) later) state (first ∷ more)
    ≡ behind (effect_over shelf state first).events (run_rest (effect_over shelf state first) (effect_over shelf state first).ending (run_from later (effect_over shelf state first).run more))
run_behind shelf later state first more =
    let effect = effect_over shelf state first in
    run_first (first_told (Some shelf) later) state first more ∙ rest_behind effect effect.ending (run_from later effect.run more)

-- a run whose store fails at its first command
pub run_fails : (later : StoreAnswers) (state : RunState) (first : Command) (more : List Command) (name : List ℕ) → asked_name state.objects first ≡ Some name
    → run_from (first_told None later) state (first ∷ more) ≡ record { events = []; last = state; ending = None; failed = true }
run_fails later state first more name asks =
    run_first (first_told None later) state first more
    ∙ ap (λ asked. run_on_answer state first (store_answer None asked) (λ next. run_from later next more)) asks

-- what is left at a place is the item there and what is left behind it
pub left_at : {X : Type 0} (items : List X) (i : ℕ) (item : X) → i < length items → item ≡ get_or items i item
    → drop i items ≡ item ∷ drop (i + 1) items
left_at items i item inside is = drop-cons items i item inside ∙ ap (λ x. x ∷ drop (suc i) items) (sym is) ∙ ap (λ n. item ∷ drop n items) (sym (add-one i))

-- the commands that are left at a place are those of a list without its first, where that one may be run
pub runnable_first : (first : Command) (more left : List Command) → left ≡ first ∷ more → AreRunnable left → IsRunnable first × AreRunnable more
runnable_first first more left is runnable = subst AreRunnable is runnable

-- a command that asks for nothing, and those behind it
pub asks_first : (state : RunState) (left : List Command) (first : Command) (more : List Command) → left ≡ first ∷ more → AsksNone state left → asked_name state.objects first ≡ None
unfolding AsksNone
asks_first state left first more is none = (subst (AsksNone state) is none).0

asks_behind : (state : RunState) (first : Command) (more : List Command) → AsksNone state (first ∷ more) → (effect_of (Err no_image.Missing) state first).ending ≡ None
    → AsksNone (effect_of (Err no_image.Missing) state first).run more
unfolding AsksNone
asks_behind state first more none goes =
    subst (λ (ending : Option Stop). IfGoesOn ending (AsksNone (effect_of (Err no_image.Missing) state first).run more)) goes none.1

pub asks_later : (state : RunState) (left : List Command) (first : Command) (more : List Command) (shelf : Shelf) (objects : ObjectsState) (before after : LogState) (answer : Option Stop) → left ≡ first ∷ more
    → AsksNone state left → (written now : Option (List ℕ)) → HandsRunEffect (effect_over shelf state first) objects before after written now answer → answer ≡ None → AsksNone (record { objects = objects; steps = after.steps }) more
asks_later state left first more shelf objects before after answer is none written now did goes =
    let asked = asks_first state left first more is none in
    let found = subst (λ (a : Option (List ℕ)). HandsRunEffect (effect_of (answer_for shelf a) state first) objects before after written now answer) asked did in
    let effect = effect_of (Err no_image.Missing) state first in
    subst (λ (run : RunState). AsksNone run more)
    (ap (λ (l : ObjectsState). record { objects = l; steps = effect.run.steps }) (sym found.objects) ∙ ap (λ (n : ℕ). record { objects = objects; steps = n }) (sym found.steps))
    (asks_behind state first more (subst (AsksNone state) is none) (sym found.ending ∙ goes))
