-- The walks over the commands of a run: what each command keeps of its states holds at its end, and what holds of the events of each command holds of all.
use Rattle.std.proofs.Common.{◌≡◌, ℕ, suc, List, [], ◌∷◌, ◌++◌, length, All, Option, Some, None, IfSome, refl, ap, subst, ◌∙◌}
use Rattle.std.proofs.lemmas.List.Elements.{All-append, All-nil}
use Rattle.rp_io.specs.Images.{ImageAnswer}
use Rattle.journal.specs.declared.events.Event.{Event}
use Rattle.script_lang.specs.declared.commands.Command.{Command}
use Rattle.script_lang.specs.Runnable.{AreRunnable, IsRunnable}
use Rattle.link_commands.specs.declared.stops.Stop.{Stop}
use Rattle.command_run.specs.Runs.{Run, RunEffect, RunState, asked_name, effect_of, run_from, run_on, run_on_answer}
use Rattle.command_run.specs.Stores.{StoreAnswers, later_answers, store_answer}
use Rattle.run_laws.specs.Notes.{Noting, notes_from, notes_of_command, notes_on}

-- ---- what is known of the commands and of the store

-- this is known of each of these commands
abbrev pub EachIs : (Command → Type 0) → List Command → Type 0
EachIs Known [] = Unit {0}
EachIs Known (first ∷ more) = Known first × EachIs Known more

-- it is known by the ranges of their numbers
pub each_is : {Known : Command → Type 0} → ((asked : Command) → IsRunnable asked → Known asked) → (commands : List Command) → AreRunnable commands → EachIs Known commands
each_is knows [] runs = tt
each_is knows (first ∷ more) runs = (knows first runs.0, each_is knows more runs.1)

pub each_runs : (commands : List Command) → EachIs IsRunnable commands → AreRunnable commands
each_runs [] runs = tt
each_runs (first ∷ more) runs = (runs.0, each_runs more runs.1)

-- of those before one of them, and of the one
pub each_parts : (Known : Command → Type 0) (done : List Command) (next : Command) (more : List Command) → EachIs Known (done ++ next ∷ more) → EachIs Known done × Known next
each_parts Known [] next more all = (tt, all.0)
each_parts Known (first ∷ done) next more all = let rest = each_parts Known done next more all.1 in ((all.0, rest.0), rest.1)

-- whatever a command is answered, this is known of it
abbrev pub AnswersAre : (ImageAnswer → Type 0) → StoreAnswers → Type 0
AnswersAre Answers told = (number : ℕ) (asked : Option (List ℕ)) → IfSome (store_answer (told number) asked) Answers

pub any_answers : (told : StoreAnswers) → AnswersAre (λ answer. Unit {0}) told
any_answers told number asked = any_some (store_answer (told number) asked) where
  any_some : (answer : Option ImageAnswer) → IfSome answer (λ answer. Unit {0})
  any_some None = tt
  any_some (Some answer) = tt

-- ---- states

-- what each command keeps of a run and of what is noted beside it holds at the end of a run
module _ {A : Type 0} (note : Noting A) (Known : Command → Type 0) (Answers : ImageAnswer → Type 0) (P : RunState → A → Type 0)
    (keep : (answer : ImageAnswer) (run : RunState) (asked : Command) (noted : A) → Answers answer → Known asked → P run noted
    → P (effect_of answer run asked).run (note answer run asked (effect_of answer run asked).run noted)) where
  on_kept : (effect : RunEffect) (ending : Option Stop) (later : Run) (now behind : A) → P effect.run now → P later.last behind → P (run_on effect ending later).last (notes_on ending now behind)
  on_kept effect None later now behind left rest = rest
  on_kept effect (Some why) later now behind left rest = left

  told_kept : (run : RunState) (asked : Command) (answer : Option ImageAnswer) (noted : A) (later : RunState → Run) (behind : RunState → A → A) → IfSome answer Answers → Known asked → P run noted
      → ((next : RunState) (now : A) → P next now → P (later next).last (behind next now)) → P (run_on_answer run asked answer later).last (notes_of_command note run asked answer noted behind)
  told_kept run asked None noted later behind told knows is rest = is
  told_kept run asked (Some answer) noted later behind told knows is rest =
      let effect = effect_of answer run asked in
      let now = note answer run asked effect.run noted in
      let left = keep answer run asked noted told knows is in
      on_kept effect effect.ending (later effect.run) now (behind effect.run now) left (rest effect.run now left)

  pub noted_kept : (told : StoreAnswers) (run : RunState) (commands : List Command) (noted : A) → AnswersAre Answers told → EachIs Known commands → P run noted → P (run_from told run commands).last (notes_from note told run commands noted)
  unfolding run_from notes_from
  noted_kept told run [] noted tells know is = is
  noted_kept told run (first ∷ more) noted tells know is =
      told_kept run first (store_answer (told 0) (asked_name run.objects first)) noted (λ next. run_from (later_answers told) next more) (λ next now. notes_from note (later_answers told) next more now)
      (tells 0 (asked_name run.objects first)) know.0 is
      (λ next now there. noted_kept (later_answers told) next more now (λ number. tells (suc number)) know.1 there)

-- the same where nothing is noted
abbrev no_note : Noting (Unit {0})
no_note answer before asked after nothing = nothing

module _ (Known : Command → Type 0) (Answers : ImageAnswer → Type 0) (P : RunState → Type 0)
    (keep : (answer : ImageAnswer) (run : RunState) (asked : Command) → Answers answer → Known asked → P run → P (effect_of answer run asked).run) where
  pub state_kept : (told : StoreAnswers) (run : RunState) (commands : List Command) → AnswersAre Answers told → EachIs Known commands → P run → P (run_from told run commands).last
  state_kept told run commands =
      noted_kept no_note Known Answers (λ run nothing. P run) (λ answer run asked nothing. keep answer run asked) told run commands tt

-- ---- events

module _ (H : Event → Type 0) where
  -- it holds of the events of each command that the store answers, in the state that the commands before it leave
  abbrev EachHolds : StoreAnswers → RunState → List Command → Type 0
  EachHolds told run commands = (done : List Command) (next : Command) (more : List Command) (answer : ImageAnswer) → commands ≡ done ++ next ∷ more
      → store_answer (told (length done)) (asked_name (run_from told run done).last.objects next) ≡ Some answer
      → All H (effect_of answer (run_from told run done).last next).events

  -- a command that the store answers, and those behind it
  module _ (told : StoreAnswers) (run : RunState) (first : Command) (more : List Command) (each : EachHolds told run (first ∷ more)) (answer : ImageAnswer)
      (is : store_answer (told 0) (asked_name run.objects first) ≡ Some answer) where
    abbrev effect : RunEffect
    effect = effect_of answer run first

    -- a run that goes on behind the command ends where that of the others does
    last_on : effect.ending ≡ None → (done : List Command) → (run_from told run (first ∷ done)).last ≡ (run_from (later_answers told) effect.run done).last
    unfolding run_from
    last_on goes done =
        ap (λ (found : Option ImageAnswer). (run_on_answer run first found (λ next. run_from (later_answers told) next done)).last) is
        ∙ ap (λ (ending : Option Stop). (run_on effect ending (run_from (later_answers told) effect.run done)).last) goes

    -- it holds of the events of the command itself, behind no others
    here : All H effect.events
    unfolding run_from
    here = each [] first more answer refl is

    -- it holds of those of each command behind it, from the state that it leaves
    later : effect.ending ≡ None → EachHolds (later_answers told) effect.run more
    later goes done next behind given parts there =
        let same = last_on goes done in
        subst (λ (last : RunState). All H (effect_of given last next).events) same
        (each (first ∷ done) next behind given (ap (λ (others : List Command). first ∷ others) parts)
        (ap (λ (last : RunState). store_answer (told (suc (length done))) (asked_name last.objects next)) same ∙ there))

    on_holds : (ending : Option Stop) → effect.ending ≡ ending → (rest : Run) → (EachHolds (later_answers told) effect.run more → All H rest.events) → All H (run_on effect ending rest).events
    on_holds None goes rest those = All-append H effect.events rest.events here (those (later goes))
    on_holds (Some why) stops rest those = here

  told_holds : (told : StoreAnswers) (run : RunState) (first : Command) (more : List Command) → EachHolds told run (first ∷ more)
      → (found : Option ImageAnswer) → store_answer (told 0) (asked_name run.objects first) ≡ found → (rest : RunState → Run)
      → ((next : RunState) → EachHolds (later_answers told) next more → All H (rest next).events) → All H (run_on_answer run first found rest).events
  told_holds told run first more each None fails rest those = All-nil H
  told_holds told run first more each (Some answer) is rest those =
      let effect = effect_of answer run first in on_holds told run first more each answer is effect.ending refl (rest effect.run) (those effect.run)

  pub events_hold : (told : StoreAnswers) (run : RunState) (commands : List Command) → EachHolds told run commands → All H (run_from told run commands).events
  unfolding run_from
  events_hold told run [] each = All-nil H
  events_hold told run (first ∷ more) each =
      told_holds told run first more each (store_answer (told 0) (asked_name run.objects first)) refl (λ next. run_from (later_answers told) next more)
      (λ next those. events_hold (later_answers told) next more those)
