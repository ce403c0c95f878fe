-- What is noted beside a run, command by command (own).
use Rattle.std.specs.Prelude.{List, [], ◌∷◌, Option, Some, None}
use Rattle.rp_io.specs.Images.{ImageAnswer}
use Rattle.script_lang.specs.declared.commands.Command.{Command}
use Rattle.link_commands.specs.declared.stops.Stop.{Stop}
use Rattle.command_run.specs.Runs.{RunState, asked_name, effect_of}
use Rattle.command_run.specs.Stores.{StoreAnswers, later_answers, store_answer}

-- what a command adds to a note: what the store tells it, the run before it, the command, the run that it left
abbrev pub Noting : Type 0 → Type 0
Noting A = ImageAnswer → RunState → Command → RunState → A → A

-- the run stops with a command, or the later ones go on
abbrev pub notes_on : {A : Type 0} → Option Stop → A → A → A
notes_on (Some why) noted later = noted
notes_on None noted later = later

-- a command and the later ones, where the store answers; else the run ends before the command
abbrev pub notes_of_command : {A : Type 0} → Noting A → RunState → Command → Option ImageAnswer → A → (RunState → A → A) → A
notes_of_command note run command None noted later = noted
notes_of_command note run command (Some answer) noted later =
    let effect = effect_of answer run command in
    let now = note answer run command effect.run noted in
    notes_on effect.ending now (later effect.run now)

-- what is noted of the commands that a run does, from a state of it on, over what the store tells
unfoldable pub notes_from : {A : Type 0} → Noting A → StoreAnswers → RunState → List Command → A → A
notes_from note told run [] noted = noted
notes_from note told run (first ∷ more) noted =
    notes_of_command note run first (store_answer (told 0) (asked_name run.objects first)) noted (λ next now. notes_from note (later_answers told) next more now)
