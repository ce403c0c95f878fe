-- Each line of a take of a whole run is that of a handing which one of its commands tells.
use Rattle.std.proofs.Common.{◌≡◌, ◌⊎◌, true, List, subst}
use Rattle.std.proofs.lemmas.List.Elements.{All-weaker}
use Rattle.std.specs.Prelude.{All}
use Rattle.journal.specs.declared.events.Event.{Event}
use Rattle.script_lang.specs.declared.commands.Command.{Command}
use Rattle.script_lang.specs.Runnable.{AreRunnable, IsRunnable}
use Rattle.link_commands.specs.Acts.{line_of}
use Rattle.command_run.specs.Runs.{effect_of, new_run, run_of}
use Rattle.command_run.specs.Stores.{StoreAnswers}
use Rattle.run_laws.proofs.RunInductions.{EachIs, each_is, each_parts, each_runs, events_hold}
use Rattle.way_laws.specs.CommandTakes.{IsTakeInRun, IsTakeOfCore, IsTakeOfLink}
use Rattle.way_laws.specs.WordedTakes.{is_take_line}
use Rattle.way_laws.proofs.EveryLine.{every_line}

abbrev HasTake : StoreAnswers → List Command → Event → Type 0
HasTake told commands event = is_take_line event ≡ true → IsTakeInRun told commands event

-- the lines of a run of commands
pub run_lines : (told : StoreAnswers) (commands : List Command) → AreRunnable commands → All (HasTake told commands) (run_of told commands).events
run_lines told commands runs =
    events_hold (HasTake told commands) told new_run commands
    (λ done next more answer parts is.
    let state = (run_of told done).last in
    let fit = each_parts IsRunnable done next more (subst (EachIs IsRunnable) parts (each_is (λ asked may. may) commands runs)) in
    All-weaker (λ (event : Event). is_take_line event ≡ true → IsTakeOfLink state (line_of next) event ⊎ IsTakeOfCore state (line_of next) event) (HasTake told commands)
    (λ event has is. record { done = done; next = next; more = more; parts = parts; take = has is }) (effect_of answer state next).events (every_line told done (each_runs done fit.0) answer next fit.1))
