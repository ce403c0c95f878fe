-- What `demo` writes (own).
use Rattle.std.specs.Prelude.{ℕ, ◌+◌, List, [], ◌∷◌, length, Option, Some, None, Result, Ok, Err}
use Rattle.rp_io.specs.Images.{fetch_answer}
use Rattle.script_lang.specs.declared.commands.Command.{Command}
use Rattle.script_lang.specs.declared.commands.Command.TheVariants as command
use Rattle.script_lang.specs.Grammar.{Refusal, script_of}
use Rattle.image_maker.specs.Demo.{demo_text}
use Rattle.journal.specs.declared.notices.Notice.TheVariants as notice
use Rattle.journal.specs.Notices.{report_text}
use Rattle.link_bench.specs.Benches.{BenchState, link_in}
use Rattle.script_run.specs.declared.demos.AcceptedCounts.{AcceptedCounts}
use Rattle.program_status.specs.declared.statuses.Status.TheVariants as status
use Rattle.link_commands.specs.declared.stops.Stop.{Stop}
use Rattle.command_run.specs.Stores.{answer_for, store_of}
use Rattle.command_run.specs.NamedCores.{NamedCoreState}
use Rattle.command_run.specs.Runs.{ObjectsState, RunEffect, RunState, asked_name, core_under, effect_of, new_run, run_of}
use Rattle.script_run.specs.Outputs.{Output, script_output, stop_output}

-- no message
abbrev pub no_counts : AcceptedCounts
no_counts = record { to_host = 0; to_remote = 0 }

-- the messages of both
abbrev pub accepted_sum : AcceptedCounts → AcceptedCounts → AcceptedCounts
accepted_sum first second = record { to_host = first.to_host + second.to_host; to_remote = first.to_remote + second.to_remote }

-- how many messages the lanes of a link accepted; none where there is no link
abbrev pub link_counts : Option BenchState → AcceptedCounts
link_counts None = no_counts
link_counts (Some bench) = record { to_host = length (link_in bench).to_host.lane.accepted; to_remote = length (link_in bench).to_remote.lane.accepted }

-- those of the link of a core
abbrev pub core_counts : Option NamedCoreState → AcceptedCounts
core_counts None = no_counts
core_counts (Some named) = link_counts named.core.bench

-- those of the link of the core that a command drives, by what the command leaves
abbrev pub drive_counts : ObjectsState → Command → AcceptedCounts
drive_counts objects (command.Drive name count) = core_counts (core_under objects name)
drive_counts objects other = no_counts

-- what a command does over an empty store
abbrev pub bare_effect : RunState → Command → RunEffect
bare_effect run command = effect_of (answer_for (fetch_answer []) (asked_name run.objects command)) run command

-- how many messages were accepted in a run of these commands over an empty store: the sum over its drives, each at its end
unfoldable pub counts_from : RunState → List Command → AcceptedCounts
counts_from run [] = no_counts
counts_from run (first ∷ more) =
    let left = (bare_effect run first).run in accepted_sum (drive_counts left.objects first) (counts_from left more)

-- the line of a demo whose run went to its end, or why it stopped in its midst
abbrev pub counted_output : ℕ → AcceptedCounts → Option Stop → Output
counted_output sessions accepted None =
    record { status = status.Done; text = report_text (notice.Demo sessions accepted.to_host accepted.to_remote ∷ []) }
counted_output sessions accepted (Some why) = stop_output (Some why)

-- the output of a demo by what its script says
abbrev pub commands_output : ℕ → Result (List Command) Refusal → Output
commands_output sessions (Ok commands) = counted_output sessions (counts_from new_run commands) (run_of (store_of []) commands).ending
commands_output sessions (Err refusal) = script_output (store_of []) (Err refusal)

-- the output of a demo of so many sessions
unfoldable pub demo_output : ℕ → Output
demo_output sessions = commands_output sessions (script_of (demo_text sessions))
