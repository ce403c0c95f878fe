-- The accounts of the links of a run: what each command adds to them (own).
use Rattle.std.specs.Prelude.{ℕ, ◌==◌, Bool, false, List, [], slice_get, Option, Some, None, option_map, if◌then◌else◌}
use Rattle.rp_base.specs.declared.kinds.End.{End}
use Rattle.rp_base.specs.declared.limits.TheConstants.{STEPS_MOST}
use Rattle.lane_model.specs.declared.recoveries.ReopenFault.{ReopenFault}
use Rattle.lane_model.specs.Recoveries.{link_reopen_refusal}
use Rattle.lane_laws.specs.Handings.{Handing}
use Rattle.lane_laws.specs.Moves.{Close}
use Rattle.script_lang.specs.declared.commands.Command.{Command}
use Rattle.script_lang.specs.declared.recipes.RecipeLine.{RecipeLine}
use Rattle.link_bench.specs.BenchCrashes.{after_reopen}
use Rattle.link_bench.specs.Benches.{BenchState, link_in}
use Rattle.link_bench.specs.Watchers.{nobody_sees}
use Rattle.link_commands.specs.declared.acts.Line.{Line}
use Rattle.link_commands.specs.declared.acts.Line.TheVariants as line
use Rattle.link_commands.specs.declared.acts.ManagerAct.TheVariants as manager
use Rattle.link_commands.specs.declared.acts.NamedAct.{NamedAct}
use Rattle.link_commands.specs.declared.acts.NamedAct.TheVariants as under
use Rattle.link_commands.specs.Acts.{line_of}
use Rattle.link_commands.specs.NamedLinks.{NamedLink}
use Rattle.command_run.specs.Runs.{RunState, new_run, place_of}
use Rattle.command_run.specs.Stores.{StoreAnswers}
use Rattle.act_laws.specs.Accounts.{Account, new_account, with_deeds}
use Rattle.act_laws.specs.Deeds.{Deeds, act_deeds, no_deeds, one_move}
use Rattle.run_laws.specs.Notes.{Noting, notes_from}

-- `close X`: a step of the run, where it has one left
abbrev pub close_deeds : BenchState → ℕ → Deeds
close_deeds bench steps = if steps == STEPS_MOST then no_deeds else one_move (Close (link_in bench).era.inc)

-- `reopen X`: a new account, where nothing keeps the link from it
abbrev pub reopened_account : BenchState → Option ReopenFault → Account → Account
reopened_account bench None account = new_account (link_in (after_reopen bench))
reopened_account bench (Some why) account = account

-- the account of a link after what is done under its name
abbrev pub account_after : End → BenchState → ℕ → NamedAct (List ℕ) → Account → Account
account_after end bench steps (under.Make made) account = account
account_after end bench steps (under.Link asked) account = with_deeds end (link_in bench).era.is_live account (act_deeds nobody_sees 0 bench tt steps asked)
account_after end bench steps (under.Manage manager.Close) account = with_deeds end (link_in bench).era.is_live account (close_deeds bench steps)
account_after end bench steps (under.Manage manager.Reopen) account = reopened_account bench (link_reopen_refusal (link_in bench)) account
account_after end bench steps (under.Show shown) account = account
account_after end bench steps (under.Core asked) account = account

-- what is told of takes at each end by what is done under the name of a link: an act alone tells of any
abbrev pub named_takes : BenchState → ℕ → NamedAct (List ℕ) → End → List Handing
named_takes bench steps (under.Link asked) = (act_deeds nobody_sees 0 bench tt steps asked).takes
named_takes bench steps other = λ end. []

-- a name has this place
abbrev pub is_place : Option ℕ → ℕ → Bool
is_place None place = false
is_place (Some at) place = at == place

-- what a line does under the name of the link at this place
abbrev pub link_act_at : RunState → ℕ → Line (List RecipeLine) (List ℕ) → Option (NamedAct (List ℕ))
link_act_at run place (line.Image name lines) = None
link_act_at run place (line.Quiet set) = None
link_act_at run place (line.Dump name image) = None
link_act_at run place (line.On name wanted) = if is_place (place_of run.objects.links name) place then Some wanted else None

-- the account of a link after what is done on it, if anything is
abbrev pub account_behind : End → BenchState → ℕ → Option (NamedAct (List ℕ)) → Account → Account
account_behind end bench steps None account = account
account_behind end bench steps (Some wanted) account = account_after end bench steps wanted account

-- the account of the link at a place after a command: it goes on where the link was there, and begins where the command made the link
abbrev pub next_account : End → ℕ → RunState → Line (List RecipeLine) (List ℕ) → RunState → Option NamedLink → Option Account → Option Account
next_account end place before done after (Some on) account =
    option_map (account_behind end on.bench before.steps (link_act_at before place done)) account
next_account end place before done after None account =
    option_map (λ (made : NamedLink). new_account (link_in made.bench)) (slice_get after.objects.links place)

-- what a command adds to the account of the link at a place
abbrev pub accounting : End → ℕ → Noting (Option Account)
accounting end place answer before asked after account = next_account end place before (line_of asked) after (slice_get before.objects.links place) account

-- the account of the link at a place of a run, at one of its ends
abbrev pub account_of : End → ℕ → StoreAnswers → List Command → Option Account
account_of end place told commands = notes_from (accounting end place) told new_run commands None
