-- The accounts of the links of a run's cores: what each command adds to them (own).
use Rattle.std.specs.Prelude.{ℕ, zero, suc, ◌&&◌, Bool, List, [], ◌++◌, slice_get, Option, Some, None, is_none, option_and_then, option_map, Result, Ok, Err, if◌then◌else◌}
use Rattle.rp_io.specs.Images.{ImageAnswer}
use Rattle.rp_base.specs.declared.kinds.End.{End}
use Rattle.proc_state.specs.Lives.{is_up, recovery_fault}
use Rattle.lane_laws.specs.Handings.{Handing}
use Rattle.script_lang.specs.declared.commands.Command.{Command}
use Rattle.script_lang.specs.declared.recipes.RecipeLine.{RecipeLine}
use Rattle.link_bench.specs.declared.acts.LinkAct.{LinkAct}
use Rattle.link_bench.specs.Benches.{BenchState, link_in}
use Rattle.crash_recover.specs.declared.core_acts.TheConstants.{OWN_CALLERS}
use Rattle.crash_recover.specs.declared.core_answers.Start.{Start}
use Rattle.crash_recover.specs.declared.core_faults.StartFault.{StartFault}
use Rattle.crash_recover.specs.CoreBoots.{boot_of, load_in}
use Rattle.crash_recover.specs.CoreCrashes.{report_of}
use Rattle.crash_recover.specs.CoreLeaves.{detach_of, shutdown_of}
use Rattle.crash_recover.specs.CoreRecoveries.{after_recovery, reload_fault, reopen_fault}
use Rattle.crash_recover.specs.Cores.{CoreState}
use Rattle.core_actors.specs.ActorEnds.{actors_after_end}
use Rattle.crash_recover.specs.Drives.{drive_step}
use Rattle.core_laws.specs.Beginnings.{begins_life}
use Rattle.link_commands.specs.declared.acts.CoreAct.{CoreAct}
use Rattle.link_commands.specs.declared.acts.CoreAct.TheVariants as core
use Rattle.link_commands.specs.declared.acts.Line.{Line}
use Rattle.link_commands.specs.declared.acts.Line.TheVariants as line
use Rattle.link_commands.specs.declared.acts.NamedAct.{NamedAct}
use Rattle.link_commands.specs.declared.acts.NamedAct.TheVariants as under
use Rattle.link_commands.specs.declared.acts.StartAct.TheVariants as starts
use Rattle.link_commands.specs.Acts.{line_of}
use Rattle.command_run.specs.CoreLives.{booted_image, found_image, may_step}
use Rattle.command_run.specs.NamedCores.{NamedCoreState}
use Rattle.command_run.specs.NamedImages.{ImageState}
use Rattle.command_run.specs.Runs.{RunState, core_place, new_run, place_of}
use Rattle.command_run.specs.Stores.{StoreAnswers}
use Rattle.run_laws.specs.Drives.{drive_length_within}
use Rattle.act_laws.specs.Accounts.{Account, new_account, with_deeds}
use Rattle.act_laws.specs.CoreDeeds.{drive_deeds, ready_deeds, reported_deeds}
use Rattle.act_laws.specs.Deeds.{Deeds, act_deeds, no_deeds}
use Rattle.run_laws.specs.Notes.{Noting, notes_from}
use Rattle.way_laws.specs.RunAccounts.{is_place}

-- deeds on the link that a core has, if it has one
abbrev pub deed_account : End → Option BenchState → Deeds → Option Account → Option Account
deed_account end None deeds account = account
deed_account end (Some bench) deeds account = option_map (λ (now : Account). with_deeds end (link_in bench).era.is_live now deeds) account

-- a new account of the link that a core has, if it has one
abbrev pub begun_account : Option BenchState → Option Account
begun_account found = option_map (λ (bench : BenchState). new_account (link_in bench)) found

-- an account where something refuses, or else another
abbrev pub unless_some : {X A : Type 0} → Option X → A → A → A
unless_some None refused done = done
unless_some (Some why) refused done = refused

-- after a boot that left this link: a life that begins has a new one
abbrev pub started_account : Option BenchState → Result Start StartFault → Option Account → Option Account
started_account left (Ok came) account = if begins_life came then begun_account left else account
started_account left (Err why) account = account

-- after a shutdown or a detaching, with which the link may have gone
abbrev pub left_account : Option BenchState → Option Account → Option Account
left_account None account = None
left_account (Some left) account = account

-- caller 0 of the link that a core has is made anew
abbrev pub ready_if : Option BenchState → Deeds
ready_if None = no_deeds
ready_if (Some bench) = ready_deeds bench

-- after a recovery: a refusal of its life or of its image leaves the link as it is; caller 0 is made anew before the link is reopened, which may be refused
abbrev pub recovery_account : End → CoreState → ImageAnswer → Option Account → Option Account
recovery_account end on found account =
    unless_some (recovery_fault on.life) account (unless_some (reload_fault on found) account
    (unless_some (reopen_fault on) (deed_account end on.bench (ready_if on.bench) account) (begun_account (after_recovery on (load_in on found)).bench)))

-- after the first steps of the actors
unfoldable pub steps_account : End → ℕ → CoreState → Option Account → Option Account
steps_account end zero on account = account
steps_account end (suc more) on account = steps_account end more (drive_step on).core (deed_account end on.bench (drive_deeds on) account)

-- after a drive of so many steps, of which fewer are made where the core rests or the run has no step left
abbrev pub drive_account : End → ℕ → CoreState → ℕ → Option Account → Option Account
drive_account end count on steps account = steps_account end (drive_length_within count on steps) on account

-- what the first steps of the actors tell of takes at each end, one after the other
unfoldable pub steps_takes : ℕ → CoreState → End → List Handing
steps_takes zero on end = []
steps_takes (suc more) on end = (drive_deeds on).takes end ++ steps_takes more (drive_step on).core end

-- the same of such a drive
abbrev pub drive_takes : ℕ → CoreState → ℕ → End → List Handing
drive_takes count on steps = steps_takes (drive_length_within count on steps) on

-- after an act on a core
abbrev pub life_account : End → List ImageState → ImageAnswer → NamedCoreState → ℕ → CoreAct → Option Account → Option Account
life_account end images answer on steps (core.Start (starts.Boot image)) account =
    let booted = boot_of on.core image (found_image images answer image) in started_account booted.core.bench booted.answer account
life_account end images answer on steps (core.Start (starts.Handover image)) account = account
life_account end images answer on steps (core.Start starts.Recover) account =
    recovery_account end on.core (found_image images answer (booted_image on.name on.core)) account
life_account end images answer on steps core.Shutdown account = left_account (shutdown_of (may_step steps) on.core).core.bench account
life_account end images answer on steps core.Detach account = left_account (detach_of (may_step steps) on.core).core.bench account
life_account end images answer on steps (core.Crash kind) account =
    deed_account end on.core.bench (reported_deeds (report_of (may_step steps) on.core).answer on.core.bench) account
life_account end images answer on steps (core.Drive count) account =
    if is_up on.core.life.state then drive_account end count on.core steps account else account
life_account end images answer on steps other account = account

-- an act on the link that a core has, whose first two callers are its own
abbrev pub core_act_deeds : CoreState → Option BenchState → ℕ → LinkAct (List ℕ) → Deeds
core_act_deeds on None steps asked = no_deeds
core_act_deeds on (Some bench) steps asked = act_deeds actors_after_end OWN_CALLERS bench on.actors steps asked

-- after what is done under the name of a core
abbrev pub core_account_after : End → List ImageState → ImageAnswer → NamedCoreState → ℕ → NamedAct (List ℕ) → Option Account → Option Account
core_account_after end images answer on steps (under.Make made) account = account
core_account_after end images answer on steps (under.Link asked) account = deed_account end on.core.bench (core_act_deeds on.core on.core.bench steps asked) account
core_account_after end images answer on steps (under.Manage managed) account = account
core_account_after end images answer on steps (under.Show shown) account = account
core_account_after end images answer on steps (under.Core asked) account = life_account end images answer on steps asked account

-- whether no link has this name
abbrev pub is_unlinked : RunState → List ℕ → Bool
is_unlinked run name = is_none (option_and_then (slice_get run.objects.links) (place_of run.objects.links name))

-- what a line does under the name of the core at this place
abbrev pub core_act_at : RunState → ℕ → Line (List RecipeLine) (List ℕ) → Option (NamedAct (List ℕ))
core_act_at run place (line.Image name lines) = None
core_act_at run place (line.Quiet set) = None
core_act_at run place (line.Dump name image) = None
core_act_at run place (line.On name wanted) = if is_unlinked run name && is_place (core_place run.objects.cores name) place then Some wanted else None

-- the account of the link of a core after what is done on it, if anything is
abbrev pub core_account_behind : End → List ImageState → ImageAnswer → NamedCoreState → ℕ → Option (NamedAct (List ℕ)) → Option Account → Option Account
core_account_behind end images answer on steps None account = account
core_account_behind end images answer on steps (Some wanted) account = core_account_after end images answer on steps wanted account

-- the account of the link of the core at a place after a command; a core is made without a link
abbrev pub next_core_account : End → ℕ → ImageAnswer → RunState → Line (List RecipeLine) (List ℕ) → Option NamedCoreState → Option Account → Option Account
next_core_account end place answer before done (Some on) account =
    core_account_behind end before.objects.images answer on before.steps (core_act_at before place done) account
next_core_account end place answer before done None account = None

-- what a command adds to the account of the link of the core at a place
abbrev pub core_accounting : End → ℕ → Noting (Option Account)
core_accounting end place answer before asked after account = next_core_account end place answer before (line_of asked) (slice_get before.objects.cores place) account

-- the account of the link of the core at a place of a run, at one of its ends
abbrev pub core_account_of : End → ℕ → StoreAnswers → List Command → Option Account
core_account_of end place told commands = notes_from (core_accounting end place) told new_run commands None
