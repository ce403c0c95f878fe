-- What a boot, a handover, a recovery, a shutdown, a detach and a crash report of a core leave of it and write (own).
use Rattle.std.specs.Prelude.{ℕ, ◌+◌, ◌==◌, Bool, not, nat_le, length, List, [], ◌∷◌, Option, Some, None, unwrap_or, find, bytes_eq, option_map, Result, Ok, Err, if◌then◌else◌}
use Rattle.rp_io.specs.Images.{ImageAnswer}
use Rattle.rp_base.specs.declared.limits.TheConstants.{IMAGE_MOST, STEPS_MOST}
use Rattle.rp_base.specs.declared.kinds.CrashKind.{CrashKind}
use Rattle.rp_io.specs.declared.faults.NoImage.TheVariants as no_image
use Rattle.fw_load.specs.declared.faults.LoadFault.{LoadFault}
use Rattle.fw_load.specs.Faults.{load_fault_index, load_fault_number}
use Rattle.proc_state.specs.declared.answers.LifeFault.{LifeFault}
use Rattle.proc_state.specs.declared.answers.LifeFault.TheVariants as life
use Rattle.proc_state.specs.Faults.{fault_number}
use Rattle.journal.specs.declared.events.Event.{Event}
use Rattle.journal.specs.declared.events.Event.TheVariants as event
use Rattle.crash_recover.specs.declared.core_answers.Crash.{Crash}
use Rattle.crash_recover.specs.declared.core_answers.Crash.TheVariants as crash
use Rattle.crash_recover.specs.declared.core_answers.Leave.{Leave}
use Rattle.crash_recover.specs.declared.core_answers.Leave.TheVariants as leave
use Rattle.crash_recover.specs.declared.core_answers.Start.{Start}
use Rattle.crash_recover.specs.declared.core_answers.Start.TheVariants as start
use Rattle.crash_recover.specs.declared.core_faults.StartFault.{StartFault}
use Rattle.crash_recover.specs.declared.core_faults.StartFault.TheVariants as start_fault
use Rattle.crash_recover.specs.declared.core_faults.LeaveFault.{LeaveFault}
use Rattle.crash_recover.specs.declared.core_faults.LeaveFault.TheVariants as leave_fault
use Rattle.crash_recover.specs.declared.core_faults.TheConstants.{CALLER_OUT, RINGS_CHANGED}
use Rattle.crash_recover.specs.Cores.{CoreOutcome, CoreState}
use Rattle.crash_recover.specs.CoreBoots.{boot_of, handover_of}
use Rattle.crash_recover.specs.CoreCrashes.{report_of}
use Rattle.crash_recover.specs.CoreLeaves.{detach_of, shutdown_of}
use Rattle.crash_recover.specs.CoreRecoveries.{recovery_of}
use Rattle.link_commands.specs.declared.acts.StartAct.{StartAct}
use Rattle.link_commands.specs.declared.acts.StartAct.TheVariants as starts
use Rattle.link_commands.specs.declared.stops.Stop.{Stop}
use Rattle.link_commands.specs.declared.stops.Stop.TheVariants as stop
use Rattle.command_run.specs.NamedCores.{NamedCoreState}
use Rattle.command_run.specs.NamedImages.{ImageState}
use Rattle.link_commands.specs.Recoveries.{reopen_events}
use Rattle.command_run.specs.CoreEffects.{CoreEffect, core_tells_all}

-- a fault by its number, and the number of what it is about, if it is about something
abbrev pub fault_at : List ℕ → ℕ → Option ℕ → Event
fault_at name number None = event.Fault name number
fault_at name number (Some index) = event.FaultAt name number index

-- why the life of a core refuses something
abbrev pub life_fault_event : List ℕ → LifeFault → Event
life_fault_event name life.IncarnationsSpent = event.IncarnationsSpent name
life_fault_event name why = event.Fault name (fault_number why)

-- why a core does not load an image; out of memory is no refusal, so its 0 is never written
abbrev pub load_fault_event : List ℕ → LoadFault → Event
load_fault_event name why = fault_at name (unwrap_or (load_fault_number why) 0) (load_fault_index why)

-- why a core is not started with the image of a name
abbrev pub start_fault_events : List ℕ → List ℕ → StartFault → List Event
start_fault_events name image (start_fault.NoImage no_image.Missing) = event.Missing name image ∷ []
start_fault_events name image (start_fault.NoImage (no_image.TooLarge bytes)) = event.TooLarge name image ∷ []
start_fault_events name image (start_fault.Load why) = load_fault_event name why ∷ []
start_fault_events name image (start_fault.Life why) = life_fault_event name why ∷ []
start_fault_events name image start_fault.RingsChanged = event.Fault name RINGS_CHANGED ∷ []
start_fault_events name image (start_fault.Reopen why) = reopen_events name why

-- why a user doesn't leave a core
abbrev pub leave_fault_event : List ℕ → LeaveFault → Event
leave_fault_event name (leave_fault.Life why) = life_fault_event name why
leave_fault_event name (leave_fault.CallerOut caller) = event.FaultAt name CALLER_OUT caller

-- what a start of a core was
abbrev pub start_event : List ℕ → Start → Event
start_event name (start.Running inc) = event.Running name inc
start_event name (start.Attached inc) = event.Attached name inc
start_event name (start.Users users) = event.Users name users
start_event name start.Detached = event.Detached name

-- the same with an image of this name, or why there was none
abbrev pub start_events : List ℕ → List ℕ → Result Start StartFault → List Event
start_events name image (Ok started) = start_event name started ∷ []
start_events name image (Err why) = start_fault_events name image why

abbrev pub start_effect : List ℕ → List ℕ → ℕ → CoreOutcome Start StartFault → CoreEffect
start_effect name image steps outcome = core_tells_all outcome.core steps (start_events name image outcome.answer)

-- the bytes of the first image of this name
abbrev pub image_bytes : List ImageState → List ℕ → Option (List ℕ)
image_bytes images name = option_map (λ (image : ImageState). image.bytes) (find (λ image. bytes_eq image.name name) images)

-- an image that the script made, unless it is longer than an image may be
abbrev pub made_image : List ℕ → ImageAnswer
made_image bytes = if nat_le (length bytes) IMAGE_MOST then Ok bytes else Err (no_image.TooLarge (length bytes))

-- the same, or what the store says
abbrev pub image_or : ImageAnswer → Option (List ℕ) → ImageAnswer
image_or answer (Some bytes) = made_image bytes
image_or answer None = answer

-- the image of this name: the script's, or else what the store says
abbrev pub found_image : List ImageState → ImageAnswer → List ℕ → ImageAnswer
found_image images answer image = image_or answer (image_bytes images image)

-- the name of the image that a core was booted or handed over with (one that has none is offline, and not recovered)
abbrev pub booted_image : List ℕ → CoreState → List ℕ
booted_image name core = unwrap_or core.image name

-- the name of the image with which a core is started
abbrev pub start_name : StartAct → NamedCoreState → List ℕ
start_name (starts.Boot image) on = image
start_name (starts.Handover image) on = image
start_name starts.Recover on = booted_image on.name on.core

-- a start with that image
abbrev pub start_with : StartAct → CoreState → ImageAnswer → CoreOutcome Start StartFault
start_with (starts.Boot image) core found = boot_of core image found
start_with (starts.Handover image) core found = handover_of core image found
start_with starts.Recover core found = recovery_of core found

-- `boot X IMAGE`, `handover X IMAGE`, `recover X`
unfoldable pub started_effect : StartAct → List ImageState → ImageAnswer → NamedCoreState → ℕ → CoreEffect
started_effect start images answer on steps =
    let image = start_name start on in
    start_effect on.name image steps (start_with start on.core (found_image images answer image))

-- the run ends where a step more is asked than it may take
abbrev pub core_stops : CoreState → ℕ → CoreEffect
core_stops core steps = record { core = core; steps = steps; events = []; ending = Some stop.StepLimit }

-- what is written of the leave of a user, with this event where it was the last
abbrev pub leave_events : List ℕ → Event → Result Leave LeaveFault → List Event
leave_events name last (Ok (leave.Users users)) = event.Users name users ∷ []
leave_events name last (Ok (leave.Last None)) = last ∷ []
leave_events name last (Ok (leave.Last (Some inc))) = event.Closed name inc ∷ last ∷ []
leave_events name last (Ok leave.Limit) = []
leave_events name last (Err why) = leave_fault_event name why ∷ []

-- how many steps were done then: the close of a link is one
abbrev pub leave_steps : ℕ → Result Leave LeaveFault → ℕ
leave_steps steps (Ok (leave.Last (Some inc))) = steps + 1
leave_steps steps other = steps

-- whether the run ends there
abbrev pub leave_ending : Result Leave LeaveFault → Option Stop
leave_ending (Ok leave.Limit) = Some stop.StepLimit
leave_ending other = None

abbrev pub leave_effect : List ℕ → Event → ℕ → CoreOutcome Leave LeaveFault → CoreEffect
leave_effect name last steps outcome = record {
  core = outcome.core;
  steps = leave_steps steps outcome.answer;
  events = leave_events name last outcome.answer;
  ending = leave_ending outcome.answer;
}

-- whether a run that has done so many steps may do one more
abbrev pub may_step : ℕ → Bool
may_step steps = not (steps == STEPS_MOST)

-- `shutdown X`
unfoldable pub shutdown_effect : List ℕ → CoreState → ℕ → CoreEffect
shutdown_effect name core steps = leave_effect name (event.Offline name) steps (shutdown_of (may_step steps) core)

-- `detach X`
unfoldable pub detach_effect : List ℕ → CoreState → ℕ → CoreEffect
detach_effect name core steps = leave_effect name (event.Detached name) steps (detach_of (may_step steps) core)

-- a crash, and which incarnation of the link it closed, if it closed one
abbrev pub crash_events : List ℕ → CrashKind → Option ℕ → List Event
crash_events name kind None = event.Crashed name kind ∷ []
crash_events name kind (Some inc) = event.Closed name inc ∷ event.Crashed name kind ∷ []

-- what is written of a crash report
abbrev pub report_events : List ℕ → CrashKind → Result Crash LifeFault → List Event
report_events name kind (Ok (crash.First closed)) = crash_events name kind closed
report_events name kind (Ok crash.Already) = event.AlreadyCrashed name ∷ []
report_events name kind (Ok crash.Limit) = []
report_events name kind (Err why) = life_fault_event name why ∷ []

-- how many steps were done then: the close of a link is one
abbrev pub report_steps : ℕ → Result Crash LifeFault → ℕ
report_steps steps (Ok (crash.First (Some inc))) = steps + 1
report_steps steps other = steps

-- whether the run ends there
abbrev pub report_ending : Result Crash LifeFault → Option Stop
report_ending (Ok crash.Limit) = Some stop.StepLimit
report_ending other = None

abbrev pub report_effect : List ℕ → CrashKind → ℕ → CoreOutcome Crash LifeFault → CoreEffect
report_effect name kind steps outcome = record {
  core = outcome.core;
  steps = report_steps steps outcome.answer;
  events = report_events name kind outcome.answer;
  ending = report_ending outcome.answer;
}

-- `crash X KIND`
unfoldable pub crash_effect : List ℕ → CoreState → ℕ → CrashKind → CoreEffect
crash_effect name core steps kind = report_effect name kind steps (report_of (may_step steps) core)
