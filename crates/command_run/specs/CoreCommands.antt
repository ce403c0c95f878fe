-- What an act under the name of a core does: a region, a driver and the switch of recovery by definitions here, the other acts by those of the files beside this one (own).
use Rattle.std.specs.Prelude.{ℕ, Bool, true, false, List, [], ◌∷◌, ◌++◌, length, Option, Some, None, unwrap_or}
use Rattle.rp_io.specs.Images.{ImageAnswer}
use Rattle.rp_base.specs.declared.kinds.DriverKind.{DriverKind}
use Rattle.rp_base.specs.declared.kinds.Switch.{Switch}
use Rattle.rp_base.specs.declared.kinds.Switch.TheVariants as switch
use Rattle.memory_pool.specs.declared.regions.Region.{Region}
use Rattle.memory_pool.specs.Faults.{region_fault_number}
use Rattle.journal.specs.declared.events.Event.{Event}
use Rattle.journal.specs.declared.events.Event.TheVariants as event
use Rattle.crash_recover.specs.declared.core_faults.AddFault.{AddFault}
use Rattle.crash_recover.specs.declared.core_faults.AddFault.TheVariants as add
use Rattle.crash_recover.specs.Cores.{CoreState, add_fault, driver_add_fault, with_driver}
use Rattle.link_commands.specs.declared.acts.CoreAct.{CoreAct}
use Rattle.link_commands.specs.declared.acts.CoreAct.TheVariants as core
use Rattle.link_commands.specs.declared.acts.NamedAct.{NamedAct}
use Rattle.link_commands.specs.declared.acts.NamedAct.TheVariants as under
use Rattle.command_run.specs.NamedCores.{NamedCoreState}
use Rattle.command_run.specs.NamedImages.{ImageState}
use Rattle.command_run.specs.CoreEffects.{CoreEffect, core_tells, core_tells_all}
use Rattle.command_run.specs.CoreLinks.{core_link_effect, link_view_events}
use Rattle.command_run.specs.CoreDrives.{drive_effect}
use Rattle.command_run.specs.CoreLives.{crash_effect, detach_effect, shutdown_effect, started_effect}
use Rattle.command_run.specs.CoreViews.{core_view_events}

-- why a region is not added, or a driver of this name not declared (out of memory is written by no line of a core, and ends the run)
abbrev pub add_fault_events : List ℕ → List ℕ → AddFault → List Event
add_fault_events name channel add.NotOffline = event.NotOffline name ∷ []
add_fault_events name channel (add.Region why) = event.Fault name (unwrap_or (region_fault_number why) 0) ∷ []
add_fault_events name channel add.DriverTaken = event.DriverTaken name channel ∷ []
add_fault_events name channel add.DriversFull = event.DriversFull name ∷ []
add_fault_events name channel add.NoMemory = []

-- a region that is added after the others, or why it isn't
abbrev pub added_effect : List ℕ → CoreState → ℕ → Region → Option AddFault → CoreEffect
added_effect name core steps region None =
    core_tells (record core { regions = core.regions ++ region ∷ [] }) steps (event.Region name (length core.regions))
added_effect name core steps region (Some why) = core_tells_all core steps (add_fault_events name name why)

-- `region X KIND DA PA LEN`
unfoldable pub region_effect : List ℕ → CoreState → ℕ → Region → CoreEffect
region_effect name core steps region = added_effect name core steps region (add_fault core region)

-- a driver that is declared after the others, or why it isn't
abbrev pub driver_effect_unless : List ℕ → CoreState → ℕ → List ℕ → DriverKind → Option AddFault → CoreEffect
driver_effect_unless name core steps channel kind None = core_tells (with_driver core (channel, kind)) steps (event.Driver name channel kind)
driver_effect_unless name core steps channel kind (Some why) = core_tells_all core steps (add_fault_events name channel why)

-- `driver X NAME KIND`
unfoldable pub driver_effect : List ℕ → CoreState → ℕ → List ℕ → DriverKind → CoreEffect
driver_effect name core steps channel kind = driver_effect_unless name core steps channel kind (driver_add_fault core channel)

-- whether a switch is on
abbrev pub is_on : Switch → Bool
is_on switch.On = true
is_on switch.Off = false

-- `recovery X SWITCH`
abbrev pub recovery_effect : List ℕ → CoreState → ℕ → Switch → CoreEffect
recovery_effect name core steps set =
    core_tells (record core { life = record core.life { recovery = is_on set } }) steps (event.Recovery name set)

-- an act on a core, over the images that the script made, what the store says of the one that is asked for, and whether drives are quiet
unfoldable pub core_act_effect : List ImageState → ImageAnswer → Bool → NamedCoreState → ℕ → CoreAct → CoreEffect
core_act_effect images answer is_quiet on steps (core.Region region) = region_effect on.name on.core steps region
core_act_effect images answer is_quiet on steps (core.Driver channel kind) = driver_effect on.name on.core steps channel kind
core_act_effect images answer is_quiet on steps (core.Start start) = started_effect start images answer on steps
core_act_effect images answer is_quiet on steps core.Shutdown = shutdown_effect on.name on.core steps
core_act_effect images answer is_quiet on steps core.Detach = detach_effect on.name on.core steps
core_act_effect images answer is_quiet on steps (core.Show shown) = core_tells_all on.core steps (core_view_events on.name on.core shown)
core_act_effect images answer is_quiet on steps (core.Crash kind) = crash_effect on.name on.core steps kind
core_act_effect images answer is_quiet on steps (core.Recovery set) = recovery_effect on.name on.core steps set
core_act_effect images answer is_quiet on steps (core.Drive count) = drive_effect on.name is_quiet on.core steps count

-- what is done under the name of a core; its link has no manager but the core
unfoldable pub core_effect : List ImageState → ImageAnswer → Bool → NamedCoreState → ℕ → NamedAct (List ℕ) → CoreEffect
core_effect images answer is_quiet on steps (under.Make made) = core_tells on.core steps (event.Exists on.name)
core_effect images answer is_quiet on steps (under.Link asked) = core_link_effect on.name on.core steps asked on.core.bench
core_effect images answer is_quiet on steps (under.Manage managed) = core_tells on.core steps (event.Unknown on.name)
core_effect images answer is_quiet on steps (under.Show shown) = core_tells_all on.core steps (link_view_events on.name on.core shown)
core_effect images answer is_quiet on steps (under.Core asked) = core_act_effect images answer is_quiet on steps asked
