-- What is done under the name of a core leaves of it and tells, walked once: each act has one of these outcomes.
use Rattle.std.proofs.Common.{◌≡◌, ℕ, Bool, List, [], ◌∷◌, ◌++◌, length, Option, Some, None, refl}
use Rattle.rp_io.specs.Images.{ImageAnswer}
use Rattle.rp_base.specs.declared.kinds.CrashKind.{CrashKind}
use Rattle.rp_base.specs.declared.kinds.DriverKind.{DriverKind}
use Rattle.rp_base.specs.declared.kinds.Switch.{Switch}
use Rattle.memory_pool.specs.declared.regions.Region.{Region}
use Rattle.journal.specs.declared.events.Event.TheVariants as event
use Rattle.link_bench.specs.declared.acts.LinkAct.{LinkAct}
use Rattle.link_bench.specs.Benches.{BenchState}
use Rattle.crash_recover.specs.declared.core_faults.AddFault.{AddFault}
use Rattle.crash_recover.specs.CoreActs.{core_act_on}
use Rattle.crash_recover.specs.CoreCrashes.{report_of}
use Rattle.crash_recover.specs.CoreLeaves.{detach_of, shutdown_of}
use Rattle.crash_recover.specs.Cores.{CoreState, add_fault, driver_add_fault, with_driver}
use Rattle.link_commands.specs.declared.acts.CoreAct.{CoreAct}
use Rattle.link_commands.specs.declared.acts.CoreAct.TheVariants as act
use Rattle.link_commands.specs.declared.acts.CoreView.{CoreView}
use Rattle.link_commands.specs.declared.acts.LinkView.{LinkView}
use Rattle.link_commands.specs.declared.acts.Making.{Making}
use Rattle.link_commands.specs.declared.acts.ManagerAct.{ManagerAct}
use Rattle.link_commands.specs.declared.acts.NamedAct.{NamedAct}
use Rattle.link_commands.specs.declared.acts.NamedAct.TheVariants as under
use Rattle.link_commands.specs.declared.acts.StartAct.{StartAct}
use Rattle.command_run.specs.CoreCommands.{add_fault_events, added_effect, core_act_effect, core_effect, driver_effect, driver_effect_unless, recovery_effect, region_effect}
use Rattle.command_run.specs.CoreDrives.{drive_effect}
use Rattle.command_run.specs.CoreEffects.{CoreEffect, core_tells, core_tells_all}
use Rattle.command_run.specs.CoreLinks.{core_link_effect, link_view_events}
use Rattle.command_run.specs.CoreLives.{crash_effect, detach_effect, found_image, leave_effect, may_step, report_effect, shutdown_effect, start_effect, start_name, start_with, started_effect}
use Rattle.command_run.specs.CoreViews.{core_view_events}
use Rattle.command_run.specs.NamedCores.{NamedCoreState}
use Rattle.command_run.specs.NamedImages.{ImageState}

-- what an act on the link of a core leaves of the core, which has a link or not
pub link_effect_core : (name : List ℕ) (core : CoreState) (steps : ℕ) (asked : LinkAct (List ℕ)) (found : Option BenchState) → (core_link_effect name core steps asked found).core ≡ (core_act_on core steps asked found).core
unfolding core_link_effect
link_effect_core name core steps asked None = refl
link_effect_core name core steps asked (Some bench) = refl

module _ (images : List ImageState) (answer : ImageAnswer) (is_quiet : Bool) (on : NamedCoreState) (steps : ℕ) where
  -- what an act may leave and tell, by what it is about
  pub data ActOutcome : NamedAct (List ℕ) → CoreEffect → Type 0 where
    -- the core is as it was: it is there, it alone manages its link, and the others show what it is
    Exists : (made : Making) → ActOutcome (under.Make made) (core_tells on.core steps (event.Exists on.name))
    HasNoManager : (managed : ManagerAct) → ActOutcome (under.Manage managed) (core_tells on.core steps (event.Unknown on.name))
    ShowsLink : (shown : LinkView) → ActOutcome (under.Show shown) (core_tells_all on.core steps (link_view_events on.name on.core shown))
    ShowsCore : (shown : CoreView) → ActOutcome (under.Core (act.Show shown)) (core_tells_all on.core steps (core_view_events on.name on.core shown))
    -- its link acts, if it has one
    LinkActs : (asked : LinkAct (List ℕ)) → ActOutcome (under.Link asked) (core_link_effect on.name on.core steps asked on.core.bench)
    -- a region, or a driver, comes behind the others, or is refused
    AddsRegion : (region : Region) → add_fault on.core region ≡ None
        → ActOutcome (under.Core (act.Region region)) (core_tells (record on.core { regions = on.core.regions ++ region ∷ [] }) steps (event.Region on.name (length on.core.regions)))
    RefusesRegion : (region : Region) (why : AddFault) → ActOutcome (under.Core (act.Region region)) (core_tells_all on.core steps (add_fault_events on.name on.name why))
    AddsDriver : (channel : List ℕ) (kind : DriverKind) → ActOutcome (under.Core (act.Driver channel kind)) (core_tells (with_driver on.core (channel, kind)) steps (event.Driver on.name channel kind))
    RefusesDriver : (channel : List ℕ) (kind : DriverKind) (why : AddFault) → ActOutcome (under.Core (act.Driver channel kind)) (core_tells_all on.core steps (add_fault_events on.name channel why))
    -- its life begins or goes on, a user leaves it, it crashes, or is driven; or it is set whether it may recover
    Starts : (start : StartAct) → ActOutcome (under.Core (act.Start start)) (start_effect on.name (start_name start on) steps (start_with start on.core (found_image images answer (start_name start on))))
    ShutsDown : ActOutcome (under.Core act.Shutdown) (leave_effect on.name (event.Offline on.name) steps (shutdown_of (may_step steps) on.core))
    Detaches : ActOutcome (under.Core act.Detach) (leave_effect on.name (event.Detached on.name) steps (detach_of (may_step steps) on.core))
    Crashes : (kind : CrashKind) → ActOutcome (under.Core (act.Crash kind)) (report_effect on.name kind steps (report_of (may_step steps) on.core))
    Drives : (count : ℕ) → ActOutcome (under.Core (act.Drive count)) (drive_effect on.name is_quiet on.core steps count)
    Switches : (set : Switch) → ActOutcome (under.Core (act.Recovery set)) (recovery_effect on.name on.core steps set)

  region_at : (region : Region) (found : Option AddFault) → add_fault on.core region ≡ found → ActOutcome (under.Core (act.Region region)) (added_effect on.name on.core steps region found)
  region_at region None clear = AddsRegion region clear
  region_at region (Some why) found = RefusesRegion region why

  driver_at : (channel : List ℕ) (kind : DriverKind) (found : Option AddFault) → ActOutcome (under.Core (act.Driver channel kind)) (driver_effect_unless on.name on.core steps channel kind found)
  driver_at channel kind None = AddsDriver channel kind
  driver_at channel kind (Some why) = RefusesDriver channel kind why

  on_core : (asked : CoreAct) → ActOutcome (under.Core asked) (core_act_effect images answer is_quiet on steps asked)
  unfolding core_act_effect region_effect driver_effect started_effect shutdown_effect detach_effect crash_effect
  on_core (act.Region region) = region_at region (add_fault on.core region) refl
  on_core (act.Driver channel kind) = driver_at channel kind (driver_add_fault on.core channel)
  on_core (act.Start start) = Starts start
  on_core act.Shutdown = ShutsDown
  on_core act.Detach = Detaches
  on_core (act.Show shown) = ShowsCore shown
  on_core (act.Crash kind) = Crashes kind
  on_core (act.Recovery set) = Switches set
  on_core (act.Drive count) = Drives count

  -- each act has one of them
  pub act_outcome : (wanted : NamedAct (List ℕ)) → ActOutcome wanted (core_effect images answer is_quiet on steps wanted)
  unfolding core_effect
  act_outcome (under.Make made) = Exists made
  act_outcome (under.Link asked) = LinkActs asked
  act_outcome (under.Manage managed) = HasNoManager managed
  act_outcome (under.Show shown) = ShowsLink shown
  act_outcome (under.Core asked) = on_core asked
