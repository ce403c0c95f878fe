-- What is done on a core, but for acts on its link and drives, tells no line of a take.
use Rattle.std.proofs.Common.{◌≡◌, ℕ, Bool, false, List, Option, Some, None, Result, Ok, Err, unwrap_or, refl}
use Rattle.std.proofs.lemmas.Bool.{true≢false}
use Rattle.rp_io.specs.Images.{ImageAnswer}
use Rattle.rp_base.specs.declared.kinds.CrashKind.{CrashKind}
use Rattle.rp_io.specs.declared.faults.NoImage.TheVariants as no_image
use Rattle.fw_load.specs.Faults.{load_fault_index, load_fault_number}
use Rattle.proc_state.specs.declared.answers.LifeFault.{LifeFault}
use Rattle.proc_state.specs.declared.answers.LifeFault.TheVariants as life
use Rattle.journal.specs.declared.events.Event.{Event}
use Rattle.journal.specs.declared.events.Event.TheVariants as event
use Rattle.link_bench.specs.Benches.{BenchState}
use Rattle.crash_recover.specs.declared.core_answers.Crash.{Crash}
use Rattle.crash_recover.specs.declared.core_answers.Crash.TheVariants as crash
use Rattle.crash_recover.specs.declared.core_answers.Leave.{Leave}
use Rattle.crash_recover.specs.declared.core_answers.Leave.TheVariants as leave
use Rattle.crash_recover.specs.declared.core_answers.Start.{Start}
use Rattle.crash_recover.specs.declared.core_answers.Start.TheVariants as start
use Rattle.crash_recover.specs.declared.core_faults.AddFault.{AddFault}
use Rattle.crash_recover.specs.declared.core_faults.AddFault.TheVariants as add
use Rattle.crash_recover.specs.declared.core_faults.LeaveFault.{LeaveFault}
use Rattle.crash_recover.specs.declared.core_faults.LeaveFault.TheVariants as leave_fault
use Rattle.crash_recover.specs.declared.core_faults.StartFault.{StartFault}
use Rattle.crash_recover.specs.declared.core_faults.StartFault.TheVariants as start_fault
use Rattle.crash_recover.specs.CoreCallers.{core_turn_holder}
use Rattle.crash_recover.specs.CoreCrashes.{report_of}
use Rattle.crash_recover.specs.CoreLeaves.{detach_of, shutdown_of}
use Rattle.crash_recover.specs.CoreRings.{core_ring}
use Rattle.crash_recover.specs.Cores.{CoreState, LoadState, core_memory}
use Rattle.link_commands.specs.declared.acts.CoreView.{CoreView}
use Rattle.link_commands.specs.declared.acts.CoreView.TheVariants as shows
use Rattle.link_commands.specs.declared.acts.LinkView.{LinkView}
use Rattle.link_commands.specs.declared.acts.LinkView.TheVariants as view
use Rattle.link_commands.specs.declared.acts.NamedAct.{NamedAct}
use Rattle.command_run.specs.CoreEffects.{CoreEffect}
use Rattle.command_run.specs.CoreCommands.{add_fault_events, core_effect}
use Rattle.command_run.specs.CoreLinks.{core_ring_events, found_ring_events, found_view_events, link_view_events, shown_ring_events}
use Rattle.command_run.specs.CoreLives.{crash_events, fault_at, found_image, leave_events, leave_fault_event, life_fault_event, may_step, report_events, start_events, start_fault_events, start_name, start_with}
use Rattle.command_run.specs.CoreViews.{core_view_events, loaded_table_events, memory_event, shown_memory_event, shown_trace_event, table_event, table_events, trace_bytes, trace_event}
use Rattle.command_run.specs.NamedCores.{NamedCoreState}
use Rattle.command_run.specs.NamedImages.{ImageState}
use Rattle.run_laws.proofs.CoreActWalks.{ActOutcome, Crashes, Detaches, Drives, LinkActs, RefusesDriver, RefusesRegion, ShowsCore, ShowsLink, ShutsDown, Starts, act_outcome}
use Rattle.way_laws.specs.CommandTakes.{may_take}
use Rattle.way_laws.specs.WordedTakes.{is_take_line}
use Rattle.way_laws.proofs.LinkLines.{each_none, reopen_none, ring_none, view_none}
use Rattle.way_laws.proofs.TakeLines.{HaveNoTakes}

module _ (name : List ℕ) where
  -- ---- faults

  fault_none : (number : ℕ) (index : Option ℕ) → is_take_line (fault_at name number index) ≡ false
  fault_none number None = refl
  fault_none number (Some index) = refl

  life_none : (why : LifeFault) → is_take_line (life_fault_event name why) ≡ false
  life_none life.IncarnationsSpent = refl
  life_none why = refl

  start_fault_none : (image : List ℕ) (why : StartFault) → HaveNoTakes (start_fault_events name image why)
  start_fault_none image (start_fault.NoImage no_image.Missing) = (refl, tt)
  start_fault_none image (start_fault.NoImage (no_image.TooLarge bytes)) = (refl, tt)
  start_fault_none image (start_fault.Load why) = (fault_none (unwrap_or (load_fault_number why) 0) (load_fault_index why), tt)
  start_fault_none image (start_fault.Life why) = (life_none why, tt)
  start_fault_none image start_fault.RingsChanged = (refl, tt)
  start_fault_none image (start_fault.Reopen why) = reopen_none name why

  leave_fault_none : (why : LeaveFault) → is_take_line (leave_fault_event name why) ≡ false
  leave_fault_none (leave_fault.Life why) = life_none why
  leave_fault_none (leave_fault.CallerOut caller) = refl

  -- ---- regions and drivers

  unadded_none : (channel : List ℕ) (why : AddFault) → HaveNoTakes (add_fault_events name channel why)
  unadded_none channel add.NotOffline = (refl, tt)
  unadded_none channel (add.Region why) = (refl, tt)
  unadded_none channel add.DriverTaken = (refl, tt)
  unadded_none channel add.DriversFull = (refl, tt)
  unadded_none channel add.NoMemory = tt

  -- ---- starts, leaves and crashes

  start_none : (image : List ℕ) (came : Result Start StartFault) → HaveNoTakes (start_events name image came)
  start_none image (Ok (start.Running inc)) = (refl, tt)
  start_none image (Ok (start.Attached inc)) = (refl, tt)
  start_none image (Ok (start.Users users)) = (refl, tt)
  start_none image (Ok start.Detached) = (refl, tt)
  start_none image (Err why) = start_fault_none image why

  leave_none : (last : Event) (came : Result Leave LeaveFault) → is_take_line last ≡ false → HaveNoTakes (leave_events name last came)
  leave_none last (Ok (leave.Users users)) none = (refl, tt)
  leave_none last (Ok (leave.Last None)) none = (none, tt)
  leave_none last (Ok (leave.Last (Some inc))) none = (refl, (none, tt))
  leave_none last (Ok leave.Limit) none = tt
  leave_none last (Err why) none = (leave_fault_none why, tt)

  crash_none : (kind : CrashKind) (closed : Option ℕ) → HaveNoTakes (crash_events name kind closed)
  crash_none kind None = (refl, tt)
  crash_none kind (Some inc) = (refl, (refl, tt))

  report_none : (kind : CrashKind) (came : Result Crash LifeFault) → HaveNoTakes (report_events name kind came)
  report_none kind (Ok (crash.First closed)) = crash_none kind closed
  report_none kind (Ok crash.Already) = (refl, tt)
  report_none kind (Ok crash.Limit) = tt
  report_none kind (Err why) = (life_none why, tt)

  -- ---- views

  table_none : (found : Option LoadState) → HaveNoTakes (loaded_table_events name found)
  table_none None = (refl, tt)
  table_none (Some loaded) = each_none (table_event name) (λ row. refl) _

  trace_none : (index : ℕ) (found : Option (List ℕ)) → is_take_line (shown_trace_event name index found) ≡ false
  trace_none index None = refl
  trace_none index (Some bytes) = refl

  memory_none : (da len : ℕ) (found : Option (List ℕ)) → is_take_line (shown_memory_event name da len found) ≡ false
  memory_none da len None = refl
  memory_none da len (Some bytes) = refl

  shown_none : (core : CoreState) (shown : CoreView) → HaveNoTakes (core_view_events name core shown)
  unfolding table_events trace_event memory_event
  shown_none core shows.State = (refl, tt)
  shown_none core shows.Table = table_none core.loaded
  shown_none core (shows.Trace index) = (trace_none index (trace_bytes core index), tt)
  shown_none core (shows.Mem da len) = (memory_none da len (core_memory core da len), tt)

  ring_bytes_none : (lane : ℕ) (found : Option (List ℕ)) → HaveNoTakes (found_ring_events name lane found)
  ring_bytes_none lane None = (refl, tt)
  ring_bytes_none lane (Some bytes) = ring_none name lane bytes

  core_ring_none : (core : CoreState) (lane : ℕ) (holder : Option ℕ) → HaveNoTakes (shown_ring_events name core lane holder)
  core_ring_none core lane (Some caller) = (refl, tt)
  core_ring_none core lane None = ring_bytes_none lane (core_ring core lane)

  link_shown_none : (shown : LinkView) (found : Option BenchState) → HaveNoTakes (found_view_events name shown found)
  link_shown_none shown None = (refl, tt)
  link_shown_none shown (Some bench) = view_none name bench shown

  core_link_none : (core : CoreState) (shown : LinkView) → HaveNoTakes (link_view_events name core shown)
  unfolding core_ring_events
  core_link_none core (view.Ring lane) = core_ring_none core lane (core_turn_holder core)
  core_link_none core view.Books = link_shown_none view.Books core.bench
  core_link_none core view.Channels = link_shown_none view.Channels core.bench

-- ---- what is done under the name of a core

module _ (images : List ImageState) (answer : ImageAnswer) (is_quiet : Bool) (on : NamedCoreState) (steps : ℕ) where
  -- whatever the outcome of an act is that may take nothing
  outcome_none : {wanted : NamedAct (List ℕ)} {effect : CoreEffect} → ActOutcome images answer is_quiet on steps wanted effect → may_take wanted ≡ false → HaveNoTakes effect.events
  outcome_none (ShowsLink shown) none = core_link_none on.name on.core shown
  outcome_none (ShowsCore shown) none = shown_none on.name on.core shown
  outcome_none (LinkActs asked) none = absurd (true≢false none)
  outcome_none (RefusesRegion region why) none = unadded_none on.name on.name why
  outcome_none (RefusesDriver channel kind why) none = unadded_none on.name channel why
  outcome_none (Starts start) none = let image = start_name start on in start_none on.name image (start_with start on.core (found_image images answer image)).answer
  outcome_none ShutsDown none = leave_none on.name (event.Offline on.name) (shutdown_of (may_step steps) on.core).answer refl
  outcome_none Detaches none = leave_none on.name (event.Detached on.name) (detach_of (may_step steps) on.core).answer refl
  outcome_none (Crashes kind) none = report_none on.name kind (report_of (may_step steps) on.core).answer
  outcome_none (Drives count) none = absurd (true≢false none)
  outcome_none came none = (refl, tt)

  pub core_none : (wanted : NamedAct (List ℕ)) → may_take wanted ≡ false → HaveNoTakes (core_effect images answer is_quiet on steps wanted).events
  core_none wanted none = outcome_none (act_outcome images answer is_quiet on steps wanted) none
