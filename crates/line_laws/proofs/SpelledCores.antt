-- What is told of a core is spelled as lines have it.
use Rattle.std.proofs.Common.{sym, subst, ◌≡◌, ℕ, ◌+◌, ◌<◌, ◌≤◌, ◌^◌, Bool, true, false, cond, List, [], ◌∷◌, ◌++◌, length, Option, Some, None, IfSome, Result, Ok, Err, unwrap_or, arith, ap, is_some, leb, refl, take}
use Rattle.std.specs.Prelude.{All, bytes_eq, find, nat_le, nat_lt, option_map, slice_get}
use Rattle.std.specs.List.{slice_index_or}
use Rattle.std.specs.Option.{option_and_then, option_or}
use Rattle.std.specs.Result.{IfOk}
use Rattle.std.proofs.lemmas.Bool.{cond_both, leb-false, true≢false}
use Rattle.std.proofs.lemmas.List.Elements.{All-append, All-cons, All-map, All-nil, All-head, All-tail, All-take}
use Rattle.rp_io.specs.Images.{ImageAnswer}
use Rattle.rp_base.specs.declared.limits.TheConstants.{IMAGE_MOST}
use Rattle.rp_base.specs.declared.kinds.CrashKind.{CrashKind}
use Rattle.rp_base.specs.declared.kinds.CrashKind.TheVariants as crash_kind
use Rattle.rp_base.specs.Limits.{ring_capacity}
use Rattle.rp_io.specs.declared.faults.NoImage.TheVariants as no_image
use Rattle.proc_state.specs.declared.answers.LifeFault.{LifeFault}
use Rattle.proc_state.specs.declared.answers.LifeFault.TheVariants as life
use Rattle.proc_state.specs.Lives.{is_offline, is_up}
use Rattle.elf_image.specs.declared.faults.ElfFault.{ElfFault}
use Rattle.elf_image.specs.declared.faults.ElfFault.TheVariants as elf_fault
use Rattle.elf_image.specs.Faults as elf
use Rattle.resource_table.specs.declared.faults.TableFault.{TableFault}
use Rattle.resource_table.specs.declared.faults.TableFault.TheVariants as table_fault
use Rattle.resource_table.specs.declared.entries.Entry.{Entry}
use Rattle.resource_table.specs.declared.entries.Entry.TheVariants as table_entry
use Rattle.resource_table.specs.declared.entries.Ring.{Ring}
use Rattle.resource_table.specs.declared.entries.Vdev.{Vdev}
use Rattle.resource_table.specs.Faults as table
use Rattle.resource_table.specs.Entries.{entries_of}
use Rattle.memory_pool.specs.declared.regions.Region.{Region}
use Rattle.memory_pool.specs.declared.faults.PlaceFault.{PlaceFault}
use Rattle.memory_pool.specs.declared.faults.PlaceFault.TheVariants as place_fault
use Rattle.memory_pool.specs.declared.faults.RegionFault.{RegionFault}
use Rattle.memory_pool.specs.declared.faults.RegionFault.TheVariants as region_fault
use Rattle.memory_pool.specs.declared.TheConstants.{REGIONS_MOST}
use Rattle.memory_pool.specs.Faults.{place_fault_number, region_fault_number}
use Rattle.memory_pool.specs.Regions.{memory_len, region_fault}
use Rattle.memory_pool.specs.Soundness.{SoundRegions}
use Rattle.fw_load.specs.declared.faults.LoadFault.{LoadFault}
use Rattle.fw_load.specs.declared.faults.LoadFault.TheVariants as load
use Rattle.fw_load.specs.declared.rings.RingPair.{RingPair}
use Rattle.fw_load.specs.declared.traces.TraceAt.{TraceAt}
use Rattle.fw_load.specs.Memory.{memory_at}
use Rattle.fw_load.specs.Faults.{load_fault_index, load_fault_number}
use Rattle.fw_load.specs.Rings.{IsSoundPair}
use Rattle.remote_code.specs.declared.faults.WorkerFault.{WorkerFault}
use Rattle.remote_code.specs.declared.faults.WorkerFault.TheVariants as worker_fault
use Rattle.remote_code.specs.Faults as worker
use Rattle.lane_model.specs.declared.calls.CallEnd.{CallEnd}
use Rattle.lane_laws.specs.SoundRingLinks.{HasSoundRings}
use Rattle.journal.specs.declared.events.Event.{Event}
use Rattle.journal.specs.declared.events.Event.TheVariants as event
use Rattle.journal.specs.declared.tables.TableLine.{TableLine}
use Rattle.journal.specs.declared.tables.TableLine.TheVariants as entry
use Rattle.journal.specs.TableLines.{table_words}
use Rattle.image_report.specs.TableRows.{table_rows, device_rows, entry_rows, is_available, ring_row, rows_from, trace_row, traces_behind}
use Rattle.link_bench.specs.declared.acts.LinkAct.{LinkAct}
use Rattle.link_bench.specs.Acts.{IsFitAct}
use Rattle.link_bench.specs.Benches.{BenchState, link_in}
use Rattle.link_bench.specs.BenchRings.{lane_base, lane_words, turn_holder}
use Rattle.core_actors.specs.declared.progress.DriveOutcome.{DriveOutcome}
use Rattle.core_actors.specs.declared.progress.DriveOutcome.TheVariants as driven
use Rattle.core_actors.specs.ActorEnds.{actors_after_end}
use Rattle.crash_recover.specs.declared.core_answers.Crash.{Crash}
use Rattle.crash_recover.specs.declared.core_answers.Crash.TheVariants as crash
use Rattle.crash_recover.specs.declared.core_answers.Leave.{Leave}
use Rattle.crash_recover.specs.declared.core_answers.Leave.TheVariants as leave
use Rattle.crash_recover.specs.declared.core_answers.Start.{Start}
use Rattle.crash_recover.specs.declared.core_answers.Start.TheVariants as start
use Rattle.crash_recover.specs.declared.core_faults.AddFault.{AddFault}
use Rattle.crash_recover.specs.declared.core_faults.AddFault.TheVariants as add
use Rattle.crash_recover.specs.declared.core_faults.LeaveFault.{LeaveFault}
use Rattle.crash_recover.specs.declared.core_faults.LeaveFault.TheVariants as leave_fault
use Rattle.crash_recover.specs.declared.core_faults.StartFault.{StartFault}
use Rattle.crash_recover.specs.declared.core_faults.StartFault.TheVariants as start_fault
use Rattle.crash_recover.specs.declared.core_faults.TheConstants.{RINGS_CHANGED}
use Rattle.crash_recover.specs.CoreActs.{act_on_core}
use Rattle.crash_recover.specs.CoreBoots.{boot_of, handover_of}
use Rattle.crash_recover.specs.CoreCrashes.{report_of}
use Rattle.crash_recover.specs.CoreLeaves.{detach_of, shutdown_of}
use Rattle.crash_recover.specs.CoreRecoveries.{recovery_of}
use Rattle.crash_recover.specs.CoreRings.{core_ring, pair_bytes, ring_of_lane}
use Rattle.crash_recover.specs.Cores.{CoreState, LoadState, add_fault, bytes_at, core_memory, core_trace, loaded_rings}
use Rattle.crash_recover.specs.Drives.{drive_step}
use Rattle.core_laws.specs.BenchMoves.{IsReachedBench, IsReachedCore}
use Rattle.core_laws.proofs.CoreActs.{acted_reached}
use Rattle.core_laws.proofs.CrashReclaims.{reached_sound}
use Rattle.link_commands.specs.declared.acts.LinkView.{LinkView}
use Rattle.link_commands.specs.declared.acts.LinkView.TheVariants as view
use Rattle.link_commands.specs.declared.acts.NamedAct.{NamedAct}
use Rattle.link_commands.specs.declared.acts.CoreView.{CoreView}
use Rattle.link_commands.specs.declared.acts.CoreView.TheVariants as shows
use Rattle.link_commands.specs.declared.acts.StartAct.{StartAct}
use Rattle.link_commands.specs.declared.acts.StartAct.TheVariants as starts
use Rattle.link_commands.specs.Acts.{IsFitView}
use Rattle.link_commands.specs.CallEvents.{end_event}
use Rattle.command_run.specs.CoreCommands.{add_fault_events, core_effect}
use Rattle.command_run.specs.CoreDrives.{actor_end_events, drive_effect, driven_events, step_events}
use Rattle.command_run.specs.CoreEffects.{CoreEffect, core_tells}
use Rattle.crash_recover.specs.CoreCallers.{core_turn_holder}
use Rattle.command_run.specs.CoreLinks.{core_link_effect, core_ring_events, found_ring_events, found_view_events, link_view_events, shown_ring_events}
use Rattle.command_run.specs.CoreLives.{booted_image, crash_events, fault_at, found_image, leave_events, leave_fault_event, life_fault_event, load_fault_event, may_step, report_events, start_event, start_events, start_effect, start_fault_events, start_name, start_with, image_or, image_bytes}
use Rattle.command_run.specs.CoreViews.{core_view_events, loaded_table_events, memory_event, shown_memory_event, shown_trace_event, state_event, table_event, table_events, trace_bytes, trace_event}
use Rattle.command_run.specs.NamedCores.{NamedCoreState}
use Rattle.command_run.specs.NamedImages.{ImageState}
use Rattle.run_laws.proofs.CoreActWalks.{ActOutcome, AddsDriver, AddsRegion, Crashes, Detaches, Drives, Exists, HasNoManager, LinkActs, RefusesDriver, RefusesRegion, ShowsCore, ShowsLink, ShutsDown, Starts, Switches, act_outcome}
use Rattle.run_laws.proofs.CoresReady.{IsSoundCore, may_drive, sound_cores}
use Rattle.run_laws.proofs.RunnableLines.{IsRunnableCoreView}
use Rattle.run_laws.proofs.ScriptDrives.{drive_keeps, drive_tells, last_is}
use Rattle.way_laws.proofs.CoreRungs.{IsRung, IsRungCore}
use Rattle.field_laws.specs.Fields.{AreBytes, IsFieldEnd}
use Rattle.field_laws.specs.FieldBenches.{IsFieldAct, IsFieldBench}
use Rattle.field_laws.specs.FieldCores.{IsFieldCore, IsFieldCrash, IsFieldDriven, IsFieldLeave, IsFieldLeaveFault, IsFieldLoad, IsFieldPlaced, IsFieldStart, IsFieldStartFault}
use Rattle.field_laws.specs.FieldTables.{IsFieldDevice, IsFieldEntry, IsFieldRing}
use Rattle.field_laws.proofs.Rooms.{range_in, slice_some}
use Rattle.field_laws.proofs.Bytes.{range_bytes, text_bytes}
use Rattle.field_laws.proofs.Cores.{IsFieldResult, boot_fields, detach_fields, handover_fields, recovery_fields, report_fields, shutdown_fields}
use Rattle.field_laws.proofs.DumpSizes.{loaded_short}
use Rattle.field_laws.proofs.Drives.{HoldsDrive, core_act_fields, drive_fields}
use Rattle.field_laws.proofs.Images.{memory_bytes}
use Rattle.field_laws.proofs.Rings.{ring_are}
use Rattle.field_laws.proofs.Sides.{find_has}
use Rattle.field_laws.proofs.Tables.{entries_few, entries_fields}
use Rattle.line_laws.proofs.KnownWords.{IsKnownAct}
use Rattle.line_laws.proofs.SaidScripts.{IsSaidStart}
use Rattle.line_laws.proofs.RingLengths.{pair_few}
use Rattle.line_laws.proofs.SpelledLines.{AreSpelled, IsName, IsSpelled, none, one, two}
use Rattle.line_laws.proofs.SpelledCalls.{answer_spelled, end_spelled, reopen_told, ring_spelled, turn_small, view_spelled}

-- what is done on a core leaves its numbers and bytes within their types, and tells spelled events
pub record LeavesSpelled (effect : CoreEffect) : Type 0 where
  pub left : IsFieldCore effect.core
  pub events : All IsSpelled effect.events

-- ---- memory

-- bytes of memory that are shown are some
place_some : (regions : List Region) (load : LoadState) (da len : ℕ) (place : Option ℕ) → memory_at regions load.placed da len ≡ place → 1 ≤ len → memory_len regions ≤ length load.memory
    → IfSome (bytes_at load.memory len place) (λ bytes. 1 ≤ length bytes)
place_some regions load da len None is some room = tt
place_some regions load da len (Some at) is some room =
    let inside = range_in regions load.placed da len at is in slice_some load.memory at len some (omega (arith, inside, room))

loaded_some : (regions : List Region) (da len : ℕ) (found : Option LoadState) → 1 ≤ len → IfSome found (IsFieldPlaced regions)
    → IfSome (option_and_then (λ (load : LoadState). bytes_at load.memory len (memory_at regions load.placed da len)) found) (λ bytes. 1 ≤ length bytes)
loaded_some regions da len None some placed = tt
loaded_some regions da len (Some load) some placed = place_some regions load da len (memory_at regions load.placed da len) refl some placed.memory

place_bytes : (memory : List ℕ) (len : ℕ) (place : Option ℕ) → AreBytes memory → IfSome (bytes_at memory len place) AreBytes
place_bytes memory len None are = tt
place_bytes memory len (Some at) are = range_bytes memory at (at + len) are

trace_at : (load : LoadState) (found : Option TraceAt) → AreBytes load.memory → IfSome (option_and_then (λ (trace : TraceAt). bytes_at load.memory trace.len trace.at) found) AreBytes
trace_at load None are = tt
trace_at load (Some trace) are = place_bytes load.memory trace.len trace.at are

traced_at : (index : ℕ) (found : Option LoadState) → IfSome found IsFieldLoad
    → IfSome (option_and_then (λ (load : LoadState). option_and_then (λ (trace : TraceAt). bytes_at load.memory trace.len trace.at) (slice_get load.traces index)) found) AreBytes
traced_at index None is = tt
traced_at index (Some load) is = trace_at load (slice_get load.traces index) is.memory

traced : (core : CoreState) (index : ℕ) → IfSome core.loaded IsFieldLoad → IfSome (trace_bytes core index) AreBytes
traced core index is = cond_both (nat_lt index 65536) (core_trace core index) None (λ (found : Option (List ℕ)). IfSome found AreBytes) (λ _. traced_at index core.loaded is) (λ _. tt)

-- ---- the numbers of faults

region_number : (why : RegionFault) → unwrap_or (region_fault_number why) 0 < 2 ^ 64
region_number region_fault.RegionOverlap = omega arith
region_number region_fault.RegionRange = omega arith
region_number region_fault.RegionsFull = omega arith
region_number region_fault.NoMemory = omega arith

elf_number : (why : ElfFault) → elf.fault_number why < 2 ^ 64
elf_number elf_fault.Short = omega arith
elf_number elf_fault.Magic = omega arith
elf_number elf_fault.Class = omega arith
elf_number elf_fault.Order = omega arith
elf_number elf_fault.EntrySize = omega arith
elf_number elf_fault.NoSegments = omega arith
elf_number elf_fault.HeadersPastEnd = omega arith
elf_number (elf_fault.SegmentPastEnd index) = omega arith
elf_number (elf_fault.FileOverMemory index) = omega arith
elf_number elf_fault.SectionsPastEnd = omega arith
elf_number elf_fault.NamesMissing = omega arith
elf_number elf_fault.Numbering = omega arith
elf_number (elf_fault.WideAddress index) = omega arith
elf_number elf_fault.WideEntry = omega arith

table_number : (why : TableFault) → table.fault_number why < 2 ^ 64
table_number table_fault.TableShort = omega arith
table_number table_fault.Version = omega arith
table_number table_fault.Reserved = omega arith
table_number table_fault.Offsets = omega arith
table_number (table_fault.EntryShort index) = omega arith
table_number (table_fault.EntryReserved index) = omega arith
table_number (table_fault.RingCount index) = omega arith
table_number (table_fault.RingSize index) = omega arith
table_number (table_fault.RingAlign index) = omega arith
table_number (table_fault.SecondRpmsg index) = omega arith

place_number : (why : PlaceFault) → unwrap_or (place_fault_number why) 0 < 2 ^ 64
place_number (place_fault.FixedOutside index) = omega arith
place_number (place_fault.FixedOverlap index) = omega arith
place_number (place_fault.NoRoom index) = omega arith
place_number (place_fault.WindowOverlap index) = omega arith
place_number (place_fault.WindowPastEnd index) = omega arith
place_number place_fault.NoMemory = omega arith

load_number : (why : LoadFault) → unwrap_or (load_fault_number why) 0 < 2 ^ 64
load_number (load.Elf refused) = elf_number refused
load_number (load.Table refused) = table_number refused
load_number (load.Place refused) = place_number refused
load_number (load.SegmentUnmapped index) = omega arith
load_number load.EntryUnmapped = omega arith
load_number load.NoMemory = omega arith

worker_number : (why : WorkerFault) → worker.fault_number why < 2 ^ 64
worker_number worker_fault.UnknownOp = omega arith
worker_number worker_fault.CodeUnmapped = omega arith
worker_number worker_fault.BadOperand = omega arith
worker_number worker_fault.NoLink = omega arith

-- regions that one more is added to are few
room_at : (regions : List Region) (full : Bool) (later : Option RegionFault) → leb REGIONS_MOST (length regions) ≡ full → option_or (cond full (Some region_fault.RegionsFull) None) later ≡ None
    → length regions < 2 ^ 64
room_at regions true later is clear = absurd (true≢false (ap is_some clear))
room_at regions false later is clear = let few = leb-false REGIONS_MOST (length regions) is in omega (arith, few)

unadded : (offline : Bool) (found : Option RegionFault) → cond offline (option_map add.Region found) (Some add.NotOffline) ≡ None → found ≡ None
unadded false found clear = absurd (true≢false (ap is_some clear))
unadded true None clear = refl
unadded true (Some why) clear = absurd (true≢false (ap is_some clear))

offline_then : (offline : Bool) (found : Option RegionFault) → cond offline (option_map add.Region found) (Some add.NotOffline) ≡ None → offline ≡ true
offline_then false found clear = absurd (true≢false (ap is_some clear))
offline_then true found clear = refl

regions_small : (core : CoreState) (region : Region) → add_fault core region ≡ None → length core.regions < 2 ^ 64
regions_small core region clear =
    room_at core.regions (leb REGIONS_MOST (length core.regions)) _ refl (unadded (is_offline core.life.state) (region_fault core.regions region) clear)

-- ---- images

-- the images that a script made are bytes
abbrev pub AreBytesImages : List ImageState → Type 0
AreBytesImages images = All (λ (image : ImageState). AreBytes image.bytes) images

bytes_found : (found : Option ImageState) → IfSome found (λ (image : ImageState). AreBytes image.bytes) → IfSome (option_map (λ (image : ImageState). image.bytes) found) AreBytes
bytes_found None is = tt
bytes_found (Some image) is = is

or_told : (answer : ImageAnswer) (found : Option (List ℕ)) → IfSome found AreBytes → IfOk answer AreBytes → IfOk (image_or answer found) AreBytes
or_told answer None are told = told
or_told answer (Some bytes) are told =
    cond_both (nat_le (length bytes) IMAGE_MOST) (Ok bytes) (Err (no_image.TooLarge (length bytes))) (λ (found : ImageAnswer). IfOk found AreBytes) (λ _. are) (λ _. tt)

found_are : (images : List ImageState) (answer : ImageAnswer) (image : List ℕ) → AreBytesImages images → IfOk answer AreBytes → IfOk (found_image images answer image) AreBytes
found_are images answer image are told =
    or_told answer (image_bytes images image)
    (bytes_found (find (λ (one : ImageState). bytes_eq one.name image) images) (find_has (λ (one : ImageState). AreBytes one.bytes) (λ (one : ImageState). bytes_eq one.name image) images are)) told

-- ---- tables

row_words : (name : List ℕ) → IsName name → (row : TableLine) → AreSpelled (table_words row) → IsSpelled (table_event name row)
row_words name named (entry.Carveout i da pa len label) is = ((named, is), tt)
row_words name named (entry.Devmem i da pa len label) is = ((named, is), tt)
row_words name named (entry.Trace i da len label) is = ((named, is), tt)
row_words name named (entry.TraceUnavailable i da len label) is = ((named, is), tt)
row_words name named (entry.Skipped i kind) is = ((named, is), tt)
row_words name named (entry.Vdev i id features status) is = ((named, is), tt)
row_words name named (entry.Vring i j da align num notify) is = ((named, is), tt)

abbrev IsRow : TableLine → Type 0
IsRow row = AreSpelled (table_words row)

one_row : (row : TableLine) → IsRow row → All IsRow (row ∷ [])
one_row row is = All-cons IsRow row [] is (All-nil IsRow)

ring_row_is : (index number : ℕ) (ring : Ring) → index < 2 ^ 64 → number < 2 ^ 64 → IsFieldRing ring → IsRow (ring_row index number ring)
ring_row_is index number ring small few is = ((small, few), (is.da, (is.align, (is.num, (is.notify, tt)))))

device_rows_are : (index : ℕ) (device : Vdev) → index < 2 ^ 64 → IsFieldDevice device → All IsRow (device_rows index device)
device_rows_are index device small is =
    let first = ring_row index 0 device.first in
    let second = ring_row index 1 device.second in
    All-cons IsRow (entry.Vdev index device.id device.guest device.status) (take device.count (first ∷ second ∷ [])) (small, (is.id, (is.guest, (is.status, tt))))
    (All-take IsRow device.count (first ∷ second ∷ [])
    (All-cons IsRow first (second ∷ []) (ring_row_is index 0 device.first small (omega arith) is.first) (one_row second (ring_row_is index 1 device.second small (omega arith) is.second))))

entry_rows_are : (index : ℕ) (first : Entry) (available : Bool) → index < 2 ^ 64 → IsFieldEntry first → All IsRow (entry_rows index first available)
entry_rows_are index (table_entry.Carveout da pa len label) available small is = one_row _ (small, (is.0, (is.1, (is.2, (is.3, tt)))))
entry_rows_are index (table_entry.Devmem da pa len label) available small is = one_row _ (small, (is.0, (is.1, (is.2, (is.3, tt)))))
entry_rows_are index (table_entry.Trace da len label) available small is =
    one_row (trace_row index da len label available)
    (cond_both available (entry.Trace index da len label) (entry.TraceUnavailable index da len label) IsRow (λ _. (small, (is.0, (is.1, (is.2, tt))))) (λ _. (small, (is.0, (is.1, (is.2, tt))))))
entry_rows_are index (table_entry.Device device) available small is = device_rows_are index device small is
entry_rows_are index (table_entry.Skipped kind) available small is = one_row _ (small, (is, tt))

rows_are : (index : ℕ) (entries : List Entry) (traces : List TraceAt) → index + length entries ≤ 2 ^ 32 → All IsFieldEntry entries → All IsRow (rows_from index entries traces)
unfolding rows_from
rows_are index [] traces few all = All-nil IsRow
rows_are index (first ∷ more) traces few all =
    All-append IsRow (entry_rows index first (is_available (slice_get traces 0))) (rows_from (index + 1) more (traces_behind first traces))
    (entry_rows_are index first (is_available (slice_get traces 0)) (omega (arith, few)) (All-head IsFieldEntry first more all))
    (rows_are (index + 1) more (traces_behind first traces) (omega (arith, few)) (All-tail IsFieldEntry first more all))

table_rows_are : (table : List ℕ) (traces : List TraceAt) → AreBytes table → All IsRow (table_rows table traces)
table_rows_are table traces are = let few = entries_few table are in rows_are 0 (entries_of table) traces (omega (arith, few)) (entries_fields table are)

-- bytes, and few
abbrev IsFewBytes : List ℕ → Type 0
IsFewBytes bytes = (length bytes ≤ 2 ^ 32) × AreBytes bytes

module _ (name : List ℕ) (named : IsName name) where
  told : (core : CoreState) (steps : ℕ) (first : Event) → IsFieldCore core → IsSpelled first → LeavesSpelled (core_tells core steps first)
  told core steps first is spelled = record { left = is; events = one first spelled }

  no_link : (core : CoreState) (steps : ℕ) → IsFieldCore core → LeavesSpelled (core_tells core steps (event.NoLink name))
  no_link core steps is = told core steps (event.NoLink name) is (((named, tt), tt))

  -- ---- the link of a core

  module _ (core : CoreState) (steps : ℕ) (is : IsFieldCore core) (rungs : IsRungCore core) where
    link_at : (asked : LinkAct (List ℕ)) (found : Option BenchState) → IsFitAct asked → IsFieldAct asked → IfSome found IsReachedBench → IfSome found IsFieldBench
        → LeavesSpelled (core_link_effect name core steps asked found)
    unfolding core_link_effect
    link_at asked None fits fields reached here = no_link core steps is
    link_at asked (Some bench) fits fields reached here =
        let acted = act_on_core core bench steps asked in
        let left = core_act_fields core bench steps asked fits fields reached here is in
        record {
          left = left.left;
          events = answer_spelled name named (link_in acted.bench) acted.answer (acted_reached actors_after_end 2 bench core.actors steps asked fits reached).link.short left.bench.link left.answer;
        }

    ring_at : (lane : ℕ) (found : Option (List ℕ)) → lane < 2 → IfSome found IsFewBytes → All IsSpelled (found_ring_events name lane found)
    ring_at lane None first are = one (event.NoLink name) (((named, tt), tt))
    ring_at lane (Some bytes) first are = ring_spelled name named lane bytes first are.0 are.1

    pair_are : (bench : BenchState) (lane : ℕ) (found : Option RingPair) → HasSoundRings bench.rings → IfSome found IsSoundPair → IfSome (option_map (pair_bytes bench.rings lane) found) IsFewBytes
    pair_are bench lane None sound fit = tt
    pair_are bench lane (Some rings) sound fit =
        (pair_few bench.rings lane rings sound fit, ring_are (ring_of_lane rings lane).align (lane_words bench.rings lane (lane_base rings.base (ring_capacity rings.to_host.num) lane)))

    ring_bytes : (lane : ℕ) (found : Option BenchState) → IfSome found IsRung → IfSome (option_and_then (λ (bench : BenchState). option_map (pair_bytes bench.rings lane) (loaded_rings core.loaded)) found) IsFewBytes
    ring_bytes lane None rung = tt
    ring_bytes lane (Some bench) rung = pair_are bench lane (loaded_rings core.loaded) rung rungs.load.rings

    shown_at : (lane : ℕ) (found : Option ℕ) → lane < 2 → IfSome found (λ caller. caller ≤ 64) → All IsSpelled (shown_ring_events name core lane found)
    shown_at lane None first small = ring_at lane (core_ring core lane) first (ring_bytes lane core.bench rungs.bench)
    shown_at lane (Some caller) first small = one (event.StillTurn name caller) (((named, (omega (arith, small), tt)), tt))

    core_turn : (found : Option BenchState) → IfSome found IsReachedBench → IfSome found IsFieldBench → IfSome (option_and_then (λ (bench : BenchState). turn_holder (link_in bench)) found) (λ caller. caller ≤ 64)
    core_turn None reached here = tt
    core_turn (Some bench) reached here = turn_small name named (link_in bench) (reached_sound (link_in bench) reached.link) here.link

    ring_shown : (lane : ℕ) → lane < 2 → IfSome core.bench IsReachedBench → All IsSpelled (core_ring_events name core lane)
    unfolding core_ring_events
    ring_shown lane first reached = shown_at lane (core_turn_holder core) first (core_turn core.bench reached is.bench)

    viewed_at : (shown : LinkView) (found : Option BenchState) → IsFitView shown → IfSome found IsRung → IfSome found IsReachedBench → IfSome found IsFieldBench → All IsSpelled (found_view_events name shown found)
    viewed_at shown None knows rung reached here = one (event.NoLink name) (((named, tt), tt))
    viewed_at shown (Some bench) knows rung reached here = view_spelled name named bench shown knows rung (reached_sound (link_in bench) reached.link) here.link

    view_shown : (shown : LinkView) → IsFitView shown → IfSome core.bench IsReachedBench → All IsSpelled (link_view_events name core shown)
    view_shown view.Books knows reached = viewed_at view.Books core.bench tt rungs.bench reached is.bench
    view_shown (view.Ring lane) knows reached = ring_shown lane (omega (arith, knows)) reached
    view_shown view.Channels knows reached = viewed_at view.Channels core.bench tt rungs.bench reached is.bench

  -- ---- what a core is made of

  add_told : (channel : List ℕ) (why : AddFault) → IsName channel → All IsSpelled (add_fault_events name channel why)
  add_told channel add.NotOffline called = one (event.NotOffline name) ((named, tt), tt)
  add_told channel (add.Region why) called = one (event.Fault name (unwrap_or (region_fault_number why) 0)) ((named, (region_number why, tt)), tt)
  add_told channel add.DriverTaken called = one (event.DriverTaken name channel) ((named, (called, tt)), tt)
  add_told channel add.DriversFull called = one (event.DriversFull name) ((named, tt), tt)
  add_told channel add.NoMemory called = none

  -- ---- what a core shows

  trace_told : (index : ℕ) (found : Option (List ℕ)) → index < 2 ^ 64 → IfSome found AreBytes → IsSpelled (shown_trace_event name index found)
  trace_told index None small are = ((named, (small, tt)), tt)
  trace_told index (Some bytes) small are = ((named, (small, (text_bytes bytes are, tt))), tt)

  memory_told : (da len : ℕ) (found : Option (List ℕ)) → da < 2 ^ 32 → len ≤ 256 → IfSome found (λ bytes. 1 ≤ length bytes) → IfSome found (λ bytes. length bytes ≤ len) → IfSome found AreBytes → IsSpelled (shown_memory_event name da len found)
  memory_told da len None small few some short are = ((named, (small, (omega (arith, few), tt))), tt)
  memory_told da len (Some bytes) small few some short are = ((named, (small, ((some, omega (arith, few, short), are), tt))), tt)

  module _ (core : CoreState) (is : IsFieldCore core) where
    table_at : (found : Option LoadState) → IfSome found IsFieldLoad → All IsSpelled (loaded_table_events name found)
    table_at None here = one (event.NotLoaded name) (((named, tt), tt))
    table_at (Some loaded) here =
        All-map IsSpelled (table_event name) (table_rows loaded.table loaded.traces)
        (λ at other within. row_words name named (slice_index_or (table_rows loaded.table loaded.traces) at other) (table_rows_are loaded.table loaded.traces here.table at other within))

    shown_spelled : (shown : CoreView) → IsRunnableCoreView shown → All IsSpelled (core_view_events name core shown)
    unfolding table_events trace_event memory_event
    shown_spelled shows.State knows =
        let users = is.life.users in
        let inc = is.life.incarnation in
        one (state_event name core) (((named, (tt, (omega (arith, users), (omega (arith, inc), tt)))), tt))
    shown_spelled shows.Table knows = table_at core.loaded is.loaded
    shown_spelled (shows.Trace index) knows = one _ (trace_told index (trace_bytes core index) (omega (arith, knows)) (traced core index is.loaded))
    shown_spelled (shows.Mem da len) knows =
        let small = knows.0 in
        one _ (memory_told da len (core_memory core da len) (omega (arith, small)) knows.1.1 (loaded_some core.regions da len core.loaded knows.1.0 is.placed) (loaded_short core.regions da len core.loaded) (memory_bytes core da len core.loaded is.loaded))

  -- ---- lives

  fault_told : (number : ℕ) (index : Option ℕ) → number < 2 ^ 64 → IfSome index (λ place. place < 2 ^ 64) → IsSpelled (fault_at name number index)
  fault_told number None small is = ((named, (small, tt)), tt)
  fault_told number (Some index) small is = ((named, (small, (is, tt))), tt)

  life_told : (why : LifeFault) → IsSpelled (life_fault_event name why)
  life_told life.IncarnationsSpent = ((named, tt), tt)
  life_told life.NotPowered = ((named, (omega arith, tt)), tt)
  life_told life.NotCrashed = ((named, (omega arith, tt)), tt)
  life_told life.RecoveryOff = ((named, (omega arith, tt)), tt)
  life_told life.UsersFull = ((named, (omega arith, tt)), tt)
  life_told life.NotOffline = ((named, (omega arith, tt)), tt)
  life_told life.NotAttached = ((named, (omega arith, tt)), tt)

  refused_told : (image : List ℕ) (why : StartFault) → IsName image → IsFieldStartFault why → All IsSpelled (start_fault_events name image why)
  refused_told image (start_fault.NoImage no_image.Missing) called is = one (event.Missing name image) (((named, (called, tt)), tt))
  refused_told image (start_fault.NoImage (no_image.TooLarge bytes)) called is = one (event.TooLarge name image) (((named, (called, tt)), tt))
  refused_told image (start_fault.Load why) called is = one (load_fault_event name why) (fault_told (unwrap_or (load_fault_number why) 0) (load_fault_index why) (load_number why) is)
  refused_told image (start_fault.Life why) called is = one (life_fault_event name why) (life_told why)
  refused_told image start_fault.RingsChanged called is = one (event.Fault name RINGS_CHANGED) (((named, (omega arith, tt)), tt))
  refused_told image (start_fault.Reopen why) called is = reopen_told name named why is

  stays_told : (why : LeaveFault) → IsFieldLeaveFault why → IsSpelled (leave_fault_event name why)
  stays_told (leave_fault.Life why) is = life_told why
  stays_told (leave_fault.CallerOut caller) is = ((named, (omega arith, (is, tt))), tt)

  start_told : (began : Start) → IsFieldStart began → IsSpelled (start_event name began)
  start_told (start.Running inc) is = ((named, (is, tt)), tt)
  start_told (start.Attached inc) is = ((named, (is, tt)), tt)
  start_told (start.Users users) is = ((named, (is, tt)), tt)
  start_told start.Detached is = ((named, tt), tt)

  starts_told : (image : List ℕ) (came : Result Start StartFault) → IsName image → IsFieldResult IsFieldStart IsFieldStartFault came → All IsSpelled (start_events name image came)
  starts_told image (Ok began) called is = one (start_event name began) (start_told began is)
  starts_told image (Err why) called is = refused_told image why called is

  leave_told : (last : Event) (came : Result Leave LeaveFault) → IsSpelled last → IsFieldResult IsFieldLeave IsFieldLeaveFault came → All IsSpelled (leave_events name last came)
  leave_told last (Ok (leave.Users users)) spelled is = one (event.Users name users) (((named, (is, tt)), tt))
  leave_told last (Ok (leave.Last None)) spelled is = one last spelled
  leave_told last (Ok (leave.Last (Some inc))) spelled is = two (event.Closed name inc) last (((named, (is, tt)), tt)) spelled
  leave_told last (Ok leave.Limit) spelled is = none
  leave_told last (Err why) spelled is = one (leave_fault_event name why) (stays_told why is)

  crash_told : (kind : CrashKind) → IsSpelled (event.Crashed name kind)
  crash_told crash_kind.Mmufault = ((named, tt), tt)
  crash_told crash_kind.Watchdog = ((named, tt), tt)
  crash_told crash_kind.Fatal = ((named, tt), tt)

  crashed_told : (kind : CrashKind) (closed : Option ℕ) → IfSome closed (λ inc. inc < 2 ^ 64) → All IsSpelled (crash_events name kind closed)
  crashed_told kind None is = one (event.Crashed name kind) (crash_told kind)
  crashed_told kind (Some inc) is = two (event.Closed name inc) (event.Crashed name kind) (((named, (is, tt)), tt)) (crash_told kind)

  report_told : (kind : CrashKind) (came : Result Crash LifeFault) → IfOk came IsFieldCrash → All IsSpelled (report_events name kind came)
  report_told kind (Ok (crash.First closed)) is = crashed_told kind closed is
  report_told kind (Ok crash.Already) is = one (event.AlreadyCrashed name) (((named, tt), tt))
  report_told kind (Ok crash.Limit) is = none
  report_told kind (Err why) is = one (life_fault_event name why) (life_told why)

  booted_named : (found : Option (List ℕ)) → IfSome found IsName → IsName (unwrap_or found name)
  booted_named None has = named
  booted_named (Some image) has = has

  module _ (core : CoreState) (is : IsFieldCore core) (sound : SoundRegions core.regions) (reached : IsReachedCore core) (images : List ImageState) (answer : ImageAnswer) (are : AreBytesImages images) (told_are : IfOk answer AreBytes) where
    start_spelled : (start : StartAct) (steps : ℕ) → IsSaidStart start
        → let image = start_name start (record { name = name; core = core }) in LeavesSpelled (start_effect name image steps (start_with start core (found_image images answer image)))
    start_spelled (starts.Boot image) steps called =
        let found = found_image images answer image in
        let out = boot_fields core image found called (found_are images answer image are told_are) sound is in
        record { left = out.core; events = starts_told image (boot_of core image found).answer called out.answer }
    start_spelled (starts.Handover image) steps called =
        let found = found_image images answer image in
        let out = handover_fields core image found called (found_are images answer image are told_are) sound is in
        record { left = out.core; events = starts_told image (handover_of core image found).answer called out.answer }
    start_spelled starts.Recover steps called =
        let image = booted_image name core in
        let found = found_image images answer image in
        let out = recovery_fields core found (found_are images answer image are told_are) sound reached is in
        record { left = out.core; events = starts_told image (recovery_of core found).answer (booted_named core.image is.image) out.answer }

  -- ---- drives

  ended_told : (caller : ℕ) (end : CallEnd) (found : Option BenchState) → caller < 2 ^ 64 → IsFieldEnd end → IfSome found IsReachedBench → IfSome found IsFieldBench
      → All IsSpelled (actor_end_events name caller end found)
  ended_told caller end None small of reached is = none
  ended_told caller end (Some bench) small of reached is =
      one (end_event name (link_in bench) caller end) (end_spelled name named (link_in bench) caller end small reached.link.short is.link of)

  driven_told : (is_quiet : Bool) (found : Option BenchState) (what : DriveOutcome) → IsFieldDriven what → IfSome found IsReachedBench → IfSome found IsFieldBench
      → All IsSpelled (driven_events name is_quiet found what)
  driven_told is_quiet found driven.Idle of reached is = none
  driven_told is_quiet found driven.Stepped of reached is = none
  driven_told is_quiet found (driven.Ended caller end) of reached is =
      cond_both is_quiet [] (actor_end_events name caller end found) (All IsSpelled) (λ _. none) (λ _. ended_told caller end found of.0 of.1 reached is)
  driven_told is_quiet found (driven.Worker why closed) of reached is =
      All-cons IsSpelled (event.WorkerFault name (worker.fault_number why)) (crash_events name crash_kind.Fatal closed) (((named, (worker_number why, tt)), tt)) (crashed_told crash_kind.Fatal closed of)
  driven_told is_quiet found (driven.Crashed kind closed) of reached is = crashed_told kind closed of

  -- a core that is sound, whose numbers and bytes are within their types
  abbrev IsHeld : CoreState → Type 0
  IsHeld core = IsSoundCore core × IsFieldCore core

  drive_spelled : (is_quiet : Bool) (core : CoreState) (steps count : ℕ) → IsSoundCore core → IsFieldCore core → LeavesSpelled (drive_effect name is_quiet core steps count)
  drive_spelled is_quiet core steps count sound is = record {
    left = (drive_keeps name is_quiet IsHeld stays core steps count (sound, is)).1;
    events = drive_tells name is_quiet IsHeld stays IsSpelled tells (λ core. last_is name IsSpelled core (((named, tt), tt)) (((named, tt), tt)) (((named, tt), tt))) (((named, tt), tt)) core steps count (sound, is);
  }
    where
      holds : (core : CoreState) → is_up core.life.state ≡ true → IsHeld core → HoldsDrive (drive_step core)
      holds core up held = drive_fields core (may_drive core up held.0) held.0.reached held.1

      stays : (core : CoreState) → is_up core.life.state ≡ true → IsHeld core → IsHeld (drive_step core).core
      stays core up held = (sound_cores.drive core up held.0, (holds core up held).core)

      tells : (core : CoreState) → is_up core.life.state ≡ true → IsHeld core → All IsSpelled (step_events name is_quiet (drive_step core))
      tells core up held =
          let step = drive_step core in
          let left = holds core up held in
          driven_told is_quiet step.core.bench step.driven left.driven (sound_cores.drive core up held.0).reached.bench left.core.bench

-- ---- what is done under the name of a core

module _ (images : List ImageState) (answer : ImageAnswer) (is_quiet : Bool) (on : NamedCoreState) (steps : ℕ) (named : IsName on.name) (are : AreBytesImages images) (told_are : IfOk answer AreBytes)
    (sound : IsSoundCore on.core) (is : IsFieldCore on.core) (rungs : IsRungCore on.core) where
  -- whatever the outcome of an act is
  outcome_spelled : {wanted : NamedAct (List ℕ)} {effect : CoreEffect} → ActOutcome images answer is_quiet on steps wanted effect → IsKnownAct wanted → LeavesSpelled effect
  outcome_spelled (Exists made) knows = told on.name named on.core steps (event.Exists on.name) is (((named, tt), tt))
  outcome_spelled (HasNoManager managed) knows = told on.name named on.core steps (event.Unknown on.name) is (((named, tt), tt))
  outcome_spelled (ShowsLink shown) knows = record { left = is; events = view_shown on.name named on.core steps is rungs shown knows sound.reached.bench }
  outcome_spelled (ShowsCore shown) knows = record { left = is; events = shown_spelled on.name named on.core is shown knows }
  outcome_spelled (LinkActs asked) knows = link_at on.name named on.core steps is rungs asked on.core.bench knows.0 knows.1 sound.reached.bench is.bench
  outcome_spelled (AddsRegion region clear) knows = record {
    left = record {
      book = is.book;
      life = is.life;
      image = is.image;
      loaded = is.loaded;
      placed = subst (λ (loaded : Option LoadState). IfSome loaded (IsFieldPlaced (on.core.regions ++ region ∷ [])))
          (sym (is.rest (offline_then (is_offline on.core.life.state) (region_fault on.core.regions region) clear))) tt;
      rest = is.rest;
      bench = is.bench;
      calls = is.calls;
    };
    events = one (event.Region on.name (length on.core.regions)) (((named, (regions_small on.core region clear, tt)), tt));
  }
  outcome_spelled (RefusesRegion region why) knows = record { left = is; events = add_told on.name named on.name why named }
  outcome_spelled (AddsDriver channel kind) knows = record {
    left = record { book = is.book; life = is.life; image = is.image; loaded = is.loaded; placed = is.placed; rest = is.rest; bench = is.bench; calls = record { host = is.calls.host; worker = is.calls.worker } };
    events = one (event.Driver on.name channel kind) (((named, (knows, (tt, tt))), tt));
  }
  outcome_spelled (RefusesDriver channel kind why) knows = record { left = is; events = add_told on.name named channel why knows }
  outcome_spelled (Starts start) knows = start_spelled on.name named on.core is rungs.load.regions sound.reached images answer are told_are start steps knows
  outcome_spelled ShutsDown knows =
      let out = shutdown_fields (may_step steps) on.core is in
      record { left = out.core; events = leave_told on.name named (event.Offline on.name) (shutdown_of (may_step steps) on.core).answer (((named, tt), tt)) out.answer }
  outcome_spelled Detaches knows =
      let out = detach_fields (may_step steps) on.core is in
      record { left = out.core; events = leave_told on.name named (event.Detached on.name) (detach_of (may_step steps) on.core).answer (((named, tt), tt)) out.answer }
  outcome_spelled (Crashes kind) knows =
      let out = report_fields (may_step steps) on.core is in
      record { left = out.core; events = report_told on.name named kind (report_of (may_step steps) on.core).answer out.answer }
  outcome_spelled (Drives count) knows = drive_spelled on.name named is_quiet on.core steps count sound is
  outcome_spelled (Switches set) knows = record {
    left = record { book = is.book; life = record { users = is.life.users; incarnation = is.life.incarnation }; image = is.image; loaded = is.loaded; placed = is.placed; rest = is.rest; bench = is.bench; calls = is.calls };
    events = one (event.Recovery on.name set) (((named, (tt, tt)), tt));
  }

  pub core_spelled : (wanted : NamedAct (List ℕ)) → IsKnownAct wanted → LeavesSpelled (core_effect images answer is_quiet on steps wanted)
  core_spelled wanted knows = outcome_spelled (act_outcome images answer is_quiet on steps wanted) knows
