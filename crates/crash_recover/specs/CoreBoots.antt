-- What a boot and a handover of a core answer and leave (`rproc_boot`, `rproc_fw_boot` and `rproc_attach` of Linux remoteproc_core.c; the handover, the faults and their order are own).
use Rattle.std.specs.Prelude.{◌≡◌, ℕ, Bool, true, false, ◌&&◌, List, [], Option, Some, option_map, unwrap_or, Result, Ok, Err, OnErr, if◌then◌else◌}
use Rattle.std.specs.Result.{is_ok, result_map_both, result_ok}
use Rattle.rp_base.specs.declared.kinds.End.TheVariants as side
use Rattle.rp_io.specs.Images.{ImageAnswer}
use Rattle.rp_io.specs.declared.faults.FetchFault.TheVariants as fetch
use Rattle.rp_io.specs.declared.faults.NoImage.TheVariants as no_image
use Rattle.rp_io.specs.declared.faults.StoreFault.{StoreFault}
use Rattle.rp_io.specs.declared.faults.StoreFault.TheVariants as store_fault
use Rattle.elf_image.specs.Images.{entry_of}
use Rattle.memory_pool.specs.Placements.{placement}
use Rattle.memory_pool.specs.declared.blocks.Block.{Block}
use Rattle.memory_pool.specs.declared.regions.Region.{Region}
use Rattle.fw_load.specs.Loading.{load_fault}
use Rattle.fw_load.specs.Memory.{memory_at, memory_of}
use Rattle.fw_load.specs.Rings.{pair_from, traces_of}
use Rattle.resource_table.specs.Entries.{entries_of}
use Rattle.fw_load.specs.Tables.{entries_in, patched_in, table_of}
use Rattle.fw_load.specs.declared.rings.RingPair.{RingPair}
use Rattle.proc_state.specs.Lives.{CoreLife, is_offline, life_after_boot, life_after_handover}
use Rattle.proc_state.specs.declared.answers.LifeFault.{LifeFault}
use Rattle.proc_state.specs.declared.answers.Power.{Power}
use Rattle.proc_state.specs.declared.answers.Power.TheVariants as power
use Rattle.endpoint_map.specs.Bindings.{no_bindings}
use Rattle.channel_bus.specs.Sides.{EndState}
use Rattle.lane_model.specs.declared.calls.LinkConfig.{LinkConfig}
use Rattle.crash_recover.specs.declared.core_answers.Boot.{Boot}
use Rattle.crash_recover.specs.declared.core_answers.Boot.TheVariants as boot
use Rattle.crash_recover.specs.declared.core_answers.Start.{Start}
use Rattle.crash_recover.specs.declared.core_answers.Start.TheVariants as start
use Rattle.crash_recover.specs.declared.core_faults.CoreFault.{CoreFault}
use Rattle.crash_recover.specs.declared.core_faults.CoreFault.TheVariants as fault
use Rattle.crash_recover.specs.declared.core_faults.StartFault.{StartFault}
use Rattle.crash_recover.specs.declared.core_faults.StartFault.TheVariants as start_fault
use Rattle.link_bench.specs.Benches.{BenchState, new_bench_of, with_new_caller}
use Rattle.core_actors.specs.Actors.{driver_names, fresh_actors}
use Rattle.crash_recover.specs.Cores.{CoreOutcome, CoreState, LoadState, loaded_rings, refuse_or}

-- why a store says nothing of an image, as a call that asks it answers that (own)
abbrev pub core_fault_of_store : StoreFault → CoreFault
core_fault_of_store store_fault.Failed = fault.Fetch fetch.Failed
core_fault_of_store store_fault.NoMemory = fault.NoMemory

-- a refusal of a start, as a call that asks a store answers it (own)
abbrev pub core_fault_of_start : StartFault → CoreFault
core_fault_of_start (start_fault.NoImage no_image.Missing) = fault.Fetch fetch.Missing
core_fault_of_start (start_fault.NoImage (no_image.TooLarge bytes)) = fault.Fetch (fetch.TooLarge bytes)
core_fault_of_start (start_fault.Load why) = fault.Load why
core_fault_of_start (start_fault.Life why) = fault.Life why
core_fault_of_start start_fault.RingsChanged = fault.RingsChanged
core_fault_of_start (start_fault.Reopen why) = fault.Reopen why

-- what an image becomes, by where its table's entries are placed
abbrev pub load_over : List ℕ → List Region → List Block → LoadState
load_over image regions placed =
    let table = patched_in (table_of image) placed in
    record {
      memory = memory_of image regions placed;
      placed = placed;
      table = table;
      entry = entry_of image;
      rings = pair_from placed 0 (entries_of table);
      traces = traces_of (memory_at regions placed) (entries_of table);
    }

-- what an image that may be loaded becomes
unfoldable pub load_of : List ℕ → List Region → LoadState
load_of image regions = load_over image regions (unwrap_or (result_ok (placement regions (entries_in (table_of image)))) [])

-- an end of a link without an endpoint or a channel, which may have the name service, with drivers of these names
abbrev pub fresh_end : Bool → List (List ℕ) → EndState
fresh_end has_service names = record { has_service = has_service; drivers = names; bindings = no_bindings; channels = [] }

-- what the link of a core is made of: the rings of its device, the size of its books, and its incarnation; the addresses of its buffers are those of the load, and the link keeps none
abbrev pub config_of : RingPair → ℕ → ℕ → LinkConfig
config_of rings book first = record { num0 = rings.to_host.num; num1 = rings.to_remote.num; book = book; first = first; base = 0 }

-- the link of a core: the host end has the core's drivers, and the name service where the device has it; caller 0 is at the host end, and caller 1 at the remote end
unfoldable pub core_bench : List (List ℕ) → ℕ → ℕ → RingPair → BenchState
core_bench names book first rings =
    with_new_caller (with_new_caller (new_bench_of (config_of rings book first) (fresh_end rings.service names) (fresh_end false [])) side.Host (Some 0)) side.Remote (Some 1)

-- ---- images

-- why an image is not loaded into a core: there is none, or it may not be loaded
abbrev pub image_fault : CoreState → ImageAnswer → Option StartFault
image_fault core (Ok image) = option_map start_fault.Load (load_fault image core.regions)
image_fault core (Err why) = Some (start_fault.NoImage why)

-- what an image that was found becomes in a core
abbrev pub load_in : CoreState → ImageAnswer → LoadState
load_in core (Ok image) = load_of image core.regions
load_in core (Err why) = load_of [] core.regions

-- the core with an image of this name loaded
abbrev pub with_load : CoreState → List ℕ → LoadState → CoreState
with_load core name given = record core { image = Some name; loaded = Some given }

-- ---- boots

-- where the first record is of what was loaded
abbrev pub loaded_entry : Option LoadState → ℕ
loaded_entry loaded = unwrap_or (option_map (λ (given : LoadState). given.entry) loaded) 0

-- the core started in this life, over what it has loaded: its memory is as it was
abbrev pub started_core : CoreLife → CoreState → CoreState
started_core life core = record core {
  life = life;
  bench = option_map (core_bench (driver_names core.actors) core.book life.incarnation) (loaded_rings core.loaded);
  actors = fresh_actors core.actors (loaded_entry core.loaded);
}

-- whether a boot needs an image: the core is offline, and its life may be booted
abbrev pub needs_image : CoreState → Bool
needs_image core = is_offline core.life.state && is_ok (life_after_boot core.life).answer

-- the first user of a core starts it in this life: an offline core loads an image, and a detached one is attached as it is
abbrev pub first_boot : CoreLife → CoreState → List ℕ → ImageAnswer → CoreOutcome Start StartFault
first_boot life core name found =
    if is_offline core.life.state then refuse_or core (image_fault core found) (record {
      core = started_core life (with_load core name (load_in core found));
      answer = Ok (start.Running life.incarnation);
    })
    else record { core = started_core life core; answer = Ok (start.Attached life.incarnation) }

-- a boot that leaves this life, by what the life answers
abbrev pub boot_as : CoreLife → Result Power LifeFault → CoreState → List ℕ → ImageAnswer → CoreOutcome Start StartFault
boot_as life (Err why) core name found = record { core = core; answer = Err (start_fault.Life why) }
boot_as life (Ok (power.Counted users)) core name found = record { core = record core { life = life }; answer = Ok (start.Users users) }
boot_as life (Ok power.First) core name found = first_boot life core name found

-- a boot with an image that was found under this name, or wasn't
unfoldable pub boot_of : CoreState → List ℕ → ImageAnswer → CoreOutcome Start StartFault
boot_of core name found = boot_as (life_after_boot core.life).life (life_after_boot core.life).answer core name found

-- a boot that goes as far as it can without an image: it is done, or refused and the core as it was, whatever image would be found, or it needs one, with which the core comes to its next life (own)
abbrev pub BeginsBoot : CoreState → CoreState → Boot → Type 0
BeginsBoot core left (boot.Done answer) =
    (needs_image core ≡ false) × OnErr answer (left ≡ core) × ((name : List ℕ) (found : ImageAnswer) → boot_of core name found ≡ record { core = left; answer = answer })
BeginsBoot core left (boot.NeedsImage life) = (needs_image core ≡ true) × (life ≡ (life_after_boot core.life).life) × (left ≡ core)

-- ---- handovers

-- a handover that leaves this life, by what the life answers: the other party has loaded the image
abbrev pub handover_as : CoreLife → Result (Unit {0}) LifeFault → CoreState → List ℕ → ImageAnswer → CoreOutcome Start StartFault
handover_as life (Err why) core name found = record { core = core; answer = Err (start_fault.Life why) }
handover_as life (Ok done) core name found = refuse_or core (image_fault core found) (record {
  core = record (with_load core name (load_in core found)) { life = life };
  answer = Ok start.Detached;
})

-- a handover with an image that was found under this name, or wasn't
unfoldable pub handover_of : CoreState → List ℕ → ImageAnswer → CoreOutcome Start StartFault
handover_of core name found = handover_as (life_after_handover core.life).life (life_after_handover core.life).answer core name found

-- ---- calls that ask a store

-- a call of a core did what this does with what a store has (own)
pub record DidWith {A : Type 0} (IsHad : ImageAnswer → Type 0) (does : ImageAnswer → CoreOutcome A CoreFault) (left : CoreState) (answer : Result A CoreFault) : Type 0 where
  pub found : ImageAnswer
  pub had : IsHad found
  pub core : left ≡ (does found).core
  pub answers : answer ≡ (does found).answer

-- the answer of a boot in short: whether it started the core (own)
abbrev pub power_of : Start → Power
power_of (start.Users users) = power.Counted users
power_of (start.Running inc) = power.First
power_of (start.Attached inc) = power.First
power_of start.Detached = power.First

-- the same outcome, answered in short (own)
abbrev pub in_short : {A B E G : Type 0} → (A → B) → (E → G) → CoreOutcome A E → CoreOutcome B G
in_short short why outcome = record { core = outcome.core; answer = result_map_both short why outcome.answer }

-- an answer of which no more is given than that there is one (own)
abbrev pub as_unit : {A : Type 0} → A → Unit {0}
as_unit answer = tt
