-- A remote core: its regions, its life, and what a boot gave it (the calls and states of the Linux remoteproc documentation; the rest is own).
use Rattle.std.specs.Prelude.{◌≡◌, ℕ, ◌+◌, ◌≤◌, true, not, is_some, List, length, All, slice_get, slice_range, Option, Some, None, IfSome, option_map, option_and_then, Result, Err, if◌then◌else◌}
use Rattle.rp_base.specs.declared.limits.TheConstants.{BOOK_MOST}
use Rattle.memory_pool.specs.Regions.{region_fault}
use Rattle.memory_pool.specs.Soundness.{SoundPlacement}
use Rattle.memory_pool.specs.declared.blocks.Block.{Block}
use Rattle.memory_pool.specs.declared.regions.Region.{Region}
use Rattle.memory_pool.specs.declared.faults.RegionFault.{RegionFault}
use Rattle.memory_pool.specs.declared.faults.RegionFault.TheVariants as region
use Rattle.addr_translate.specs.Maps.{IsMapOf}
use Rattle.fw_load.specs.Memory.{memory_at}
use Rattle.fw_load.specs.Rings.{HasBuffers, IsSoundPair, IsTraceIn}
use Rattle.fw_load.specs.declared.loading.Loaded.{Loaded}
use Rattle.fw_load.specs.declared.rings.RingPair.{RingPair}
use Rattle.fw_load.specs.declared.traces.TraceAt.{TraceAt}
use Rattle.proc_state.specs.Lives.{CoreLife, is_offline, new_life}
use Rattle.host_driver.specs.Drivers.{Declared, driver_fault}
use Rattle.host_driver.specs.declared.drivers.DriverFault.{DriverFault}
use Rattle.host_driver.specs.declared.drivers.DriverFault.TheVariants as driver
use Rattle.core_actors.specs.Actors.{ActorsState, new_actors}
use Rattle.core_actors.specs.Actors.{with_driver as actors_with_driver}
use Rattle.link_bench.specs.Benches.{BenchState}
use Rattle.crash_recover.specs.KeptCores.{IsKeptBench, IsReadyLink}
use Rattle.crash_recover.specs.declared.core_faults.AddFault.{AddFault}
use Rattle.crash_recover.specs.declared.core_faults.AddFault.TheVariants as add

-- what an image became: the memory of the core, what was placed, the patched table, the first record, the rings of the device for RPMsg and the traces
pub record LoadState : Type 0 where
  pub memory : List ℕ
  pub placed : List Block
  pub table : List ℕ
  pub entry : ℕ
  pub rings : Option RingPair
  pub traces : List TraceAt

-- what contracts see of a load
abbrev pub load_view : Loaded → LoadState
load_view loaded = record {
  memory = loaded.memory;
  placed = loaded.placed.blocks.items;
  table = loaded.table;
  entry = loaded.entry;
  rings = loaded.rings;
  traces = loaded.traces.items;
}

-- a core: its regions, how many messages a lane of its link accepts in one incarnation, its life, the name of the image that it was booted or handed over with and what that became, while it is not offline, its link while it has users and where the image has a device for RPMsg, and its actors
pub record CoreState : Type 0 where
  pub regions : List Region
  pub book : ℕ
  pub life : CoreLife
  pub image : Option (List ℕ)
  pub loaded : Option LoadState
  pub bench : Option BenchState
  pub actors : ActorsState

-- a core that was never booted
abbrev pub new_core : List Region → List Declared → ℕ → CoreState
new_core regions kinds book = record { regions = regions; book = book; life = new_life; image = None; loaded = None; bench = None; actors = new_actors kinds }

-- the core that a call leaves, and what it answers
pub record CoreOutcome (A E : Type 0) : Type 0 where
  pub core : CoreState
  pub answer : Result A E

-- a call that is refused for this, if it is, and else does that
abbrev pub refuse_or : {A E : Type 0} → CoreState → Option E → CoreOutcome A E → CoreOutcome A E
refuse_or core None done = done
refuse_or core (Some why) done = record { core = core; answer = Err why }

-- the rings of what was loaded
abbrev pub loaded_rings : Option LoadState → Option RingPair
loaded_rings loaded = option_and_then (λ (load : LoadState). load.rings) loaded

-- why a region is not added to a core
abbrev pub add_fault : CoreState → Region → Option AddFault
add_fault core added = if is_offline core.life.state then option_map add.Region (region_fault core.regions added) else Some add.NotOffline

-- the refusal of a region, where out of memory is alone
abbrev pub add_fault_of : RegionFault → AddFault
add_fault_of region.RegionOverlap = add.Region region.RegionOverlap
add_fault_of region.RegionRange = add.Region region.RegionRange
add_fault_of region.RegionsFull = add.Region region.RegionsFull
add_fault_of region.NoMemory = add.NoMemory

-- the refusal of a driver, where out of memory is alone
abbrev pub add_fault_of_driver : DriverFault → AddFault
add_fault_of_driver driver.DriverTaken = add.DriverTaken
add_fault_of_driver driver.DriversFull = add.DriversFull
add_fault_of_driver driver.NoMemory = add.NoMemory

-- why a driver of this name is not declared for a core
abbrev pub driver_add_fault : CoreState → List ℕ → Option AddFault
driver_add_fault core name =
    if is_offline core.life.state then option_map add_fault_of_driver (driver_fault core.actors.drivers.kinds name) else Some add.NotOffline

-- the core with one driver more
abbrev pub with_driver : CoreState → Declared → CoreState
with_driver core declared = record core { actors = actors_with_driver core.actors declared }

-- so many bytes of a memory at a place, if there is one
abbrev pub bytes_at : List ℕ → ℕ → Option ℕ → Option (List ℕ)
bytes_at memory len at = option_map (λ at. slice_range memory at (at + len)) at

-- the bytes of a range of device addresses: the core is loaded, and one block of memory holds them
abbrev pub core_memory : CoreState → ℕ → ℕ → Option (List ℕ)
core_memory core da len = option_and_then (λ (load : LoadState). bytes_at load.memory len (memory_at core.regions load.placed da len)) core.loaded

-- the bytes of the trace of a number: the core is loaded, and there is such a trace, which has a place
abbrev pub core_trace : CoreState → ℕ → Option (List ℕ)
core_trace core index = option_and_then (λ (load : LoadState). option_and_then (λ (trace : TraceAt). bytes_at load.memory trace.len trace.at) (slice_get load.traces index)) core.loaded

-- how many blocks are placed at most: two rings and the buffers of each of 256 entries
abbrev pub blocks_most : ℕ
blocks_most = 768

-- a load over regions: its map is that of what was placed, its traces lie in its memory, its rings and their buffers within the addresses, and its first record in one block of memory
pub record IsSoundLoad (regions : List Region) (loaded : Loaded) : Type 0 where
  pub placed : SoundPlacement regions loaded.placed.blocks.items
  pub few : length loaded.placed.blocks.items ≤ blocks_most
  pub map : IsMapOf regions loaded.placed.blocks.items loaded.map
  pub length : length loaded.memory ≡ loaded.map.memory_len
  pub traces : All (IsTraceIn loaded.map.memory_len) loaded.traces.items
  pub rings : IfSome loaded.rings IsSoundPair
  pub buffers : IfSome loaded.rings HasBuffers
  pub entry : is_some (memory_at regions loaded.placed.blocks.items loaded.entry 16) ≡ true

-- what a core keeps: its book is one that a lane may have, what it was given is sound, it has an image and what that became exactly while it is not offline, no link without users, what its link keeps, and that this is ready for its actors
pub record SoundCore (regions : List Region) (messages : ℕ) (life : CoreLife) (name : Option (List ℕ)) (given : Option Loaded) (link : Option BenchState) (actors : ActorsState) : Type 0 where
  pub book : (1 ≤ messages) × (messages ≤ BOOK_MOST)
  pub loaded : IfSome given (IsSoundLoad regions)
  pub has_image : is_some name ≡ not (is_offline life.state)
  pub has_load : is_some given ≡ not (is_offline life.state)
  pub unlinked : life.users ≡ 0 → link ≡ None
  pub kept : IfSome link (IsKeptBench life)
  pub ready : IsReadyLink life.state actors link

-- the link that a core has, if it has one, keeps what it is to keep in the core's life (own)
abbrev pub IsKeptCore : CoreState → Type 0
IsKeptCore core = IfSome core.bench (IsKeptBench core.life)

-- and it is ready for the core's actors (own)
abbrev pub IsReadyCore : CoreState → Type 0
IsReadyCore core = IsReadyLink core.life.state core.actors core.bench
