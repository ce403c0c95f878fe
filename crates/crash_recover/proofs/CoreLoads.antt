-- What a load is to a core: its view, its memory, and the link over its rings.
use Rattle.std.proofs.Common.{◌≡◌, ℕ, ◌≤◌, List, [], Option, Some, Result, Ok, ap, sym, ◌∙◌}
use Rattle.std.specs.Option.{option_and_then, option_map, unwrap_or}
use Rattle.std.specs.Result.{result_ok}
use Rattle.elf_image.specs.Images.{entry_of}
use Rattle.memory_pool.specs.Placements.{placement}
use Rattle.memory_pool.specs.Regions.{memory_len}
use Rattle.memory_pool.specs.Soundness.{SoundRegions}
use Rattle.memory_pool.specs.declared.blocks.Block.{Block}
use Rattle.memory_pool.specs.declared.faults.PlaceFault.{PlaceFault}
use Rattle.memory_pool.specs.declared.regions.Region.{Region}
use Rattle.addr_translate.specs.Mapped.{mapped_blocks}
use Rattle.addr_translate.specs.Maps.{place_at, place_in}
use Rattle.addr_translate.specs.declared.mapped.Place.{Place}
use Rattle.addr_translate.proofs.Found.{found_permuted}
use Rattle.addr_translate.proofs.Sound.{mapped_sound, permuted_sound}
use Rattle.fw_load.specs.Loading.{IsLoaded}
use Rattle.fw_load.specs.Memory.{memory_at, memory_of}
use Rattle.resource_table.specs.Entries.{entries_of}
use Rattle.fw_load.specs.Rings.{pair_from, traces_of}
use Rattle.fw_load.specs.Tables.{entries_in, patched_in, table_of}
use Rattle.fw_load.specs.declared.loading.Loaded.{Loaded}
use Rattle.fw_load.specs.declared.rings.RingPair.{RingPair}
use Rattle.fw_load.specs.declared.traces.TraceAt.{TraceAt}
use Rattle.crash_recover.specs.CoreBoots.{load_of, load_over}
use Rattle.crash_recover.specs.Cores.{CoreState, IsSoundLoad, LoadState, bytes_at, core_memory, load_view}

abbrev given : List Block → List ℕ → List ℕ → ℕ → Option RingPair → List TraceAt → LoadState
given placed memory table entry rings traces = record { memory = memory; placed = placed; table = table; entry = entry; rings = rings; traces = traces }

placed_is : (image : List ℕ) (regions : List Region) (found : Result (List Block) PlaceFault) (blocks : List Block) → found ≡ Ok blocks → load_over image regions (unwrap_or (result_ok found) []) ≡ load_over image regions blocks
placed_is image regions found blocks is = ap (λ (found : Result (List Block) PlaceFault). load_over image regions (unwrap_or (result_ok found) [])) is

blocks_are : (image : List ℕ) (regions : List Region) (blocks : List Block) → placement regions (entries_in (table_of image)) ≡ Ok blocks → load_of image regions ≡ load_over image regions blocks
unfolding load_of
blocks_are image regions blocks is = placed_is image regions (placement regions (entries_in (table_of image))) blocks is

-- what a load gives is what its image becomes
pub load_is : (image : List ℕ) (regions : List Region) (loaded : Loaded) → IsLoaded image regions loaded → load_view loaded ≡ load_of image regions
load_is image regions loaded is =
    let blocks = loaded.placed.blocks.items in
    let memory = memory_of image regions blocks in
    let table = patched_in (table_of image) blocks in
    let rings = pair_from blocks 0 (entries_of table) in
    ap (λ m. given blocks m loaded.table loaded.entry loaded.rings loaded.traces.items) is.memory
    ∙ ap (λ t. given blocks memory t loaded.entry loaded.rings loaded.traces.items) is.table
    ∙ ap (λ e. given blocks memory table e loaded.rings loaded.traces.items) is.entry
    ∙ ap (λ r. given blocks memory table (entry_of image) r loaded.traces.items) (is.rings ∙ ap (λ t. pair_from blocks 0 (entries_of t)) is.table)
    ∙ ap (given blocks memory table (entry_of image) rings) (is.traces ∙ ap (λ t. traces_of (memory_at regions blocks) (entries_of t)) is.table)
    ∙ sym (blocks_are image regions blocks is.placed)

-- a range stands by the map of a load where it stands by the regions and what was placed
pub place_is : (regions : List Region) (loaded : Loaded) (da len : ℕ) → SoundRegions regions → IsSoundLoad regions loaded → 1 ≤ len
    → place_at loaded.map da len ≡ memory_at regions loaded.placed.blocks.items da len
place_is regions loaded da len sound good some =
    let placed = loaded.placed.blocks.items in
    let blocks = mapped_blocks regions placed in
    let all = permuted_sound blocks loaded.map.blocks (memory_len regions) good.map.same (mapped_sound regions placed sound good.placed) in
    ap (λ found. option_and_then (λ (place : Place). place.at) (option_map (place_in da) found)) (found_permuted blocks loaded.map.blocks da len good.map.same all.apart some)

-- the bytes of a range of a core that is loaded
pub memory_read : (core : CoreState) (load : LoadState) (da len : ℕ) (at : Option ℕ) → core.loaded ≡ Some load → at ≡ memory_at core.regions load.placed da len → bytes_at load.memory len at ≡ core_memory core da len
memory_read core load da len at is place =
    ap (bytes_at load.memory len) place
    ∙ sym (ap (λ found. option_and_then (λ (load : LoadState). bytes_at load.memory len (memory_at core.regions load.placed da len)) found) is)
