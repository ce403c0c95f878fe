-- Where one block is placed among regions, beside the blocks that were placed before (own).
use Rattle.std.specs.Prelude.{ℕ, ◌+◌, ◌-◌, ◌%◌, ◌^◌, ◌==◌, nat_lt, Bool, true, false, not, ◌&&◌, ◌||◌, List, [], ◌∷◌, filter, find, Option, Some, None, option_map, Result, Ok, Err, if◌then◌else◌}
use Rattle.std.specs.Option.{option_or}
use Rattle.std.specs.List.{list_any, range_with_len}
use Rattle.memory_pool.specs.Ranges.{lies_in, meets_block, meets_region}
use Rattle.memory_pool.specs.Regions.{is_pool}
use Rattle.memory_pool.specs.declared.blocks.Block.{Block}
use Rattle.memory_pool.specs.declared.blocks.Use.{Use}
use Rattle.memory_pool.specs.declared.blocks.Use.TheVariants as usage
use Rattle.memory_pool.specs.declared.faults.PlaceFault.{PlaceFault}
use Rattle.memory_pool.specs.declared.faults.PlaceFault.TheVariants as fault
use Rattle.memory_pool.specs.declared.regions.Region.{Region}
use Rattle.memory_pool.specs.declared.wanted.Wanted.{Wanted}
use Rattle.memory_pool.specs.declared.wanted.Wanted.TheVariants as wanted

-- the number of the entry that a block is for (own)
abbrev pub entry_of : Use → ℕ
entry_of (usage.Carveout index) = index
entry_of (usage.Window index) = index
entry_of (usage.Ring index number) = index
entry_of (usage.Buffers index) = index

-- whether a block is for a window, which has no bytes of its own (own)
abbrev pub is_window_use : Use → Bool
is_window_use (usage.Window index) = true
is_window_use _ = false

-- whether a block is a window (own)
abbrev pub is_window : Block → Bool
is_window block = is_window_use block.what

-- the windows among blocks (own)
abbrev pub windows_of : List Block → List Block
windows_of blocks = filter is_window blocks

-- the blocks of memory among blocks (own)
abbrev pub memory_of : List Block → List Block
memory_of blocks = filter (λ block. not (is_window block)) blocks

-- a block in a region: its physical address is as far from the region's as its device address is (own)
abbrev pub block_in : Region → Use → ℕ → ℕ → Block
block_in region purpose len da = record { what = purpose; da = da; pa = region.pa + (da - region.da); len = len }

-- the pool that holds a range of device addresses (own)
abbrev pub pool_of : List Region → ℕ → ℕ → Option Region
pool_of regions da len = find (λ region. is_pool region && lies_in da len region) regions

-- a block at a given address, by the pool that holds it (own)
abbrev pub given_in : Option Region → List Block → Use → ℕ → ℕ → Result Block PlaceFault
given_in None before purpose da len = Err (fault.FixedOutside (entry_of purpose))
given_in (Some pool) before purpose da len =
    if list_any (meets_block da len) (memory_of before) then Err (fault.FixedOverlap (entry_of purpose)) else Ok (block_in pool purpose len da)

-- a window: it ends within the addresses, and meets no region and no earlier window (own)
abbrev pub window_at : List Region → List Block → ℕ → ℕ → ℕ → ℕ → Result Block PlaceFault
window_at regions before index da pa len =
    if nat_lt (2 ^ 32) (da + len) || nat_lt (2 ^ 32) (pa + len)
    then Err (fault.WindowPastEnd index)
    else if list_any (meets_region da len) regions || list_any (meets_block da len) (windows_of before)
    then Err (fault.WindowOverlap index)
    else Ok (record { what = usage.Window index; da = da; pa = pa; len = len })

-- whether an address is a place for so many bytes in a region beside blocks: it is aligned, and the bytes lie in the region and meet no block (own)
abbrev pub is_place : Region → List Block → ℕ → ℕ → ℕ → Bool
is_place region blocks len align da =
    (da % align == 0) && lies_in da len region && not (list_any (meets_block da len) blocks)

-- the least such device address (own)
abbrev pub least_place : Region → List Block → ℕ → ℕ → Option ℕ
least_place region blocks len align = find (is_place region blocks len align) (range_with_len region.da region.len)

-- the least place for so many bytes in a region where it is a pool (own)
abbrev pub place_in : Region → List Block → ℕ → ℕ → Option ℕ
place_in region blocks len align = if is_pool region then least_place region blocks len align else None

-- a block at the least place beside the blocks of memory that were placed before, in the first pool that has one (own)
abbrev pub least_free : List Region → List Block → Use → ℕ → ℕ → Option Block
least_free [] before purpose len align = None
least_free (region ∷ more) before purpose len align =
    option_or (option_map (block_in region purpose len) (place_in region (memory_of before) len align)) (least_free more before purpose len align)

-- a block that may be anywhere, by its least free place (own)
abbrev pub any_at : Option Block → Use → Result Block PlaceFault
any_at None purpose = Err (fault.NoRoom (entry_of purpose))
any_at (Some block) purpose = Ok block

-- the block that is placed for what is wanted next, or why none is (own)
abbrev pub next_block : List Region → List Block → Wanted → Result Block PlaceFault
next_block regions before (wanted.Given purpose da len) = given_in (pool_of regions da len) before purpose da len
next_block regions before (wanted.Any purpose len align) = any_at (least_free regions before purpose len align) purpose
next_block regions before (wanted.Window index da pa len) = window_at regions before index da pa len
