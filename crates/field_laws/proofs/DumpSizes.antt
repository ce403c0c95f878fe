-- The dump of a core is not large.
use Rattle.std.proofs.Common.{ℕ, suc, ◌+◌, ◌-◌, ◌*◌, ◌<◌, ◌≤◌, ◌^◌, List, [], ◌∷◌, length, map, drop, not, Option, Some, None, IfSome, slice_range, arith}
use Rattle.std.specs.Prelude.{All, filter, option_map}
use Rattle.std.specs.List.{cons_option, filter_map}
use Rattle.std.specs.Option.{option_and_then}
use Rattle.std.proofs.lemmas.List.{length-append, length-map, length-take}
use Rattle.std.proofs.lemmas.List.Elements.{All-append, All-filter, All-head, All-map, All-nil, All-tail}
use Rattle.std.proofs.lemmas.List.Sums.{count_by-le-length, length-filter, sum_by-cons}
use Rattle.std.proofs.Math.Nat.{min-le_left}
use Rattle.memory_pool.specs.declared.blocks.Block.{Block}
use Rattle.memory_pool.specs.declared.regions.Region.{Region}
use Rattle.memory_pool.specs.Places.{is_window, memory_of}
use Rattle.memory_pool.specs.Regions.{is_pool}
use Rattle.memory_pool.specs.Soundness.{SoundRegions}
use Rattle.fw_load.specs.Memory.{memory_at}
use Rattle.core_dump.specs.Dumps.{dump_of}
use Rattle.core_dump.specs.Parts.{MemoryPart, data_len, part_len}
use Rattle.core_dump.proofs.ReadBack.{dump_length}
use Rattle.crash_recover.specs.CoreParts.{core_parts, core_ranges, loaded_ranges, memory_ranges, part_at}
use Rattle.crash_recover.specs.Cores.{CoreState, LoadState, bytes_at, core_memory}
use Rattle.field_laws.specs.FieldCores.{IsFieldPlaced}

-- ---- ranges of memory

slice_short : (memory : List ℕ) (at len : ℕ) → length (slice_range memory at (at + len)) ≤ len
slice_short memory at len =
    let is = length-take (at + len - at) (drop at memory) in
    let less = min-le_left (at + len - at) (length (drop at memory)) in
    omega (arith, is, less)

bytes_short : (memory : List ℕ) (len : ℕ) (place : Option ℕ) → IfSome (bytes_at memory len place) (λ bytes. length bytes ≤ len)
bytes_short memory len None = tt
bytes_short memory len (Some at) = slice_short memory at len

-- a range of what is loaded has no more bytes than it is long
pub loaded_short : (regions : List Region) (da len : ℕ) (found : Option LoadState)
    → IfSome (option_and_then (λ (load : LoadState). bytes_at load.memory len (memory_at regions load.placed da len)) found) (λ bytes. length bytes ≤ len)
loaded_short regions da len None = tt
loaded_short regions da len (Some load) = bytes_short load.memory len (memory_at regions load.placed da len)

-- ---- parts

-- parts, at most so many, of at most 2^32 bytes each
record AreFew (most : ℕ) (parts : List MemoryPart) : Type 0 where
  pub count : length parts ≤ most
  pub bytes : data_len parts ≤ 2 ^ 32 * most

abbrev IsShort : ℕ × ℕ → Type 0
IsShort range = range.1 ≤ 2 ^ 32

one_more : (da len most : ℕ) (found : Option (List ℕ)) (more : List MemoryPart) → len ≤ 2 ^ 32 → IfSome found (λ bytes. length bytes ≤ len) → AreFew most more
    → AreFew (suc most) (cons_option (option_map (λ bytes. record { da = da; bytes = bytes }) found) more)
one_more da len most None more small short few = let count = few.count in let bytes = few.bytes in record { count = omega (arith, count); bytes = omega (arith, bytes) }
one_more da len most (Some told) more small short few =
    let part : MemoryPart = record { da = da; bytes = told } in
    let count = few.count in
    let bytes = few.bytes in
    let sum = sum_by-cons part_len part more in
    record { count = omega (arith, count); bytes = omega (arith, bytes, sum, short, small) }

parts_few : (core : CoreState) (ranges : List (ℕ × ℕ)) → All IsShort ranges → AreFew (length ranges) (filter_map (part_at core) ranges)
parts_few core [] short = record { count = omega arith; bytes = omega arith }
parts_few core (range ∷ more) short =
    one_more range.0 range.1 (length more) (core_memory core range.0 range.1) (filter_map (part_at core) more) (All-head IsShort range more short) (loaded_short core.regions range.0 range.1 core.loaded)
    (parts_few core more (All-tail IsShort range more short))

-- ---- the ranges of a core

-- ranges, few and short
record AreFewRanges (ranges : List (ℕ × ℕ)) : Type 0 where
  pub few : length ranges ≤ 1024
  pub short : All IsShort ranges

memory_few : (regions : List Region) (load : LoadState) → SoundRegions regions → IsFieldPlaced regions load → AreFewRanges (memory_ranges regions load.placed)
memory_few regions load sound is =
    let of_region : Region → ℕ × ℕ = λ region. (region.da, region.len) in
    let of_block : Block → ℕ × ℕ = λ block. (block.da, block.len) in
    let fixed = filter (λ region. not (is_pool region)) regions in
    let both = length-append (map of_region fixed) (map of_block (memory_of load.placed)) in
    let first = length-map fixed of_region in
    let second = length-map (memory_of load.placed) of_block in
    let fixed_count = length-filter (λ (region : Region). not (is_pool region)) regions in
    let fixed_few = count_by-le-length (λ (region : Region). not (is_pool region)) regions in
    let block_count = length-filter (λ (block : Block). not (is_window block)) load.placed in
    let block_few = count_by-le-length (λ (block : Block). not (is_window block)) load.placed in
    let regions_few = sound.few in
    let blocks_few = is.few in
    let region_short = All-filter (λ (region : Region). not (is_pool region)) (λ (region : Region). region.len ≤ 2 ^ 32) regions
    (λ at other within. let device = (sound.ranges at other within).device in omega (arith, device)) in
    let block_short = All-filter (λ (block : Block). not (is_window block)) (λ (block : Block). block.len ≤ 2 ^ 32) load.placed is.ranges in
    record {
      few = omega (arith, both, first, second, fixed_count, fixed_few, block_count, block_few, regions_few, blocks_few);
      short = All-append IsShort (map of_region fixed) (map of_block (memory_of load.placed))
          (All-map IsShort of_region fixed region_short) (All-map IsShort of_block (memory_of load.placed) block_short);
    }

ranges_few : (regions : List Region) (found : Option LoadState) → SoundRegions regions → IfSome found (IsFieldPlaced regions) → AreFewRanges (loaded_ranges regions found)
ranges_few regions None sound is = record { few = omega arith; short = All-nil IsShort }
ranges_few regions (Some load) sound is = memory_few regions load sound is

-- ---- dumps

pub dump_small : (core : CoreState) (entry : ℕ) → SoundRegions core.regions → IfSome core.loaded (IsFieldPlaced core.regions) → length (dump_of entry (core_parts core)) < 2 ^ 64
dump_small core entry sound is =
    let ranges = ranges_few core.regions core.loaded sound is in
    let parts = parts_few core (core_ranges core) ranges.short in
    let len = dump_length entry (core_parts core) in
    let few = ranges.few in
    let count = parts.count in
    let bytes = parts.bytes in
    omega (arith, len, few, count, bytes)
