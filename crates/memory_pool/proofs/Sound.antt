-- Placements are sound.
use Rattle.std.proofs.Common.{◌≡◌, ℕ, ◌+◌, ◌%◌, ◌^◌, ◌<◌, ◌≤◌, true, false, not, ◌&&◌, ◌||◌, ◌⊎◌, inl, inr, List, [], ◌∷◌, ◌++◌, length, get_or, Option, Some, None, Result, Ok, Err, refl, arith, ltb, suc}
use Rattle.std.specs.Prelude.{◌==◌}
use Rattle.std.specs.List.{All, Any, Contains, list_any, range_with_len}
use Rattle.std.proofs.lemmas.Bool.{cases_Bool, and_parts, or_parts, ltb-false, not-true, not_from_false}
use Rattle.std.proofs.lemmas.List.Elements.{All-nil, All-head, All-tail, All-push, All-contains}
use Rattle.std.proofs.lemmas.List.Quantifiers.{all_pairs_push}
use Rattle.memory_pool.specs.Ranges.{ranges_meet, lies_in, meets_block, meets_region}
use Rattle.memory_pool.specs.Regions.{is_pool}
use Rattle.memory_pool.specs.Places.{block_in, entry_of, given_in, is_place, is_window, is_window_use, least_free, least_place, memory_of, next_block, any_at, pool_of, window_at, windows_of}
use Rattle.memory_pool.specs.Placements.{placed_from, then_ok}
use Rattle.memory_pool.specs.Soundness.{IsHeld, IsHeldBy, IsRange, SoundPlacement, SoundRegions}
use Rattle.memory_pool.specs.OrderedBlocks.{IsNewBlock, IsSoundWanted}
use Rattle.memory_pool.specs.declared.blocks.Block.{Block}
use Rattle.memory_pool.specs.declared.blocks.Use.{Use}
use Rattle.memory_pool.specs.declared.blocks.Use.TheVariants as usage
use Rattle.memory_pool.specs.declared.faults.PlaceFault.TheVariants as fault
use Rattle.memory_pool.specs.declared.regions.Region.{Region}
use Rattle.memory_pool.specs.declared.wanted.Wanted.{Wanted}
use Rattle.memory_pool.specs.declared.wanted.Wanted.TheVariants as wanted
use Rattle.memory_pool.proofs.Find.{find_is, none_at, filtered_none}
use Rattle.memory_pool.proofs.Meets.{apart_back, apart_within, within_ends}

-- a block fits beside others
record Fits (regions : List Region) (before : List Block) (block : Block) : Type 0 where
  range : IsRange block.da block.pa block.len
  held : IsHeld regions block.what block
  apart : (k : ℕ) (d : Block) → k < length before → ranges_meet (get_or before k d).da (get_or before k d).len block.da block.len ≡ false

with_fit : (regions : List Region) (before : List Block) (block : Block) → SoundPlacement regions before → Fits regions before block → SoundPlacement regions (before ++ block ∷ [])
with_fit regions before block sound fit = record {
  ranges = All-push (λ block. IsRange block.da block.pa block.len) before block sound.ranges fit.range;
  held = All-push (λ block. IsHeld regions block.what block) before block sound.held fit.held;
  apart = all_pairs_push (λ a b. ranges_meet a.da a.len b.da b.len ≡ false) before block sound.apart fit.apart;
}

held_window : (regions : List Region) (purpose : Use) (block : Block) → is_window_use purpose ≡ true → IsHeld regions purpose block → list_any (meets_region block.da block.len) regions ≡ false
held_window regions (usage.Window index) block is held = held
held_window regions (usage.Carveout index) block is held = absurd (cc)
held_window regions (usage.Ring index number) block is held = absurd (cc)
held_window regions (usage.Buffers index) block is held = absurd (cc)

held_memory : (regions : List Region) (purpose : Use) (block : Block) → is_window_use purpose ≡ false → IsHeld regions purpose block → Any (IsHeldBy block) regions
held_memory regions (usage.Window index) block is held = absurd (cc)
held_memory regions (usage.Carveout index) block is held = held
held_memory regions (usage.Ring index number) block is held = held
held_memory regions (usage.Buffers index) block is held = held

memory_held : (regions : List Region) (purpose : Use) (block : Block) → is_window_use purpose ≡ false → Any (IsHeldBy block) regions → IsHeld regions purpose block
memory_held regions (usage.Window index) block is held = absurd (cc)
memory_held regions (usage.Carveout index) block is held = held
memory_held regions (usage.Ring index number) block is held = held
memory_held regions (usage.Buffers index) block is held = held

-- what a region holds is apart from a window, which meets no region
apart_window : (regions : List Region) (region : Region) (da len : ℕ) (other other_len : ℕ) → Contains regions region → lies_in da len region ≡ true → list_any (meets_region other other_len) regions ≡ false → ranges_meet other other_len da len ≡ false
apart_window regions region da len other other_len has inside none =
    let at : ranges_meet other other_len region.da region.len ≡ false =
    rw has.2 at (none_at (meets_region other other_len) regions has.0 region has.1 none) in
    apart_within da len other other_len region.da region.len inside at

-- a block of memory in a pool, which meets no block of memory, fits
memory_fits : (regions : List Region) (before : List Block) (purpose : Use) (region : Region) (da len : ℕ) → SoundRegions regions → SoundPlacement regions before → 1 ≤ len → is_window_use purpose ≡ false → Contains regions region → is_pool region ≡ true → lies_in da len region ≡ true → list_any (meets_block da len) (memory_of before) ≡ false → Fits regions before (block_in region purpose len da)
memory_fits regions before purpose region da len sound placed some memory has pool inside none =
    let block = block_in region purpose len da in
    let range = All-contains (λ region. IsRange region.da region.pa region.len) regions region sound.ranges has in
    let ends = within_ends da len region.da region.len inside in
    record {
      range = record { some = some; device = omega (arith, ends.0, ends.1, range.device); physical = omega (arith, ends.0, ends.1, range.physical) };
      held = memory_held regions purpose block memory (has.0, region, has.1, has.2, record { pool = pool; inside = inside; physical = refl });
      apart = λ k d lt.
          let other = get_or before k d in
          elim (cases_Bool (is_window other)) [
            | inl is ↦ apart_window regions region da len other.da other.len has inside (held_window regions other.what other is (placed.held k d lt))
            | inr is ↦ apart_back da len other.da other.len (filtered_none (meets_block da len) (λ block. not (is_window block)) before k d lt none (not_from_false (is_window other) is))
          ];
    }

-- a window that meets no region and no window fits
window_fits : (regions : List Region) (before : List Block) (index da pa len : ℕ) → SoundPlacement regions before → 1 ≤ len → da + len ≤ 2 ^ 32 → pa + len ≤ 2 ^ 32 → list_any (meets_region da len) regions ≡ false → list_any (meets_block da len) (windows_of before) ≡ false → Fits regions before (record { what = usage.Window index; da = da; pa = pa; len = len })
window_fits regions before index da pa len placed some device physical no_region no_window = record {
  range = record { some = some; device = device; physical = physical };
  held = no_region;
  apart = λ k d lt.
      let other = get_or before k d in
      elim (cases_Bool (is_window other)) [
        | inl is ↦ apart_back da len other.da other.len (filtered_none (meets_block da len) is_window before k d lt no_window is)
        | inr is ↦
            let held = held_memory regions other.what other is (placed.held k d lt) in
            apart_back da len other.da other.len (apart_window regions held.1 other.da other.len da len (held.0, held.2, held.3) held.4.inside no_region)
      ];
}

pub option_cases : {A : Type 0} (o : Option A) → (o ≡ None) ⊎ ((x : A) × (o ≡ Some x))
option_cases None = inl refl
option_cases (Some x) = inr (x, refl)

-- where the pool that holds a range is known, and it is clear there, the block fits
given_fits : (regions : List Region) (before : List Block) (purpose : Use) (da len : ℕ) (block : Block) → SoundRegions regions → SoundPlacement regions before → 1 ≤ len → is_window_use purpose ≡ false → given_in (pool_of regions da len) before purpose da len ≡ Ok block → Fits regions before block
given_fits regions before purpose da len block sound placed some memory is =
    elim (option_cases (pool_of regions da len)) [
      | inl none ↦ absurd (let e : given_in None before purpose da len ≡ Ok block = rw none at is in cc)
      | inr found ↦
          let pool = found.0 in
          let e : given_in (Some pool) before purpose da len ≡ Ok block = rw found.1 at is in
          let test = find_is (λ region. is_pool region && lies_in da len region) regions pool found.1 in
          let parts = and_parts (is_pool pool) (lies_in da len pool) test.0 in
          elim (cases_Bool (list_any (meets_block da len) (memory_of before))) [
            | inl meets ↦ absurd (let e : Err (fault.FixedOverlap (entry_of purpose)) ≡ Ok block = rw meets at e in cc)
            | inr clear ↦
                let e : Ok (block_in pool purpose len da) ≡ Ok block = rw clear at e in
                let same : block_in pool purpose len da ≡ block = cc in
                rw (← same) (memory_fits regions before purpose pool da len sound placed some memory test.1 parts.0 parts.1 clear)
          ]
    ]

-- what the least free place is
record IsFree (regions : List Region) (before : List Block) (purpose : Use) (len align : ℕ) (block : Block) : Type 0 where
  region : Region
  da : ℕ
  has : Contains regions region
  pool : is_pool region ≡ true
  place : is_place region (memory_of before) len align da ≡ true
  is : block_in region purpose len da ≡ block

free_later : (region : Region) (regions : List Region) (before : List Block) (purpose : Use) (len align : ℕ) (block : Block) → IsFree regions before purpose len align block → IsFree (region ∷ regions) before purpose len align block
free_later region regions before purpose len align block free = record {
  region = free.region;
  da = free.da;
  has = (suc free.has.0, omega (arith, free.has.1), free.has.2);
  pool = free.pool;
  place = free.place;
  is = free.is;
}

free_is : (regions : List Region) (before : List Block) (purpose : Use) (len align : ℕ) (block : Block) → least_free regions before purpose len align ≡ Some block → IsFree regions before purpose len align block
free_is [] before purpose len align block is = absurd (cc)
free_is (region ∷ more) before purpose len align block is =
    let memory = memory_of before in
    elim (cases_Bool (is_pool region)) [
      | inl pool ↦
          elim (option_cases (least_place region memory len align)) [
            | inl none ↦
                let e : least_free more before purpose len align ≡ Some block = rw (pool, none) at is in
                free_later region more before purpose len align block (free_is more before purpose len align block e)
            | inr found ↦
                let e : Some (block_in region purpose len found.0) ≡ Some block = rw (pool, found.1) at is in
                record {
                  region = region;
                  da = found.0;
                  has = (0, omega arith, refl);
                  pool = pool;
                  place = (find_is (is_place region memory len align) (range_with_len region.da region.len) found.0 found.1).0;
                  is = cc;
                }
          ]
      | inr pool ↦
          let e : least_free more before purpose len align ≡ Some block = rw pool at is in
          free_later region more before purpose len align block (free_is more before purpose len align block e)
    ]

place_parts : (region : Region) (blocks : List Block) (len align da : ℕ) → is_place region blocks len align da ≡ true → (lies_in da len region ≡ true) × (list_any (meets_block da len) blocks ≡ false)
place_parts region blocks len align da is =
    let any = list_any (meets_block da len) blocks in
    let outer = and_parts ((da % align == 0) && lies_in da len region) (not any) is in
    let inner = and_parts (da % align == 0) (lies_in da len region) outer.0 in
    (inner.1, not-true any outer.1)

-- a block at a least free place is new
pub free_new : (regions : List Region) (before : List Block) (purpose : Use) (len align : ℕ) (block : Block) → 1 ≤ len → least_free regions before purpose len align ≡ Some block → IsNewBlock before block
free_new regions before purpose len align block some is =
    let free = free_is regions before purpose len align block is in
    let parts = place_parts free.region (memory_of before) len align free.da free.place in
    rw (← free.is) (record { some = some; apart = λ memory. parts.1 })

free_fits : (regions : List Region) (before : List Block) (purpose : Use) (len align : ℕ) (block : Block) → SoundRegions regions → SoundPlacement regions before → 1 ≤ len → is_window_use purpose ≡ false → any_at (least_free regions before purpose len align) purpose ≡ Ok block → Fits regions before block
free_fits regions before purpose len align block sound placed some memory is =
    elim (option_cases (least_free regions before purpose len align)) [
      | inl none ↦ absurd (let e : any_at None purpose ≡ Ok block = rw none at is in cc)
      | inr found ↦
          let e : any_at (Some found.0) purpose ≡ Ok block = rw found.1 at is in
          let same : found.0 ≡ block = cc in
          let free = free_is regions before purpose len align found.0 found.1 in
          let parts = place_parts free.region (memory_of before) len align free.da free.place in
          rw (← same, ← free.is) (memory_fits regions before purpose free.region free.da len sound placed some memory free.has free.pool parts.0 parts.1)
    ]

window_fit : (regions : List Region) (before : List Block) (index da pa len : ℕ) (block : Block) → SoundPlacement regions before → 1 ≤ len → window_at regions before index da pa len ≡ Ok block → Fits regions before block
window_fit regions before index da pa len block placed some is =
    elim (cases_Bool (ltb (2 ^ 32) (da + len) || ltb (2 ^ 32) (pa + len))) [
      | inl past ↦ absurd (let e : Err (fault.WindowPastEnd index) ≡ Ok block = rw past at is in cc)
      | inr ends ↦
          elim (cases_Bool (list_any (meets_region da len) regions || list_any (meets_block da len) (windows_of before))) [
            | inl meets ↦ absurd (let e : Err (fault.WindowOverlap index) ≡ Ok block = rw (ends, meets) at is in cc)
            | inr clear ↦
                let window : Block = record { what = usage.Window index; da = da; pa = pa; len = len } in
                let e : Ok window ≡ Ok block = rw (ends, clear) at is in
                let same : window ≡ block = cc in
                let end = or_parts (ltb (2 ^ 32) (da + len)) (ltb (2 ^ 32) (pa + len)) ends in
                let none = or_parts (list_any (meets_region da len) regions) (list_any (meets_block da len) (windows_of before)) clear in
                rw (← same) (window_fits regions before index da pa len placed some (ltb-false (2 ^ 32) (da + len) end.0) (ltb-false (2 ^ 32) (pa + len) end.1) none.0 none.1)
          ]
    ]

next_fits : (regions : List Region) (before : List Block) (one : Wanted) (block : Block) → SoundRegions regions → SoundPlacement regions before → IsSoundWanted one → next_block regions before one ≡ Ok block → Fits regions before block
next_fits regions before (wanted.Given purpose da len) block sound placed good is =
    given_fits regions before purpose da len block sound placed good.0 good.1 is
next_fits regions before (wanted.Any purpose len align) block sound placed good is =
    free_fits regions before purpose len align block sound placed good.0 good.2 is
next_fits regions before (wanted.Window index da pa len) block sound placed good is =
    window_fit regions before index da pa len block placed good is

ok_then : {A B E : Type 0} (next : A → Result B E) (r : Result A E) (y : B) → then_ok next r ≡ Ok y → (x : A) × (r ≡ Ok x) × (next x ≡ Ok y)
ok_then next (Ok x) y e = (x, refl, e)
ok_then next (Err refused) y e = absurd (cc)

-- placements of sound wishes over sound regions are sound
pub placed_sound : (regions : List Region) (before : List Block) (all : List Wanted) (blocks : List Block) → SoundRegions regions → SoundPlacement regions before → All IsSoundWanted all → placed_from regions before all ≡ Ok blocks → SoundPlacement regions blocks
placed_sound regions before [] blocks sound placed good is =
    let same : before ≡ blocks = cc in
    rw (← same) placed
placed_sound regions before (one ∷ more) blocks sound placed good is =
    let step = ok_then (λ block. placed_from regions (before ++ block ∷ []) more) (next_block regions before one) blocks is in
    let fit = next_fits regions before one step.0 sound placed (All-head IsSoundWanted one more good) step.1 in
    placed_sound regions (before ++ step.0 ∷ []) more blocks sound (with_fit regions before step.0 placed fit) (All-tail IsSoundWanted one more good) step.2

-- nothing is placed soundly
pub nothing_sound : (regions : List Region) → SoundPlacement regions []
nothing_sound regions = record {
  ranges = All-nil (λ block. IsRange block.da block.pa block.len);
  held = All-nil (λ block. IsHeld regions block.what block);
  apart = λ i j d lt bound. absurd (omega arith);
}
