-- The blocks of memory of a core that is loaded: each has its bytes, and together they are what a dump asks for.
use Rattle.std.proofs.Common.{◌≡◌, ℕ, ◌+◌, ◌-◌, ◌≤◌, ◌^◌, true, false, not, inl, inr, List, [], ◌∷◌, ◌++◌, length, get_or, map, Option, Some, None, IfSome, refl, ap, sym, subst, ◌∙◌, arith, length-append}
use Rattle.std.specs.Prelude.{slice_get, slice_range, nat_le, ◌&&◌}
use Rattle.std.specs.List.{All, Contains, filter, filter_map, find, sum_by}
use Rattle.std.specs.Option.{is_some, option_and_then, option_map}
use Rattle.std.proofs.lemmas.Bool.{cases_Bool, cases_eq, false≢true, not-true}
use Rattle.std.proofs.lemmas.List.{length-map, map-append}
use Rattle.std.proofs.lemmas.List.Edits.{length-between}
use Rattle.std.proofs.lemmas.List.Elements.{All-nil, All-cons, All-append, All-map, All-filter, All-contains, All-contains_itself, Contains-append_cases, Contains-append_left, Contains-append_right, Contains-get_or, filter_passes}
use Rattle.std.proofs.lemmas.List.Sums.{count_by-le-length, length-filter, sum_by-append}
use Rattle.memory_pool.specs.Ranges.{lies_in, ranges_meet}
use Rattle.memory_pool.specs.Regions.{is_pool, memory_len}
use Rattle.memory_pool.specs.Places.{is_window, is_window_use, memory_of}
use Rattle.memory_pool.specs.Soundness.{IsHeld, IsRange, SoundPlacement, SoundRegions}
use Rattle.memory_pool.specs.declared.blocks.Block.{Block}
use Rattle.memory_pool.specs.declared.blocks.Use.{Use}
use Rattle.memory_pool.specs.declared.blocks.Use.TheVariants as usage
use Rattle.memory_pool.specs.declared.regions.Region.{Region}
use Rattle.memory_pool.proofs.Find.{find_is}
use Rattle.memory_pool.proofs.Meets.{apart_sides, within_ends}
use Rattle.memory_pool.proofs.Sound.{option_cases}
use Rattle.addr_translate.specs.Mapped.{mapped_block, mapped_blocks, mapped_region, memory_place, place_of_use}
use Rattle.addr_translate.specs.Maps.{holds, place_in}
use Rattle.addr_translate.specs.declared.mapped.Mapped.{Mapped}
use Rattle.addr_translate.specs.declared.mapped.Place.{Place}
use Rattle.addr_translate.proofs.Found.{found}
use Rattle.addr_translate.proofs.Pairs.{from_pairs, two_map, two_weaker}
use Rattle.addr_translate.proofs.Sound.{mapped_sound}
use Rattle.fw_load.specs.Memory.{memory_at}
use Rattle.fw_load.specs.declared.loading.Loaded.{Loaded}
use Rattle.core_dump.specs.Parts.{AreParts, IsPart, MemoryPart, part_len}
use Rattle.crash_recover.specs.Cores.{CoreState, IsSoundLoad, LoadState, blocks_most, bytes_at, core_memory, load_view}
use Rattle.crash_recover.specs.CoreParts.{AreBlocksOf, core_parts, core_ranges, loaded_ranges, memory_ranges, part_at, part_range}
use Rattle.crash_recover.proofs.KeptParts.{Gives, all_shown, contains_map, each_holds, map_map, nth_given, sum_map}
use Rattle.crash_recover.proofs.PartSums.{IsApart, IsWithin, hit, hit_filtered, lengths_within, one_hit}

-- what is loaded over regions, as its view says
pub record IsWhole (regions : List Region) (load : LoadState) : Type 0 where
  pub sound : SoundRegions regions
  pub placed : SoundPlacement regions load.placed
  pub memory : length load.memory ≡ memory_len regions
  pub few : length load.placed ≤ blocks_most
  pub entry : is_some (memory_at regions load.placed load.entry 16) ≡ true

no_place : (base : ℕ) (regions : List Region) (da len : ℕ) → memory_place base regions da len ≡ None → All (λ region. lies_in da len region ≡ false) regions
no_place base [] da len none = All-nil (λ region. lies_in da len region ≡ false)
no_place base (region ∷ more) da len none =
    elim (cases_Bool (lies_in da len region)) [
      | inl here ↦ absurd (let e : Some (base + (da - region.da)) ≡ None = rw here at none in cc)
      | inr away ↦ All-cons (λ region. lies_in da len region ≡ false) region more away (no_place (base + region.len) more da len (rw away at none))
    ]

-- a range in a region has a place in memory
has_place : (regions : List Region) (region : Region) (da len : ℕ) → Contains regions region → lies_in da len region ≡ true → (at : ℕ) × (memory_place 0 regions da len ≡ Some at)
has_place regions region da len has inside =
    elim (option_cases (memory_place 0 regions da len)) [
      | inl none ↦ absurd (false≢true (sym (All-contains (λ region. lies_in da len region ≡ false) regions region (no_place 0 regions da len none) has) ∙ inside))
      | inr there ↦ there
    ]

itself : (da len : ℕ) → (nat_le da da && nat_le (da + len) (da + len)) ≡ true
itself da len = grind arith

-- a mapped block that has a place is found whole there
stands_at : (regions : List Region) (placed : List Block) (block : Mapped) (at : ℕ) → SoundRegions regions → SoundPlacement regions placed → Contains (mapped_blocks regions placed) block → block.at ≡ Some at
    → memory_at regions placed block.da block.len ≡ Some at
stands_at regions placed block at sound good has is =
    let blocks = mapped_blocks regions placed in
    let all = mapped_sound regions placed sound good in
    let range = All-contains (λ one. IsRange one.da one.pa one.len) blocks block all.ranges has in
    let here = found blocks block.da block.len has.0 block all.apart range.some has.1 (ap (holds block.da block.len) has.2 ∙ itself block.da block.len) ∙ ap Some has.2 in
    let same : at + (block.da - block.da) ≡ at = omega arith in
    ap (λ found. option_and_then (λ (place : Place). place.at) (option_map (place_in block.da) found)) here
    ∙ ap (λ at. option_map (λ at. at + (block.da - block.da)) at) is ∙ ap Some same

-- what is read of a part: the bytes that the core's memory has there, as a dump asks for them
abbrev pub IsRead : CoreState → MemoryPart → Type 0
IsRead core part = (core_memory core part.da (part_len part) ≡ Some part.bytes) × IsPart part

-- a range of a core has its bytes
abbrev pub HasPart : CoreState → ℕ × ℕ → Type 0
HasPart core range = Gives (part_at core) part_range (IsRead core) range

has_part : (core : CoreState) (load : LoadState) (block : Mapped) (at : ℕ) → core.loaded ≡ Some load → IsWhole core.regions load → Contains (mapped_blocks core.regions load.placed) block → block.at ≡ Some at
    → HasPart core (block.da, block.len)
has_part core load block at loaded whole has is =
    let blocks = mapped_blocks core.regions load.placed in
    let all = mapped_sound core.regions load.placed whole.sound whole.placed in
    let range = All-contains (λ one. IsRange one.da one.pa one.len) blocks block all.ranges has in
    let place : IfSome block.at (λ at. at + block.len ≤ memory_len core.regions) =
    All-contains (λ (one : Mapped). IfSome one.at (λ at. at + one.len ≤ memory_len core.regions)) blocks block all.inside has in
    let inside : at + block.len ≤ memory_len core.regions = subst (λ at. IfSome at (λ at. at + block.len ≤ memory_len core.regions)) is place in
    let bytes = slice_range load.memory at (at + block.len) in
    let len : length bytes ≡ block.len = omega (arith, length-between load.memory at (at + block.len) (omega (arith, inside, whole.memory))) in
    let read : core_memory core block.da block.len ≡ Some bytes =
    ap (λ loaded. option_and_then (λ (load : LoadState). bytes_at load.memory block.len (memory_at core.regions load.placed block.da block.len)) loaded) loaded
    ∙ ap (bytes_at load.memory block.len) (stands_at core.regions load.placed block at whole.sound whole.placed has is) in
    let part : MemoryPart = record { da = block.da; bytes = bytes } in
    record {
      given = part;
      is = ap (option_map (λ bytes. record { da = block.da; bytes = bytes })) read;
      shows = ap (λ len. (block.da, len)) len;
      holds = (ap (core_memory core block.da) len ∙ read, record { some = omega (arith, len, range.some); device = omega (arith, len, range.device) });
    }

abbrev tcm_of : List Region → List Region
tcm_of regions = filter (λ region. not (is_pool region)) regions

abbrev of_region : Region → ℕ × ℕ
of_region region = (region.da, region.len)

abbrev of_block : Block → ℕ × ℕ
of_block block = (block.da, block.len)

abbrev of_mapped : Mapped → ℕ × ℕ
of_mapped one = (one.da, one.len)

-- a block of memory lies in a region, and stands where that does
record IsInRegion (regions : List Region) (purpose : Use) (da len : ℕ) : Type 0 where
  region : Region
  has : Contains regions region
  inside : lies_in da len region ≡ true
  place : place_of_use regions purpose da len ≡ memory_place 0 regions da len

in_region : (regions : List Region) (purpose : Use) (block : Block) → is_window_use purpose ≡ false → IsHeld regions purpose block → IsInRegion regions purpose block.da block.len
in_region regions (usage.Window index) block is held = absurd (cc)
in_region regions (usage.Carveout index) block is held = record { region = held.1; has = (held.0, held.2, held.3); inside = held.4.inside; place = refl }
in_region regions (usage.Ring index number) block is held = record { region = held.1; has = (held.0, held.2, held.3); inside = held.4.inside; place = refl }
in_region regions (usage.Buffers index) block is held = record { region = held.1; has = (held.0, held.2, held.3); inside = held.4.inside; place = refl }

block_in_region : (regions : List Region) (placed : List Block) → SoundPlacement regions placed → All (λ block. IsInRegion regions block.what block.da block.len) (memory_of placed)
block_in_region regions placed good k d lt =
    let memory = λ (block : Block). not (is_window block) in
    let block = get_or (memory_of placed) k d in
    in_region regions block.what block (not-true (is_window block) (filter_passes memory placed k d lt)) (All-filter memory (λ block. IsHeld regions block.what block) placed good.held k d lt)

-- each block of memory of a core has its bytes
pub each_has : (core : CoreState) (load : LoadState) → core.loaded ≡ Some load → IsWhole core.regions load → All (HasPart core) (memory_ranges core.regions load.placed)
each_has core load loaded whole =
    let regions = core.regions in
    let placed = load.placed in
    let tcm = λ (region : Region). not (is_pool region) in
    let memory = λ (block : Block). not (is_window block) in
    let always = map (mapped_region regions) (tcm_of regions) in
    let others = map (mapped_block regions) placed in
    All-append (HasPart core) (map of_region (tcm_of regions)) (map of_block (memory_of placed))
    (All-map (HasPart core) of_region (tcm_of regions) (λ k d lt.
    let region = get_or (tcm_of regions) k d in
    let has = All-filter tcm (Contains regions) regions (All-contains_itself regions) k d lt in
    let place = has_place regions region region.da region.len has (itself region.da region.len) in
    has_part core load (mapped_region regions region) place.0 loaded whole
    (Contains-append_left always others (mapped_region regions region) (contains_map (mapped_region regions) (tcm_of regions) region (Contains-get_or (tcm_of regions) k d lt))) place.1))
    (All-map (HasPart core) of_block (memory_of placed) (λ k d lt.
    let block = get_or (memory_of placed) k d in
    let held = block_in_region regions placed whole.placed k d lt in
    let place = has_place regions held.region block.da block.len held.has held.inside in
    has_part core load (mapped_block regions block) place.0 loaded whole
    (Contains-append_right always others (mapped_block regions block) (contains_map (mapped_block regions) placed block (All-filter memory (Contains placed) placed (All-contains_itself placed) k d lt)))
    (held.place ∙ place.1)))

-- each of them lies in a region
each_within : (regions : List Region) (placed : List Block) → SoundPlacement regions placed
    → All (λ inner. (outer : ℕ × ℕ) × Contains (map of_region regions) outer × IsWithin inner outer) (memory_ranges regions placed)
each_within regions placed good =
    let Within = λ (inner : ℕ × ℕ). (outer : ℕ × ℕ) × Contains (map of_region regions) outer × IsWithin inner outer in
    let tcm = λ (region : Region). not (is_pool region) in
    All-append Within (map of_region (tcm_of regions)) (map of_block (memory_of placed))
    (All-map Within of_region (tcm_of regions) (λ k d lt.
    let region = get_or (tcm_of regions) k d in
    let has = All-filter tcm (Contains regions) regions (All-contains_itself regions) k d lt in
    (of_region region, contains_map of_region regions region has, (omega arith, omega arith))))
    (All-map Within of_block (memory_of placed) (λ k d lt.
    let block = get_or (memory_of placed) k d in
    let held = block_in_region regions placed good k d lt in
    (of_region held.region, contains_map of_region regions held.region held.has, within_ends block.da block.len held.region.da held.region.len held.inside)))

each_ends : (regions : List Region) (placed : List Block) → SoundRegions regions → SoundPlacement regions placed → All (λ range. range.0 + range.1 ≤ 2 ^ 32) (memory_ranges regions placed)
each_ends regions placed sound good =
    let Ends = λ (range : ℕ × ℕ). range.0 + range.1 ≤ 2 ^ 32 in
    All-append Ends (map of_region (tcm_of regions)) (map of_block (memory_of placed))
    (All-map Ends of_region (tcm_of regions) (λ k d lt. (All-filter (λ region. not (is_pool region)) (λ region. IsRange region.da region.pa region.len) regions sound.ranges k d lt).device))
    (All-map Ends of_block (memory_of placed) (λ k d lt. (All-filter (λ block. not (is_window block)) (λ block. IsRange block.da block.pa block.len) placed good.ranges k d lt).device))

-- an address is in one of them at most
each_once : (regions : List Region) (placed : List Block) (address : ℕ) → SoundRegions regions → SoundPlacement regions placed → sum_by (hit address) (memory_ranges regions placed) ≤ 1
each_once regions placed address sound good =
    let Apart = λ (a b : Mapped). ranges_meet a.da a.len b.da b.len ≡ false in
    let always = map (mapped_region regions) (tcm_of regions) in
    let others = map (mapped_block regions) placed in
    let two = two_weaker Apart (λ a b. IsApart (of_mapped a) (of_mapped b)) (λ a b apart. apart_sides a.da a.len b.da b.len apart) (mapped_blocks regions placed)
    (from_pairs Apart (mapped_blocks regions placed) (mapped_sound regions placed sound good).apart) in
    let once = one_hit address (map of_mapped (mapped_blocks regions placed)) (two_map IsApart of_mapped (mapped_blocks regions placed) two) in
    let split : map of_mapped (mapped_blocks regions placed) ≡ map of_region (tcm_of regions) ++ map of_block placed =
    map-append of_mapped always others ∙ ap (λ front. front ++ map of_mapped others) (map_map (mapped_region regions) of_mapped (tcm_of regions))
    ∙ ap (λ rest. map of_region (tcm_of regions) ++ rest) (map_map (mapped_block regions) of_mapped placed) in
    omega (
      arith,
      once,
      ap (sum_by (hit address)) split,
      sum_by-append (hit address) (map of_region (tcm_of regions)) (map of_block placed),
      sum_by-append (hit address) (map of_region (tcm_of regions)) (map of_block (memory_of placed)),
      hit_filtered address of_block (λ block. not (is_window block)) placed,
    )

-- together they have no more bytes than the regions
lengths_few : (regions : List Region) (placed : List Block) → SoundRegions regions → SoundPlacement regions placed → sum_by (λ range. range.1) (memory_ranges regions placed) ≤ memory_len regions
lengths_few regions placed sound good =
    omega (
      arith,
      lengths_within (2 ^ 32) (memory_ranges regions placed) (map of_region regions) (λ address. each_once regions placed address sound good) (each_ends regions placed sound good)
          (All-map (λ (range : ℕ × ℕ). range.0 + range.1 ≤ 2 ^ 32) of_region regions (λ k d lt. (sound.ranges k d lt).device)) (each_within regions placed good),
      sum_map of_region (λ (range : ℕ × ℕ). range.1) regions,
    )

window_nowhere : (regions : List Region) (purpose : Use) (da len : ℕ) → is_window_use purpose ≡ true → is_some (place_of_use regions purpose da len) ≡ false
window_nowhere regions (usage.Window index) da len is = refl
window_nowhere regions (usage.Carveout index) da len is = absurd (cc)
window_nowhere regions (usage.Ring index number) da len is = absurd (cc)
window_nowhere regions (usage.Buffers index) da len is = absurd (cc)

windows_nowhere : (regions : List Region) (placed : List Block) → length (memory_of placed) ≡ 0 → All (λ block. is_some (place_of_use regions block.what block.da block.len) ≡ false) placed
windows_nowhere regions [] none = All-nil (λ (block : Block). is_some (place_of_use regions block.what block.da block.len) ≡ false)
windows_nowhere regions (block ∷ more) none =
    elim (cases_Bool (is_window block)) [
      | inl window ↦
          All-cons (λ (block : Block). is_some (place_of_use regions block.what block.da block.len) ≡ false) block more (window_nowhere regions block.what block.da block.len window)
          (windows_nowhere regions more (rw window at none))
      | inr memory ↦ absurd (let e : length (block ∷ memory_of more) ≡ 0 = rw memory at none in omega arith)
    ]

placed_at : (entry : ℕ) (at : Option ℕ) (da : ℕ) → is_some (option_map (λ at. at + (entry - da)) at) ≡ true → is_some at ≡ true
placed_at entry None da is = is
placed_at entry (Some at) da is = refl

-- where something has a place there is a block of memory
some_range : (regions : List Region) (placed : List Block) (entry : ℕ) → is_some (memory_at regions placed entry 16) ≡ true → 1 ≤ length (memory_ranges regions placed)
some_range regions placed entry is =
    let blocks = mapped_blocks regions placed in
    let always = map (mapped_region regions) (tcm_of regions) in
    let others = map (mapped_block regions) placed in
    let len = length-append (map of_region (tcm_of regions)) (map of_block (memory_of placed)) in
    let at = λ (found : Option Mapped). is_some (option_and_then (λ (place : Place). place.at) (option_map (place_in entry) found)) in
    elim (option_cases (find (holds entry 16) blocks)) [
      | inl none ↦ absurd (false≢true (sym (ap at none) ∙ is))
      | inr found ↦
          let block = found.0 in
          let there : is_some block.at ≡ true = placed_at entry block.at block.da (sym (ap at found.1) ∙ is) in
          elim (Contains-append_cases always others block (find_is (holds entry 16) blocks block found.1).1) [
            | inl region ↦ omega (arith, region.1, length-map (tcm_of regions) (mapped_region regions), length-map (tcm_of regions) of_region, len)
            | inr other ↦
                elim (cases_eq (length (memory_of placed)) 0) [
                  | inl none ↦
                      absurd (false≢true (sym (All-contains (λ (one : Mapped). is_some one.at ≡ false) others block (All-map (λ (one : Mapped). is_some one.at ≡ false) (mapped_block regions) placed (windows_nowhere regions placed none)) other) ∙ there))
                  | inr some ↦ omega (arith, length-map (memory_of placed) of_block, len)
                ]
          ]
    ]

few_ranges : (regions : List Region) (placed : List Block) → SoundRegions regions → length placed ≤ blocks_most → length (memory_ranges regions placed) ≤ 1024
few_ranges regions placed sound few =
    let tcm = λ (region : Region). not (is_pool region) in
    let memory = λ (block : Block). not (is_window block) in
    omega (
      arith,
      length-append (map of_region (tcm_of regions)) (map of_block (memory_of placed)),
      length-map (tcm_of regions) of_region,
      length-map (memory_of placed) of_block,
      length-filter tcm regions,
      count_by-le-length tcm regions,
      length-filter memory placed,
      count_by-le-length memory placed,
      sound.few,
    )

-- the blocks of memory of what is loaded are what a dump asks for
parts_fit : (core : CoreState) (load : LoadState) → core.loaded ≡ Some load → IsWhole core.regions load → AreParts (filter_map (part_at core) (memory_ranges core.regions load.placed))
parts_fit core load loaded whole =
    let ranges = memory_ranges core.regions load.placed in
    let parts = filter_map (part_at core) ranges in
    let all = each_has core load loaded whole in
    let shown = all_shown (part_at core) part_range (IsRead core) ranges all in
    let count : length parts ≡ length ranges = sym (length-map parts part_range) ∙ ap length shown in
    let bytes : sum_by part_len parts ≡ sum_by (λ (range : ℕ × ℕ). range.1) ranges = sym (sum_map part_range (λ (range : ℕ × ℕ). range.1) parts) ∙ ap (sum_by (λ (range : ℕ × ℕ). range.1)) shown in
    record {
      some = omega (arith, count, some_range core.regions load.placed load.entry whole.entry);
      few = omega (arith, count, few_ranges core.regions load.placed whole.sound whole.few);
      small = omega (arith, bytes, lengths_few core.regions load.placed whole.sound whole.placed, whole.sound.small);
      each = λ k d lt. (each_holds (part_at core) part_range (IsRead core) ranges all k d lt).1;
    }

-- each range of a core that is loaded or not has its bytes
pub all_have : (core : CoreState) → IfSome core.loaded (IsWhole core.regions) → All (HasPart core) (core_ranges core)
all_have core whole =
    elim (option_cases core.loaded) [
      | inl none ↦ subst (λ loaded. All (HasPart core) (loaded_ranges core.regions loaded)) (sym none) (All-nil (HasPart core))
      | inr found ↦
          subst (λ loaded. All (HasPart core) (loaded_ranges core.regions loaded)) (sym found.1)
          (each_has core found.0 found.1 (subst (λ loaded. IfSome loaded (IsWhole core.regions)) found.1 whole))
    ]

-- the blocks of memory of a core, as a dump takes them
pub blocks_are : (core : CoreState) → IfSome core.loaded (IsWhole core.regions) → AreBlocksOf core (core_parts core)
blocks_are core whole =
    let all = all_have core whole in
    record {
      ranges = all_shown (part_at core) part_range (IsRead core) (core_ranges core) all;
      bytes = λ k d lt. (each_holds (part_at core) part_range (IsRead core) (core_ranges core) all k d lt).0;
    }

pub blocks_fit : (core : CoreState) → IfSome core.loaded (IsWhole core.regions) → is_some core.loaded ≡ true → AreParts (core_parts core)
blocks_fit core whole some =
    elim (option_cases core.loaded) [
      | inl none ↦ absurd (false≢true (sym (ap is_some none) ∙ some))
      | inr found ↦
          subst (λ loaded. AreParts (filter_map (part_at core) (loaded_ranges core.regions loaded))) (sym found.1)
          (parts_fit core found.0 found.1 (subst (λ loaded. IfSome loaded (IsWhole core.regions)) found.1 whole))
    ]

-- no block is empty
pub ranges_some : (core : CoreState) → IfSome core.loaded (IsWhole core.regions) → All (λ range. 1 ≤ range.1) (core_ranges core)
ranges_some core whole k d lt =
    let has = all_have core whole k d lt in
    omega (arith, has.holds.1.some, ap (λ (range : ℕ × ℕ). range.1) has.shows)

-- the block of a number
pub nth_block : (core : CoreState) (index : ℕ) → IfSome core.loaded (IsWhole core.regions) → slice_get (core_parts core) index ≡ option_and_then (part_at core) (slice_get (core_ranges core) index)
nth_block core index whole = nth_given (part_at core) part_range (IsRead core) (core_ranges core) index (all_have core whole)

-- what a core keeps of its load, as its view says
pub load_whole : (regions : List Region) (loaded : Loaded) → SoundRegions regions → IsSoundLoad regions loaded → IsWhole regions (load_view loaded)
load_whole regions loaded sound good = record {
  sound = sound;
  placed = good.placed;
  memory = good.length ∙ good.map.memory;
  few = good.few;
  entry = good.entry;
}

pub given_whole : (regions : List Region) (given : Option Loaded) → SoundRegions regions → IfSome given (IsSoundLoad regions) → IfSome (option_map load_view given) (IsWhole regions)
given_whole regions None sound good = tt
given_whole regions (Some loaded) sound good = load_whole regions loaded sound good
