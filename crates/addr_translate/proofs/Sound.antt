-- The mapped blocks of a sound placement are sound.
use Rattle.std.proofs.Common.{◌≡◌, ℕ, ◌+◌, ◌≤◌, true, false, not, inl, inr, List, [], ◌∷◌, get_or, Option, Some, None, ap, sym, ◌∙◌, arith, map}
use Rattle.std.specs.Option.{IfSome}
use Rattle.std.specs.List.{All, Any, Contains, filter}
use Rattle.std.proofs.lemmas.Bool.{cases_Bool, cases_order, or_parts, not-true, false≢true}
use Rattle.std.proofs.lemmas.List.Elements.{All-append, All-filter, All-map, All-contains_itself, filter_passes}
use Rattle.std.specs.List.Sorted.{IsPermutation}
use Rattle.std.proofs.lemmas.List.Sorted.{All-permutation}
use Rattle.std.proofs.lemmas.List.{get_or_default}
use Rattle.std.proofs.lemmas.List.Sums.{sum_by-cons}
use Rattle.memory_pool.specs.Ranges.{ranges_meet, lies_in, meets_region}
use Rattle.memory_pool.specs.Regions.{is_pool, memory_len, regions_meet}
use Rattle.memory_pool.specs.Soundness.{IsHeld, IsHeldBy, IsRange, SoundPlacement, SoundRegions}
use Rattle.memory_pool.specs.declared.blocks.Block.{Block}
use Rattle.memory_pool.specs.declared.blocks.Use.{Use}
use Rattle.memory_pool.specs.declared.blocks.Use.TheVariants as usage
use Rattle.memory_pool.specs.declared.regions.Region.{Region}
use Rattle.memory_pool.proofs.Find.{none_at}
use Rattle.memory_pool.proofs.Meets.{apart_back, apart_within, within_ends}
use Rattle.addr_translate.specs.Mapped.{mapped_block, mapped_blocks, mapped_region, memory_place, place_of_use}
use Rattle.addr_translate.specs.OrderedMaps.{IsInMemory, SoundMapped}
use Rattle.addr_translate.specs.declared.mapped.Mapped.{Mapped}
use Rattle.addr_translate.proofs.Pairs.{EachTwo, from_pairs, to_pairs, two_append, two_filter, two_map, two_weaker, pairs_permuted}

moved : (at : Option ℕ) (len a b : ℕ) → a ≤ b → IfSome at (λ at. at + len ≤ a) → IfSome at (λ at. at + len ≤ b)
moved None len a b le inside = tt
moved (Some at) len a b le inside = omega arith

-- a place in the memory of regions leaves room for the range
pub place_inside : (base : ℕ) (regions : List Region) (da len : ℕ) → IfSome (memory_place base regions da len) (λ at. at + len ≤ base + memory_len regions)
place_inside base [] da len = tt
place_inside base (region ∷ more) da len =
    let all = sum_by-cons (λ region. region.len) region more in
    elim (cases_Bool (lies_in da len region)) [
      | inl inside ↦
          let ends = within_ends da len region.da region.len inside in
          rw inside (omega (arith, ends.0, ends.1, all))
      | inr outside ↦
          rw outside (moved (memory_place (base + region.len) more da len) len (base + region.len + memory_len more) (base + memory_len (region ∷ more)) (omega (arith, all)) (place_inside (base + region.len) more da len))
    ]

region_inside : (regions : List Region) (region : Region) → IsInMemory (memory_len regions) (mapped_region regions region)
region_inside regions region =
    moved (memory_place 0 regions region.da region.len) region.len (0 + memory_len regions) (memory_len regions) (omega arith) (place_inside 0 regions region.da region.len)

use_inside : (regions : List Region) (purpose : Use) (da len : ℕ) → IfSome (place_of_use regions purpose da len) (λ at. at + len ≤ memory_len regions)
use_inside regions (usage.Window index) da len = tt
use_inside regions (usage.Carveout index) da len = moved (memory_place 0 regions da len) len (0 + memory_len regions) (memory_len regions) (omega arith) (place_inside 0 regions da len)
use_inside regions (usage.Ring index number) da len = moved (memory_place 0 regions da len) len (0 + memory_len regions) (memory_len regions) (omega arith) (place_inside 0 regions da len)
use_inside regions (usage.Buffers index) da len = moved (memory_place 0 regions da len) len (0 + memory_len regions) (memory_len regions) (omega arith) (place_inside 0 regions da len)

-- two mapped blocks do not meet
abbrev Apart : Mapped → Mapped → Type 0
Apart a b = ranges_meet a.da a.len b.da b.len ≡ false

apart_both : (a b : Mapped) → Apart a b → Apart b a
apart_both a b e = apart_back a.da a.len b.da b.len e

-- a region that is no pool is apart from each pool
pools_apart : (regions : List Region) (region pool : Region) → SoundRegions regions → Contains regions region → Contains regions pool → is_pool region ≡ false → is_pool pool ≡ true → ranges_meet region.da region.len pool.da pool.len ≡ false
pools_apart regions region pool sound one other always placed =
    let first : get_or regions one.0 region ≡ region = one.2 in
    let second : get_or regions other.0 region ≡ pool = get_or_default regions other.0 region pool other.1 ∙ other.2 in
    elim (cases_order one.0 other.0) [
      | inl same ↦
          let is : region ≡ pool = sym first ∙ ap (λ k. get_or regions k region) same ∙ second in
          absurd (false≢true (sym always ∙ ap is_pool is ∙ placed))
      | inr order ↦ elim order [
        | inl less ↦
            let both : regions_meet region pool ≡ false = rw (first, second) at (sound.apart one.0 other.0 region less other.1) in
            (or_parts (ranges_meet region.da region.len pool.da pool.len) (ranges_meet region.pa region.len pool.pa pool.len) both).0
        | inr more ↦
            let both : regions_meet pool region ≡ false = rw (first, second) at (sound.apart other.0 one.0 region more one.1) in
            apart_back pool.da pool.len region.da region.len (or_parts (ranges_meet pool.da pool.len region.da region.len) (ranges_meet pool.pa pool.len region.pa region.len) both).0
      ]
    ]

memory_apart : (regions : List Region) (region : Region) (block : Block) → SoundRegions regions → Contains regions region → is_pool region ≡ false → Any (IsHeldBy block) regions → ranges_meet region.da region.len block.da block.len ≡ false
memory_apart regions region block sound has always held =
    let pool = held.1 in
    apart_within block.da block.len region.da region.len pool.da pool.len held.4.inside
    (pools_apart regions region pool sound has (held.0, held.2, held.3) always held.4.pool)

-- a region that is no pool is apart from what is held by the regions
held_apart : (regions : List Region) (region : Region) (purpose : Use) (block : Block) → SoundRegions regions → Contains regions region → is_pool region ≡ false → IsHeld regions purpose block → ranges_meet region.da region.len block.da block.len ≡ false
held_apart regions region (usage.Window index) block sound has always held =
    apart_back block.da block.len region.da region.len (rw has.2 at (none_at (meets_region block.da block.len) regions has.0 region has.1 held))
held_apart regions region (usage.Carveout index) block sound has always held = memory_apart regions region block sound has always held
held_apart regions region (usage.Ring index number) block sound has always held = memory_apart regions region block sound has always held
held_apart regions region (usage.Buffers index) block sound has always held = memory_apart regions region block sound has always held

-- the regions that are always mapped
abbrev tcm_of : List Region → List Region
tcm_of regions = filter (λ region. not (is_pool region)) regions

mapped_ranges : (regions : List Region) (blocks : List Block) → SoundRegions regions → SoundPlacement regions blocks → All (λ one. IsRange one.da one.pa one.len) (mapped_blocks regions blocks)
mapped_ranges regions blocks sound placed =
    All-append (λ one. IsRange one.da one.pa one.len) (map (mapped_region regions) (tcm_of regions)) (map (mapped_block regions) blocks)
    (All-map (λ one. IsRange one.da one.pa one.len) (mapped_region regions) (tcm_of regions)
    (All-filter (λ region. not (is_pool region)) (λ region. IsRange region.da region.pa region.len) regions sound.ranges))
    (All-map (λ one. IsRange one.da one.pa one.len) (mapped_block regions) blocks placed.ranges)

mapped_inside : (regions : List Region) (blocks : List Block) → All (IsInMemory (memory_len regions)) (mapped_blocks regions blocks)
mapped_inside regions blocks =
    All-append (IsInMemory (memory_len regions)) (map (mapped_region regions) (tcm_of regions)) (map (mapped_block regions) blocks)
    (All-map (IsInMemory (memory_len regions)) (mapped_region regions) (tcm_of regions) (λ k d lt. region_inside regions (get_or (tcm_of regions) k d)))
    (All-map (IsInMemory (memory_len regions)) (mapped_block regions) blocks
    (λ k d lt. use_inside regions (get_or blocks k d).what (get_or blocks k d).da (get_or blocks k d).len))

mapped_apart : (regions : List Region) (blocks : List Block) → SoundRegions regions → SoundPlacement regions blocks → EachTwo Apart (mapped_blocks regions blocks)
mapped_apart regions blocks sound placed =
    let tcm = λ (region : Region). not (is_pool region) in
    let device = λ (a b : Region). ranges_meet a.da a.len b.da b.len ≡ false in
    let both = from_pairs (λ a b. regions_meet a b ≡ false) regions sound.apart in
    let weaker : EachTwo device regions = two_weaker (λ a b. regions_meet a b ≡ false) device
    (λ a b e. (or_parts (ranges_meet a.da a.len b.da b.len) (ranges_meet a.pa a.len b.pa b.len) e).0) regions both in
    two_append Apart (map (mapped_region regions) (tcm_of regions)) (map (mapped_block regions) blocks)
    (two_map Apart (mapped_region regions) (tcm_of regions) (two_filter device tcm regions weaker))
    (two_map Apart (mapped_block regions) blocks (from_pairs (λ a b. ranges_meet a.da a.len b.da b.len ≡ false) blocks placed.apart))
    (All-map (λ x. All (Apart x) (map (mapped_block regions) blocks)) (mapped_region regions) (tcm_of regions)
    (λ k d lt.
    let region = get_or (tcm_of regions) k d in
    let always : is_pool region ≡ false = not-true (is_pool region) (filter_passes tcm regions k d lt) in
    let has = All-filter tcm (Contains regions) regions (All-contains_itself regions) k d lt in
    All-map (Apart (mapped_region regions region)) (mapped_block regions) blocks
    (λ i e bound. held_apart regions region (get_or blocks i e).what (get_or blocks i e) sound has always (placed.held i e bound))))

-- all that is mapped is sound
pub mapped_sound : (regions : List Region) (blocks : List Block) → SoundRegions regions → SoundPlacement regions blocks → SoundMapped (mapped_blocks regions blocks) (memory_len regions)
mapped_sound regions blocks sound placed = record {
  ranges = mapped_ranges regions blocks sound placed;
  inside = mapped_inside regions blocks;
  apart = to_pairs Apart (mapped_blocks regions blocks) (mapped_apart regions blocks sound placed);
}

-- sound blocks are sound in any order
pub permuted_sound : (xs ys : List Mapped) (memory_len : ℕ) → IsPermutation xs ys → SoundMapped xs memory_len → SoundMapped ys memory_len
permuted_sound xs ys memory_len moved sound = record {
  ranges = All-permutation (λ one. IsRange one.da one.pa one.len) xs ys moved sound.ranges;
  inside = All-permutation (IsInMemory memory_len) xs ys moved sound.inside;
  apart = pairs_permuted Apart apart_both xs ys moved sound.apart;
}
