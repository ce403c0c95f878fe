-- A region that passes its tests keeps the regions of a core sound.
use Rattle.std.proofs.Common.{◌≡◌, ◌+◌, ◌^◌, ◌≤◌, Bool, true, false, ◌||◌, List, [], ◌∷◌, ◌++◌, length, get_or, None, refl, arith, ltb, leb, length-append}
use Rattle.std.specs.Prelude.{◌==◌}
use Rattle.std.specs.List.{list_any}
use Rattle.std.proofs.lemmas.Bool.{or_parts, or_from, ltb-false, leb-false, eqb-false}
use Rattle.std.proofs.lemmas.List.Elements.{All-push}
use Rattle.std.proofs.lemmas.List.Quantifiers.{all_pairs_push}
use Rattle.std.proofs.lemmas.List.Sums.{sum_by-append}
use Rattle.rp_base.specs.Faults.{fault_if, first_fault}
use Rattle.memory_pool.specs.Ranges.{ranges_meet}
use Rattle.memory_pool.specs.Regions.{has_wrong_range, memory_len, region_fault, regions_meet}
use Rattle.memory_pool.specs.Soundness.{IsRange, SoundRegions}
use Rattle.memory_pool.specs.declared.TheConstants.{REGIONS_MOST, MEMORY_MOST}
use Rattle.memory_pool.specs.declared.faults.RegionFault.TheVariants as fault
use Rattle.memory_pool.specs.declared.regions.Region.{Region}
use Rattle.memory_pool.proofs.Find.{none_at}
use Rattle.memory_pool.proofs.Meets.{apart_back}

-- where three tests have no fault, none of them fails
all_pass : {F : Type 0} (a b c : Bool) (x y z : F) → first_fault (fault_if a x ∷ fault_if b y ∷ fault_if c z ∷ []) ≡ None → (a ≡ false) × (b ≡ false) × (c ≡ false)
all_pass false false false x y z e = (refl, refl, refl)
all_pass true b c x y z e = absurd (cc)
all_pass false true c x y z e = absurd (cc)
all_pass false false true x y z e = absurd (cc)

-- where none of three tests fails, they have no fault
pub none_fails : {F : Type 0} (a b c : Bool) (x y z : F) → a ≡ false → b ≡ false → c ≡ false → None ≡ first_fault (fault_if a x ∷ fault_if b y ∷ fault_if c z ∷ [])
none_fails a b c x y z p q r = rw (p, q, r) refl

regions_back : (a b : Region) → regions_meet a b ≡ false → regions_meet b a ≡ false
regions_back a b e =
    let parts = or_parts (ranges_meet a.da a.len b.da b.len) (ranges_meet a.pa a.len b.pa b.len) e in
    or_from (ranges_meet b.da b.len a.da a.len) (ranges_meet b.pa b.len a.pa a.len) (apart_back a.da a.len b.da b.len parts.0) (apart_back a.pa a.len b.pa b.len parts.1)

-- a region of a right range is not empty, ends within the addresses, and leaves the memory of all small
right_range : (regions : List Region) (region : Region) → has_wrong_range regions region ≡ false → IsRange region.da region.pa region.len × (memory_len regions + region.len ≤ MEMORY_MOST)
right_range regions region e =
    let empty = region.len == 0 in
    let device = ltb (2 ^ 32) (region.da + region.len) in
    let physical = ltb (2 ^ 32) (region.pa + region.len) in
    let large = or_parts (empty || device || physical) (ltb MEMORY_MOST (memory_len regions + region.len)) e in
    let high = or_parts (empty || device) physical large.0 in
    let low = or_parts empty device high.0 in (
      record {
        some = omega (arith, eqb-false region.len 0 low.0);
        device = ltb-false (2 ^ 32) (region.da + region.len) low.1;
        physical = ltb-false (2 ^ 32) (region.pa + region.len) high.1;
      },
      ltb-false MEMORY_MOST (memory_len regions + region.len) large.1,
    )

-- sound regions and one more that passes its tests are sound
pub added_sound : (regions : List Region) (region : Region) → SoundRegions regions → region_fault regions region ≡ None → SoundRegions (regions ++ region ∷ [])
added_sound regions region sound e =
    let pass = all_pass (leb REGIONS_MOST (length regions)) (has_wrong_range regions region) (list_any (regions_meet region) regions) fault.RegionsFull fault.RegionRange fault.RegionOverlap e in
    let range = right_range regions region pass.1 in
    record {
      few = omega (arith, leb-false REGIONS_MOST (length regions) pass.0, length-append regions (region ∷ []));
      small = omega (arith, range.1, sum_by-append (λ region. region.len) regions (region ∷ []));
      ranges = All-push (λ region. IsRange region.da region.pa region.len) regions region sound.ranges range.0;
      apart = all_pairs_push (λ a b. regions_meet a b ≡ false) regions region sound.apart
          (λ k d lt. regions_back region (get_or regions k d) (none_at (regions_meet region) regions k d lt pass.2));
    }
