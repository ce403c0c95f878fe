-- The least place beside blocks that stand in order.
use Rattle.std.proofs.Common.{◌≡◌, ℕ, ◌+◌, ◌/◌, ◌%◌, ◌<◌, ◌≤◌, Bool, true, false, not, ◌&&◌, ◌||◌, inl, inr, List, length, take, drop, get_or, Some, None, ap, sym, ◌∙◌, arith, leb, length-take, length-drop, ◌-◌, max, ◌^◌, ltb}
use Rattle.std.specs.Prelude.{◌==◌}
use Rattle.std.specs.List.{list_any}
use Rattle.std.proofs.Math.Nat.{mul-le-mul_left}
use Rattle.std.proofs.lemmas.Bool.{cases_eq, cases_lt, eq-eqb, ne_eqb, le-leb, lt-leb, leb-true, leb-false, lt-ltb, le-ltb, and_from, and_left, and_right, not_from_true, not_from_false, or_from, or_right}
use Rattle.std.proofs.lemmas.List.{get_or-take, get_or_default, take-append-drop}
use Rattle.std.proofs.Math.Seq.{take-length}
use Rattle.std.proofs.lemmas.List.Folds.{list_any-append, list_any_none, list_any_at}
use Rattle.std.specs.List.Sorted.{IsPartitionPoint}
use Rattle.memory_pool.specs.Ranges.{meets_block, lies_in}
use Rattle.memory_pool.specs.Places.{is_place, least_place}
use Rattle.memory_pool.specs.OrderedBlocks.{IsOrdered}
use Rattle.memory_pool.specs.declared.blocks.Block.{Block}
use Rattle.memory_pool.specs.declared.regions.Region.{Region}
use Rattle.memory_pool.proofs.Find.{find_first, find_none}
use Rattle.memory_pool.proofs.Meets.{meet_from, apart_behind, apart_before}

-- a multiple that is below the next one of an end is below the end
pub below_multiple : (lower end align next : ℕ) → 1 ≤ align → lower % align ≡ 0 → next % align ≡ 0 → next < end + align → lower < next → lower < end
below_multiple lower end align next some lower_is next_is close less =
    elim (cases_lt lower end) [
      | inl below ↦ below
      | inr above ↦ absurd (elim (cases_lt (lower / align) (next / align)) [
        | inl m ↦
            let one : lower / align + 1 ≤ next / align = omega arith in
            omega (arith, mul-le-mul_left align one)
        | inr m ↦ omega (arith, mul-le-mul_left align m)
      ])
    ]

-- a block that ends behind an address and begins before the end of a range there meets the range
pub meets_at : (blocks : List Block) (k : ℕ) (d : Block) (da len : ℕ) → k < length blocks → da < (get_or blocks k d).da + (get_or blocks k d).len → (get_or blocks k d).da < da + len → list_any (meets_block da len) blocks ≡ true
meets_at blocks k d da len lt behind before =
    list_any_at (meets_block da len) blocks k d lt (meet_from da len (get_or blocks k d).da (get_or blocks k d).len behind before)

-- blocks in order, of which those before a number end by an address and the next begins behind a range there, do not meet the range
pub clear_between : (blocks : List Block) (i : ℕ) (da len : ℕ) → IsOrdered blocks → ((k : ℕ) (d : Block) → k < i → k < length blocks → (get_or blocks k d).da + (get_or blocks k d).len ≤ da) → (start : ℕ) (x : Block) → start ≡ (get_or blocks i x).da → da + len ≤ start → list_any (meets_block da len) blocks ≡ false
clear_between blocks i da len ordered passed start x start_is next =
    list_any_none (meets_block da len) blocks (λ k d lt.
    elim (cases_lt k i) [
      | inl before ↦ apart_behind da len (get_or blocks k d).da (get_or blocks k d).len (passed k d before lt)
      | inr behind ↦ apart_before da len (get_or blocks k d).da (get_or blocks k d).len (
          let within : i < length blocks = omega arith in
          let same : (get_or blocks i x).da ≡ (get_or blocks i d).da = ap (λ block. block.da) (get_or_default blocks i x d within) in
          omega (arith, start_is, next, ordered.starts i k d behind lt))
    ])

-- blocks that all end by an address do not meet a range there
pub clear_behind : (blocks : List Block) (i : ℕ) (da len : ℕ) → ((k : ℕ) (d : Block) → k < i → k < length blocks → (get_or blocks k d).da + (get_or blocks k d).len ≤ da) → length blocks ≤ i → list_any (meets_block da len) blocks ≡ false
clear_behind blocks i da len passed all =
    list_any_none (meets_block da len) blocks (λ k d lt. apart_behind da len (get_or blocks k d).da (get_or blocks k d).len (passed k d (omega arith) lt))

-- the first block that ends behind an address says whether a range there meets any
pub meets_first : (blocks : List Block) (first da len start : ℕ) (x : Block) → IsOrdered blocks
    → IsPartitionPoint (λ block. leb (block.da + block.len) da ≡ true) (λ block. leb (block.da + block.len) da ≡ false) blocks first
    → first < length blocks → start ≡ (get_or blocks first x).da → ltb start (da + len) ≡ list_any (meets_block da len) blocks
meets_first blocks first da len start x ordered point within start_is =
    let block = get_or blocks first x in
    elim (cases_lt start (da + len)) [
      | inl less ↦
          lt-ltb start (da + len) less ∙ sym (meets_at blocks first x da len within (leb-false (block.da + block.len) da (point.1 first x (omega arith) within)) (omega (arith, start_is)))
      | inr more ↦
          le-ltb start (da + len) more
          ∙ sym (clear_between blocks first da len ordered (λ k d lt bound. leb-true ((get_or blocks k d).da + (get_or blocks k d).len) da (point.0 k d (omega arith) lt)) start x start_is more)
    ]

-- where all blocks end by an address, a range there meets none
pub meets_none : (blocks : List Block) (first da len : ℕ)
    → IsPartitionPoint (λ block. leb (block.da + block.len) da ≡ true) (λ block. leb (block.da + block.len) da ≡ false) blocks first
    → length blocks ≤ first → list_any (meets_block da len) blocks ≡ false
meets_none blocks first da len point all =
    clear_behind blocks first da len (λ k d lt bound. leb-true ((get_or blocks k d).da + (get_or blocks k d).len) da (point.0 k d (omega arith) lt)) all

any_parts : (p : Block → Bool) (first : ℕ) (blocks : List Block) → list_any p blocks ≡ (list_any p (take first blocks) || list_any p (drop first blocks))
any_parts p first blocks =
    ap (λ all. list_any p all) (sym (take-append-drop first blocks)) ∙ list_any-append p (take first blocks) (drop first blocks)

front_clear : (blocks : List Block) (first from da len : ℕ) → from ≤ da → ((k : ℕ) (d : Block) → k < first → (get_or blocks k d).da + (get_or blocks k d).len ≤ from) → list_any (meets_block da len) (take first blocks) ≡ false
front_clear blocks first from da len ge passed =
    list_any_none (meets_block da len) (take first blocks) (λ k d lt.
    let within : k < first = omega (arith, length-take first blocks) in
    let block = get_or blocks k d in
    rw (get_or-take first blocks k d within) (apart_behind da len block.da block.len (omega (arith, passed k d within))))

-- what is known of an end of blocks: the blocks before a number end by it, and from an address on no place below it will do
pub record IsFreeFrom (blocks : List Block) (from len align index free : ℕ) : Type 0 where
  pub behind : from ≤ free
  pub bound : free < 2 ^ 33
  pub passed : (k : ℕ) (d : Block) → k < index → k < length blocks → (get_or blocks k d).da + (get_or blocks k d).len ≤ free
  pub least : (lower : ℕ) → from ≤ lower → lower < free → lower % align ≡ 0 → list_any (meets_block lower len) blocks ≡ true

-- where no place from there on ends by the next block, the same is known of the end of that block
pub free_more : (blocks : List Block) (from len align index free end : ℕ) (x : Block) → IsFreeFrom blocks from len align index free
    → index < length blocks → end ≡ (get_or blocks index x).da + (get_or blocks index x).len → end < 2 ^ 33
    → ((lower : ℕ) → free ≤ lower → lower % align ≡ 0 → (get_or blocks index x).da < lower + len) → IsFreeFrom blocks from len align (index + 1) (max free end)
free_more blocks from len align index free end x found within end_is bound blocked = record {
  behind = omega (arith, found.behind);
  bound = omega (arith, found.bound);
  passed = λ k d less lt.
      elim (cases_eq k index) [
        | inl same ↦
            let e : get_or blocks k d ≡ get_or blocks index x = ap (λ at. get_or blocks at d) same ∙ get_or_default blocks index d x within in
            let ends : (get_or blocks k d).da + (get_or blocks k d).len ≡ end = ap (λ block. block.da + block.len) e ∙ sym end_is in
            omega arith
        | inr other ↦ omega (arith, found.passed k d (omega arith) lt)
      ];
  least = λ lower ge lt is.
      elim (cases_lt lower free) [
        | inl below ↦ found.least lower ge below is
        | inr above ↦ meets_at blocks index x lower len within (omega (arith, end_is)) (blocked lower above is)
      ];
}

-- no lesser place than the next multiple of the end will do
pub least_from : (blocks : List Block) (from len align index free next : ℕ) → IsFreeFrom blocks from len align index free → 1 ≤ align → next < free + align → next % align ≡ 0
    → (lower : ℕ) → from ≤ lower → lower < next → lower % align ≡ 0 → list_any (meets_block lower len) blocks ≡ true
least_from blocks from len align index free next found some close aligned lower ge less is =
    found.least lower ge (below_multiple lower free align next some is aligned close less) is

-- a multiple from an end on is no less than the next one of the end
pub next_le : (lower free align next : ℕ) → 1 ≤ align → lower % align ≡ 0 → next % align ≡ 0 → next < free + align → free ≤ lower → next ≤ lower
next_le lower free align next some is aligned close ge =
    elim (cases_lt lower next) [
      | inl less ↦ absurd (omega (arith, below_multiple lower free align next some is aligned close less))
      | inr more ↦ more
    ]

-- all elements from a number on
pub take_rest : (blocks : List Block) (first : ℕ) → take (length blocks - first) (drop first blocks) ≡ drop first blocks
take_rest blocks first = rw (← length-drop first blocks) (take-length (drop first blocks))

-- what is known of the least gap behind the blocks that end before a region
pub record IsGap (region : Region) (blocks : List Block) (len align first place : ℕ) : Type 0 where
  pub some : 1 ≤ len
  pub passed : (k : ℕ) (d : Block) → k < first → (get_or blocks k d).da + (get_or blocks k d).len ≤ region.da
  pub from : region.da ≤ place
  pub aligned : place % align ≡ 0
  pub least : (lower : ℕ) → region.da ≤ lower → lower < place → lower % align ≡ 0 → list_any (meets_block lower len) (drop first blocks) ≡ true

pub is_gap : (region : Region) (blocks : List Block) (len align first place : ℕ) → 1 ≤ len
    → IsPartitionPoint (λ block. leb (block.da + block.len) region.da ≡ true) (λ block. leb (block.da + block.len) region.da ≡ false) blocks first
    → region.da ≤ place → place % align ≡ 0
    → ((lower : ℕ) → region.da ≤ lower → lower < place → lower % align ≡ 0 → list_any (meets_block lower len) (drop first blocks) ≡ true)
    → IsGap region blocks len align first place
is_gap region blocks len align first place some point from aligned least = record {
  some = some;
  passed = λ k d lt. leb-true ((get_or blocks k d).da + (get_or blocks k d).len) region.da (point.0 k d (omega arith) lt);
  from = from;
  aligned = aligned;
  least = least;
}

not_below : (region : Region) (blocks : List Block) (len align first place : ℕ) → IsGap region blocks len align first place → (da : ℕ) → region.da ≤ da → da < place → is_place region blocks len align da ≡ false
not_below region blocks len align first place gap da ge lt =
    let any = list_any (meets_block da len) blocks in
    let front = (da % align == 0) && lies_in da len region in
    elim (cases_eq (da % align) 0) [
      | inl aligned ↦
          let here : any ≡ true = any_parts (meets_block da len) first blocks ∙ or_right (list_any (meets_block da len) (take first blocks)) (list_any (meets_block da len) (drop first blocks)) (gap.least da ge lt aligned) in
          and_right front (not any) (not_from_true any here)
      | inr other ↦ and_left front (not any) (and_left (da % align == 0) (lies_in da len region) (ne_eqb (da % align) 0 other))
    ]

-- a gap within the region is its least place
pub place_found : (region : Region) (blocks : List Block) (len align first place : ℕ) → IsGap region blocks len align first place → place + len ≤ region.da + region.len → list_any (meets_block place len) (drop first blocks) ≡ false → least_place region blocks len align ≡ Some place
place_found region blocks len align first place gap within clear =
    let any = list_any (meets_block place len) blocks in
    let none : any ≡ false = any_parts (meets_block place len) first blocks ∙ or_from (list_any (meets_block place len) (take first blocks)) (list_any (meets_block place len) (drop first blocks)) (front_clear blocks first region.da place len gap.from gap.passed) clear in
    let here : is_place region blocks len align place ≡ true =
    and_from ((place % align == 0) && lies_in place len region) (not any)
    (and_from (place % align == 0) (lies_in place len region) (eq-eqb (place % align) 0 gap.aligned)
    (and_from (leb region.da place) (leb (place + len) (region.da + region.len)) (le-leb _ _ gap.from) (le-leb _ _ within)))
    (not_from_false any none) in
    find_first (is_place region blocks len align) region.da region.len place gap.from (omega (arith, gap.some)) here (not_below region blocks len align first place gap)

-- a gap past the end of the region says that there is no place
pub place_missing : (region : Region) (blocks : List Block) (len align first place : ℕ) → IsGap region blocks len align first place → region.da + region.len < place + len → least_place region blocks len align ≡ None
place_missing region blocks len align first place gap past =
    find_none (is_place region blocks len align) region.da region.len (λ da ge lt.
    elim (cases_lt da place) [
      | inl below ↦ not_below region blocks len align first place gap da ge below
      | inr above ↦
          let any = list_any (meets_block da len) blocks in
          and_left ((da % align == 0) && lies_in da len region) (not any)
          (and_right (da % align == 0) (lies_in da len region)
          (and_right (leb region.da da) (leb (da + len) (region.da + region.len)) (lt-leb (da + len) (region.da + region.len) (omega arith))))
    ])
