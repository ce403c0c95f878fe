-- What the blocks of a placement are for, and how long they are.
use Rattle.std.proofs.Common.{◌≡◌, ℕ, zero, suc, ◌+◌, ◌*◌, ◌^◌, ◌<◌, not, ◌||◌, List, [], ◌∷◌, ◌++◌, drop, Option, Some, None, Result, Ok, Err, inl, inr, refl, ap, ◌∙◌, eqb, ltb, add-one, subst}
use Rattle.std.specs.Prelude.{slice_get}
use Rattle.std.specs.List.{All, filter, list_any}
use Rattle.std.proofs.lemmas.Bool.{cases_Bool, cond_both, ltb-true}
use Rattle.std.proofs.lemmas.List.Elements.{All-nil, All-cons, All-head, All-tail, All-append, All-filter, All-push}
use Rattle.resource_table.specs.declared.entries.Entry.{Entry}
use Rattle.resource_table.specs.declared.entries.Entry.TheVariants as entry
use Rattle.resource_table.specs.declared.entries.Ring.{Ring}
use Rattle.resource_table.specs.declared.entries.Vdev.{Vdev}
use Rattle.rp_base.specs.Limits.{ring_capacity}
use Rattle.rp_base.specs.declared.limits.TheConstants.{MESSAGE_MOST}
use Rattle.vring_layout.specs.Sizes.{ring_size}
use Rattle.memory_pool.specs.Places.{any_at, block_in, entry_of, given_in, least_free, memory_of, next_block, place_in, pool_of, window_at, windows_of}
use Rattle.memory_pool.specs.Placements.{placed_from, placement, then_ok}
use Rattle.memory_pool.specs.Ranges.{meets_block, meets_region}
use Rattle.memory_pool.specs.Wanted.{buffers_wanted, in_order, is_anywhere, memory_wanted, ring_wanted, rings_wanted, wanted_by, wanted_from}
use Rattle.memory_pool.specs.declared.blocks.Block.{Block}
use Rattle.memory_pool.specs.declared.blocks.Use.{Use}
use Rattle.memory_pool.specs.declared.blocks.Use.TheVariants as usage
use Rattle.memory_pool.specs.declared.faults.PlaceFault.TheVariants as fault
use Rattle.memory_pool.specs.declared.regions.Region.{Region}
use Rattle.memory_pool.specs.declared.wanted.Wanted.{Wanted}
use Rattle.memory_pool.specs.declared.wanted.Wanted.TheVariants as wanted
use Rattle.memory_pool.proofs.Sound.{option_cases}

-- the bytes of the buffers of a device
abbrev pub buffers_len : Vdev → ℕ
buffers_len device = MESSAGE_MOST * (ring_capacity device.first.num + ring_capacity device.second.num)

-- what holds of each use that an entry asks for, with the bytes that it asks for
abbrev pub OfUses : (Use → ℕ → Type 0) → ℕ → Entry → Type 0
OfUses P index (entry.Carveout da pa len name) = P (usage.Carveout index) len
OfUses P index (entry.Devmem da pa len name) = P (usage.Window index) len
OfUses P index (entry.Trace da len name) = Unit {0}
OfUses P index (entry.Device device) =
    (0 < device.count → P (usage.Ring index 0) (ring_size device.first.num device.first.align))
    × (1 < device.count → P (usage.Ring index 1) (ring_size device.second.num device.second.align))
    × P (usage.Buffers index) (buffers_len device)
OfUses P index (entry.Skipped type) = Unit {0}

-- what holds of the use and the bytes of what is wanted
abbrev pub OfWanted : (Use → ℕ → Type 0) → Wanted → Type 0
OfWanted P (wanted.Given purpose da len) = P purpose len
OfWanted P (wanted.Any purpose len align) = P purpose len
OfWanted P (wanted.Window index da pa len) = P (usage.Window index) len

-- what holds of the use and the bytes of a block
abbrev pub OfBlock : (Use → ℕ → Type 0) → Block → Type 0
OfBlock P block = P block.what block.len

free_use : (P : Use → ℕ → Type 0) (regions : List Region) (before : List Block) (purpose : Use) (len align : ℕ) (block : Block) → P purpose len
    → least_free regions before purpose len align ≡ Some block → OfBlock P block
free_use P [] before purpose len align block here is = absurd (cc)
free_use P (region ∷ more) before purpose len align block here is =
    elim (option_cases (place_in region (memory_of before) len align)) [
      | inl none ↦
          let e : least_free more before purpose len align ≡ Some block = rw none at is in
          free_use P more before purpose len align block here e
      | inr found ↦
          let e : Some (block_in region purpose len found.0) ≡ Some block = rw found.1 at is in
          let same : block_in region purpose len found.0 ≡ block = cc in
          subst (OfBlock P) same here
    ]

given_use : (P : Use → ℕ → Type 0) (pool : Option Region) (before : List Block) (purpose : Use) (da len : ℕ) (block : Block) → P purpose len
    → given_in pool before purpose da len ≡ Ok block → OfBlock P block
given_use P None before purpose da len block here is = absurd (cc)
given_use P (Some pool) before purpose da len block here is =
    elim (cases_Bool (list_any (meets_block da len) (memory_of before))) [
      | inl meets ↦ absurd (let e : Err (fault.FixedOverlap (entry_of purpose)) ≡ Ok block = rw meets at is in cc)
      | inr clear ↦
          let e : Ok (block_in pool purpose len da) ≡ Ok block = rw clear at is in
          let same : block_in pool purpose len da ≡ block = cc in
          subst (OfBlock P) same here
    ]

any_use : (found : Option Block) (purpose : Use) (block : Block) → any_at found purpose ≡ Ok block → found ≡ Some block
any_use None purpose block is = absurd (cc)
any_use (Some other) purpose block is = let same : other ≡ block = cc in ap Some same

window_use : (P : Use → ℕ → Type 0) (regions : List Region) (before : List Block) (index da pa len : ℕ) (block : Block) → P (usage.Window index) len
    → window_at regions before index da pa len ≡ Ok block → OfBlock P block
window_use P regions before index da pa len block here is =
    elim (cases_Bool (ltb (2 ^ 32) (da + len) || ltb (2 ^ 32) (pa + len))) [
      | inl past ↦ absurd (let e : Err (fault.WindowPastEnd index) ≡ Ok block = rw past at is in cc)
      | inr ends ↦
          elim (cases_Bool (list_any (meets_region da len) regions || list_any (meets_block da len) (windows_of before))) [
            | inl meets ↦ absurd (let e : Err (fault.WindowOverlap index) ≡ Ok block = rw (ends, meets) at is in cc)
            | inr clear ↦
                let window : Block = record { what = usage.Window index; da = da; pa = pa; len = len } in
                let e : Ok window ≡ Ok block = rw (ends, clear) at is in
                let same : window ≡ block = cc in
                subst (OfBlock P) same here
          ]
    ]

pub next_use : (P : Use → ℕ → Type 0) (regions : List Region) (before : List Block) (one : Wanted) (block : Block) → OfWanted P one → next_block regions before one ≡ Ok block → OfBlock P block
next_use P regions before (wanted.Given purpose da len) block here is = given_use P (pool_of regions da len) before purpose da len block here is
next_use P regions before (wanted.Any purpose len align) block here is =
    free_use P regions before purpose len align block here (any_use (least_free regions before purpose len align) purpose block is)
next_use P regions before (wanted.Window index da pa len) block here is = window_use P regions before index da pa len block here is

pub ok_next : {A B E : Type 0} (next : A → Result B E) (r : Result A E) (y : B) → then_ok next r ≡ Ok y → (x : A) × (r ≡ Ok x) × (next x ≡ Ok y)
ok_next next (Ok x) y e = (x, refl, e)
ok_next next (Err refused) y e = absurd (cc)

placed_uses : (P : Use → ℕ → Type 0) (regions : List Region) (before : List Block) (all : List Wanted) (blocks : List Block) → All (OfBlock P) before → All (OfWanted P) all
    → placed_from regions before all ≡ Ok blocks → All (OfBlock P) blocks
placed_uses P regions before [] blocks meant asked is =
    let same : before ≡ blocks = cc in
    rw (← same) meant
placed_uses P regions before (one ∷ more) blocks meant asked is =
    let step = ok_next (λ block. placed_from regions (before ++ block ∷ []) more) (next_block regions before one) blocks is in
    let here = next_use P regions before one step.0 (All-head (OfWanted P) one more asked) step.1 in
    placed_uses P regions (before ++ step.0 ∷ []) more blocks (All-push (OfBlock P) before step.0 meant here) (All-tail (OfWanted P) one more asked) step.2

memory_use : (P : Use → ℕ → Type 0) (purpose : Use) (da len align : ℕ) → P purpose len → OfWanted P (memory_wanted purpose da len align)
memory_use P purpose da len align here =
    cond_both (eqb da 0xffffffff) (wanted.Any purpose len align) (wanted.Given purpose da len) (OfWanted P) (λ e. here) (λ e. here)

ring_use : (P : Use → ℕ → Type 0) (index number : ℕ) (ring : Ring) → P (usage.Ring index number) (ring_size ring.num ring.align) → OfWanted P (ring_wanted index number ring)
ring_use P index number ring here = memory_use P (usage.Ring index number) ring.da _ ring.align here

one_asked : (P : Use → ℕ → Type 0) (one : Wanted) → OfWanted P one → All (OfWanted P) (one ∷ [])
one_asked P one here = All-cons (OfWanted P) one [] here (All-nil (OfWanted P))

entry_asked : (P : Use → ℕ → Type 0) (index : ℕ) (one : Entry) → OfUses P index one → All (OfWanted P) (wanted_by index one)
entry_asked P index (entry.Carveout da pa len name) asked =
    cond_both (eqb len 0) [] (memory_wanted (usage.Carveout index) da len 4096 ∷ []) (All (OfWanted P))
    (λ e. All-nil (OfWanted P))
    (λ e. one_asked P (memory_wanted (usage.Carveout index) da len 4096) (memory_use P (usage.Carveout index) da len 4096 asked))
entry_asked P index (entry.Devmem da pa len name) asked =
    cond_both (eqb len 0) [] (wanted.Window index da pa len ∷ []) (All (OfWanted P))
    (λ e. All-nil (OfWanted P))
    (λ e. one_asked P (wanted.Window index da pa len) asked)
entry_asked P index (entry.Trace da len name) asked = All-nil (OfWanted P)
entry_asked P index (entry.Device device) asked =
    let Q = OfWanted P in
    let ring = λ (number : ℕ) (ring : Ring). ring_wanted index number ring in
    let buffers = wanted.Any (usage.Buffers index) (buffers_len device) 4096 in
    All-append Q (rings_wanted index device) (buffers_wanted index device)
    (All-append Q _ _
    (cond_both (ltb 0 device.count) (ring 0 device.first ∷ []) [] (All Q)
    (λ e. one_asked P (ring 0 device.first) (ring_use P index 0 device.first (asked.0 (ltb-true 0 device.count e))))
    (λ e. All-nil Q))
    (cond_both (ltb 1 device.count) (ring 1 device.second ∷ []) [] (All Q)
    (λ e. one_asked P (ring 1 device.second) (ring_use P index 1 device.second (asked.1 (ltb-true 1 device.count e))))
    (λ e. All-nil Q)))
    (cond_both (eqb device.id 7) (buffers ∷ []) [] (All Q) (λ e. one_asked P buffers asked.2) (λ e. All-nil Q))
entry_asked P index (entry.Skipped type) asked = All-nil (OfWanted P)

pub get_of_drop : (entries : List Entry) (index : ℕ) (one : Entry) (more : List Entry) → drop index entries ≡ one ∷ more → (slice_get entries index ≡ Some one) × (drop (suc index) entries ≡ more)
get_of_drop [] zero one more is = absurd (cc)
get_of_drop [] (suc index) one more is = absurd (cc)
get_of_drop (first ∷ rest) zero one more is =
    let head : first ≡ one = cc in
    let tail : rest ≡ more = cc in
    (ap Some head, tail)
get_of_drop (first ∷ rest) (suc index) one more is = get_of_drop rest index one more is

all_asked : (P : Use → ℕ → Type 0) (entries : List Entry) → ((index : ℕ) (one : Entry) → slice_get entries index ≡ Some one → OfUses P index one)
    → (index : ℕ) (left : List Entry) → drop index entries ≡ left → All (OfWanted P) (wanted_from index left)
all_asked P entries asked index [] is = All-nil (OfWanted P)
all_asked P entries asked index (one ∷ more) is =
    let step = get_of_drop entries index one more is in
    All-append (OfWanted P) (wanted_by index one) (wanted_from (index + 1) more) (entry_asked P index one (asked index one step.0))
    (all_asked P entries asked (index + 1) more (ap (λ i. drop i entries) (add-one index) ∙ step.1))

-- what holds of each use that an entry asks for, with its bytes, holds of those of the blocks of a placement
pub placement_uses : (P : Use → ℕ → Type 0) (regions : List Region) (entries : List Entry) (blocks : List Block) → ((index : ℕ) (one : Entry) → slice_get entries index ≡ Some one → OfUses P index one)
    → placement regions entries ≡ Ok blocks → All (OfBlock P) blocks
placement_uses P regions entries blocks asked is =
    let Q = OfWanted P in
    let all = all_asked P entries asked 0 entries refl in
    placed_uses P regions [] (in_order (wanted_from 0 entries)) blocks (All-nil (OfBlock P))
    (All-append Q (filter (λ one. not (is_anywhere one)) (wanted_from 0 entries)) (filter is_anywhere (wanted_from 0 entries))
    (All-filter (λ one. not (is_anywhere one)) Q (wanted_from 0 entries) all) (All-filter is_anywhere Q (wanted_from 0 entries) all)) is
