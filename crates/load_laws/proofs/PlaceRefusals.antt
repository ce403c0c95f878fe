-- What holds of each refusal of a placement: what holds of each of its five kinds for the number of each entry.
use Rattle.std.proofs.Common.{◌≡◌, ℕ, zero, suc, ◌+◌, ◌<◌, ◌≤◌, ◌^◌, ◌==◌, ◌||◌, not, Bool, List, [], ◌∷◌, ◌++◌, length, Option, Some, None, Result, Ok, Err, refl, arith}
use Rattle.std.specs.Prelude.{All, filter, nat_lt}
use Rattle.std.specs.List.{list_any}
use Rattle.std.specs.Result.{IfErr}
use Rattle.std.proofs.lemmas.Bool.{cond_both}
use Rattle.std.proofs.lemmas.List.Elements.{All-append, All-cons, All-filter, All-head, All-nil, All-tail}
use Rattle.resource_table.specs.declared.entries.Vdev.{Vdev}
use Rattle.resource_table.specs.declared.entries.Entry.{Entry}
use Rattle.resource_table.specs.declared.entries.Entry.TheVariants as entry
use Rattle.memory_pool.specs.declared.blocks.Block.{Block}
use Rattle.memory_pool.specs.declared.blocks.Use.{Use}
use Rattle.memory_pool.specs.declared.blocks.Use.TheVariants as usage
use Rattle.memory_pool.specs.declared.faults.PlaceFault.{PlaceFault}
use Rattle.memory_pool.specs.declared.faults.PlaceFault.TheVariants as place_fault
use Rattle.memory_pool.specs.declared.regions.Region.{Region}
use Rattle.memory_pool.specs.Placements.{placed_from, placement, then_ok}
use Rattle.memory_pool.specs.Places.{any_at, block_in, entry_of, given_in, least_free, memory_of, next_block, pool_of, window_at, windows_of}
use Rattle.memory_pool.specs.Ranges.{meets_block, meets_region}
use Rattle.memory_pool.specs.Wanted.{buffers_wanted, in_order, is_anywhere, memory_wanted, ring_wanted, rings_wanted, wanted_by, wanted_from}

-- what is to hold of a refusal holds of each that names this entry
pub record OfEntry (P : PlaceFault → Type 0) (index : ℕ) : Type 0 where
  pub outside : P (place_fault.FixedOutside index)
  pub overlap : P (place_fault.FixedOverlap index)
  pub room : P (place_fault.NoRoom index)
  pub window : P (place_fault.WindowOverlap index)
  pub past : P (place_fault.WindowPastEnd index)

-- what is wanted, by what holds of its refusals
abbrev Refuses : (PlaceFault → Type 0) → {W : Type 0} → (List Region → List Block → W → Result Block PlaceFault) → W → Type 0
Refuses P next one = (regions : List Region) (before : List Block) → IfErr (next regions before one) P

given_refuses : (P : PlaceFault → Type 0) (found : Option Region) (before : List Block) (purpose : Use) (da len : ℕ) → OfEntry P (entry_of purpose) → IfErr (given_in found before purpose da len) P
given_refuses P None before purpose da len of = of.outside
given_refuses P (Some pool) before purpose da len of =
    cond_both (list_any (meets_block da len) (memory_of before)) (Err (place_fault.FixedOverlap (entry_of purpose))) (Ok (block_in pool purpose len da)) (λ found. IfErr found P) (λ _. of.overlap) (λ _. tt)

any_refuses : (P : PlaceFault → Type 0) (found : Option Block) (purpose : Use) → OfEntry P (entry_of purpose) → IfErr (any_at found purpose) P
any_refuses P None purpose of = of.room
any_refuses P (Some block) purpose of = tt

window_refuses : (P : PlaceFault → Type 0) (regions : List Region) (before : List Block) (index da pa len : ℕ) → OfEntry P index → IfErr (window_at regions before index da pa len) P
window_refuses P regions before index da pa len of =
    cond_both (nat_lt (2 ^ 32) (da + len) || nat_lt (2 ^ 32) (pa + len)) (Err (place_fault.WindowPastEnd index)) _ (λ found. IfErr found P) (λ _. of.past)
    (λ _. cond_both (list_any (meets_region da len) regions || list_any (meets_block da len) (windows_of before)) (Err (place_fault.WindowOverlap index)) _ (λ found. IfErr found P) (λ _. of.window) (λ _. tt))

memory_refuses : (P : PlaceFault → Type 0) (purpose : Use) (da len align : ℕ) → OfEntry P (entry_of purpose) → Refuses P next_block (memory_wanted purpose da len align)
memory_refuses P purpose da len align of =
    cond_both (da == 0xffffffff) _ _ (Refuses P next_block) (λ _ regions before. any_refuses P (least_free regions before purpose len align) purpose of)
    (λ _ regions before. given_refuses P (pool_of regions da len) before purpose da len of)

rings_refuse : (P : PlaceFault → Type 0) (index : ℕ) (device : Vdev) → OfEntry P index → All (Refuses P next_block) (rings_wanted index device)
rings_refuse P index device of =
    All-append (Refuses P next_block) _ _
    (cond_both (nat_lt 0 device.count) (ring_wanted index 0 device.first ∷ []) [] (All (Refuses P next_block))
    (λ _. All-cons (Refuses P next_block) (ring_wanted index 0 device.first) [] (memory_refuses P (usage.Ring index 0) device.first.da _ device.first.align of) (All-nil (Refuses P next_block)))
    (λ _. All-nil (Refuses P next_block)))
    (cond_both (nat_lt 1 device.count) (ring_wanted index 1 device.second ∷ []) [] (All (Refuses P next_block))
    (λ _. All-cons (Refuses P next_block) (ring_wanted index 1 device.second) [] (memory_refuses P (usage.Ring index 1) device.second.da _ device.second.align of) (All-nil (Refuses P next_block)))
    (λ _. All-nil (Refuses P next_block)))

buffers_refuse : (P : PlaceFault → Type 0) (index : ℕ) (device : Vdev) → OfEntry P index → All (Refuses P next_block) (buffers_wanted index device)
buffers_refuse P index device of =
    cond_both (device.id == 7) _ [] (All (Refuses P next_block))
    (λ _. All-cons (Refuses P next_block) _ [] (λ regions before. any_refuses P (least_free regions before (usage.Buffers index) _ 4096) (usage.Buffers index) of) (All-nil (Refuses P next_block)))
    (λ _. All-nil (Refuses P next_block))

entry_refuses : (P : PlaceFault → Type 0) (index : ℕ) (one : Entry) → OfEntry P index → All (Refuses P next_block) (wanted_by index one)
entry_refuses P index (entry.Carveout da pa len name) of =
    cond_both (len == 0) [] (memory_wanted (usage.Carveout index) da len 4096 ∷ []) (All (Refuses P next_block)) (λ _. All-nil (Refuses P next_block))
    (λ _. All-cons (Refuses P next_block) (memory_wanted (usage.Carveout index) da len 4096) [] (memory_refuses P (usage.Carveout index) da len 4096 of) (All-nil (Refuses P next_block)))
entry_refuses P index (entry.Devmem da pa len name) of =
    cond_both (len == 0) [] _ (All (Refuses P next_block)) (λ _. All-nil (Refuses P next_block))
    (λ _. All-cons (Refuses P next_block) _ [] (λ regions before. window_refuses P regions before index da pa len of) (All-nil (Refuses P next_block)))
entry_refuses P index (entry.Trace da len name) of = All-nil (Refuses P next_block)
entry_refuses P index (entry.Device device) of =
    All-append (Refuses P next_block) (rings_wanted index device) (buffers_wanted index device) (rings_refuse P index device of) (buffers_refuse P index device of)
entry_refuses P index (entry.Skipped kind) of = All-nil (Refuses P next_block)

entries_refuse : (P : PlaceFault → Type 0) (index : ℕ) (entries : List Entry) → ((k : ℕ) → k < index + length entries → OfEntry P k) → All (Refuses P next_block) (wanted_from index entries)
entries_refuse P index [] of = All-nil (Refuses P next_block)
entries_refuse P index (first ∷ more) of =
    All-append (Refuses P next_block) (wanted_by index first) (wanted_from (index + 1) more) (entry_refuses P index first (of index (omega arith)))
    (entries_refuse P (index + 1) more (λ k less. of k (omega (arith, less))))

then_refuses : (P : PlaceFault → Type 0) {A B : Type 0} (next : A → Result B PlaceFault) (found : Result A PlaceFault) → IfErr found P → ((one : A) → IfErr (next one) P) → IfErr (then_ok next found) P
then_refuses P next (Ok one) is each = each one
then_refuses P next (Err why) is each = is

from_refuses : (P : PlaceFault → Type 0) (regions : List Region) (before : List Block) (all : _) → All (Refuses P next_block) all → IfErr (placed_from regions before all) P
from_refuses P regions before [] have = tt
from_refuses P regions before (one ∷ more) have =
    then_refuses P (λ block. placed_from regions (before ++ block ∷ []) more) (next_block regions before one) (All-head (Refuses P next_block) one more have regions before)
    (λ block. from_refuses P regions (before ++ block ∷ []) more (All-tail (Refuses P next_block) one more have))

pub placement_refuses : (P : PlaceFault → Type 0) (regions : List Region) (entries : List Entry) → ((k : ℕ) → k < length entries → OfEntry P k) → IfErr (placement regions entries) P
placement_refuses P regions entries of =
    let all = entries_refuse P 0 entries (λ k less. of k (omega (arith, less))) in
    from_refuses P regions [] (in_order (wanted_from 0 entries))
    (All-append (Refuses P next_block) _ _ (All-filter (λ one. not (is_anywhere one)) (Refuses P next_block) (wanted_from 0 entries) all) (All-filter is_anywhere (Refuses P next_block) (wanted_from 0 entries) all))
