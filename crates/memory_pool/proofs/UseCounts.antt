-- Each use that entries ask for has one block of a placement.
use Rattle.std.proofs.Common.{◌≡◌, ℕ, zero, suc, ◌+◌, ◌≤◌, not, Bool, true, false, cond, List, [], ◌∷◌, ◌++◌, Some, Ok, inl, inr, refl, ap, ◌∙◌, arith, eqb, ltb}
use Rattle.std.specs.Prelude.{slice_get}
use Rattle.std.specs.List.{filter, sum_by}
use Rattle.std.proofs.lemmas.Bool.{cases_Bool, cond_both}
use Rattle.std.proofs.lemmas.List.Sums.{sum_by-append, sum_by-cons}
use Rattle.resource_table.specs.declared.entries.Entry.{Entry}
use Rattle.resource_table.specs.declared.entries.Entry.TheVariants as entry
use Rattle.resource_table.specs.declared.entries.Vdev.{Vdev}
use Rattle.vring_layout.specs.Sizes.{ring_size}
use Rattle.memory_pool.specs.Places.{next_block}
use Rattle.memory_pool.specs.Placements.{placed_from, placement}
use Rattle.memory_pool.specs.Wanted.{buffers_wanted, in_order, is_anywhere, memory_wanted, ring_wanted, wanted_by, wanted_from}
use Rattle.memory_pool.specs.declared.blocks.Block.{Block}
use Rattle.memory_pool.specs.declared.blocks.Use.{Use}
use Rattle.memory_pool.specs.declared.blocks.Use.TheVariants as usage
use Rattle.memory_pool.specs.declared.regions.Region.{Region}
use Rattle.memory_pool.specs.declared.wanted.Wanted.{Wanted}
use Rattle.memory_pool.specs.declared.wanted.Wanted.TheVariants as wanted
use Rattle.memory_pool.proofs.Meant.{OfWanted, buffers_len, next_use, ok_next}

-- what a block is wanted for
abbrev use_of : Wanted → Use
use_of (wanted.Given purpose da len) = purpose
use_of (wanted.Any purpose len align) = purpose
use_of (wanted.Window index da pa len) = usage.Window index

abbrev pub one_if : Bool → ℕ
one_if b = cond b 1 0

-- how many blocks are for a use, and how many are wanted for one
abbrev pub blocks_for : (Use → Bool) → List Block → ℕ
blocks_for p blocks = sum_by (λ block. one_if (p block.what)) blocks

abbrev wanted_for : (Use → Bool) → List Wanted → ℕ
wanted_for p all = sum_by (λ one. one_if (p (use_of one))) all

module _ (p : Use → Bool) where
  is_asked : (one : Wanted) → OfWanted (λ purpose len. purpose ≡ use_of one) one
  is_asked (wanted.Given purpose da len) = refl
  is_asked (wanted.Any purpose len align) = refl
  is_asked (wanted.Window index da pa len) = refl

  placed_count : (regions : List Region) (before : List Block) (all : List Wanted) (blocks : List Block) → placed_from regions before all ≡ Ok blocks → blocks_for p blocks ≡ blocks_for p before + wanted_for p all
  placed_count regions before [] blocks is =
      let same : before ≡ blocks = cc in
      let e = ap (blocks_for p) same in
      omega (arith, e)
  placed_count regions before (one ∷ more) blocks is =
      let step = ok_next (λ block. placed_from regions (before ++ block ∷ []) more) (next_block regions before one) blocks is in
      let block = step.0 in
      let what : block.what ≡ use_of one = next_use (λ purpose len. purpose ≡ use_of one) regions before one block (is_asked one) step.1 in
      let here : one_if (p block.what) ≡ one_if (p (use_of one)) = ap (λ purpose. one_if (p purpose)) what in
      let rest = placed_count regions (before ++ block ∷ []) more blocks step.2 in
      let f = λ (block : Block). one_if (p block.what) in
      let g = λ (one : Wanted). one_if (p (use_of one)) in
      omega (arith, rest, here, sum_by-append f before (block ∷ []), sum_by-cons f block [], sum_by-cons g one more)

  split_count : (q : Wanted → Bool) (all : List Wanted) → wanted_for p (filter (λ one. not (q one)) all) + wanted_for p (filter q all) ≡ wanted_for p all
  split_count q [] = refl
  split_count q (one ∷ more) =
      let g = λ (one : Wanted). one_if (p (use_of one)) in
      let rest = split_count q more in
      elim (cases_Bool (q one)) [
        | inl here ↦ rw here (omega (arith, rest, sum_by-cons g one more, sum_by-cons g one (filter q more)))
        | inr other ↦ rw other (omega (arith, rest, sum_by-cons g one more, sum_by-cons g one (filter (λ one. not (q one)) more)))
      ]

  -- the blocks of a placement for a use are as many as its entries want
  placement_count : (regions : List Region) (entries : List Entry) (blocks : List Block) → placement regions entries ≡ Ok blocks → blocks_for p blocks ≡ wanted_for p (wanted_from 0 entries)
  placement_count regions entries blocks is =
      let all = wanted_from 0 entries in
      let g = λ (one : Wanted). one_if (p (use_of one)) in
      let count = placed_count regions [] (in_order all) blocks is in
      omega (arith, count, sum_by-append g (filter (λ one. not (is_anywhere one)) all) (filter is_anywhere all), split_count is_anywhere all)

  memory_use : (purpose : Use) (da len align : ℕ) → use_of (memory_wanted purpose da len align) ≡ purpose
  memory_use purpose da len align = cond_both (eqb da 0xffffffff) (wanted.Any purpose len align) (wanted.Given purpose da len) (λ one. use_of one ≡ purpose) (λ _. refl) (λ _. refl)

  one_memory : (purpose : Use) (da len align : ℕ) → wanted_for p (memory_wanted purpose da len align ∷ []) ≡ one_if (p purpose)
  one_memory purpose da len align =
      let is = ap (λ purpose. one_if (p purpose)) (memory_use purpose da len align) in
      omega (arith, is, sum_by-cons (λ (one : Wanted). one_if (p (use_of one))) (memory_wanted purpose da len align) [])

  -- what a device wants for a use
  device_count : (index : ℕ) (device : Vdev) → wanted_for p (wanted_by index (entry.Device device))
      ≡ cond (ltb 0 device.count) (one_if (p (usage.Ring index 0))) 0 + cond (ltb 1 device.count) (one_if (p (usage.Ring index 1))) 0 + cond (eqb device.id 7) (one_if (p (usage.Buffers index))) 0
  device_count index device =
      let g = λ (one : Wanted). one_if (p (use_of one)) in
      let first = cond (ltb 0 device.count) (ring_wanted index 0 device.first ∷ []) [] in
      let second = cond (ltb 1 device.count) (ring_wanted index 1 device.second ∷ []) [] in
      let buffers = buffers_wanted index device in
      let a : sum_by g first ≡ cond (ltb 0 device.count) (one_if (p (usage.Ring index 0))) 0 =
      elim (cases_Bool (ltb 0 device.count)) [
        | inl here ↦ rw here (one_memory (usage.Ring index 0) device.first.da (ring_size device.first.num device.first.align) device.first.align)
        | inr other ↦ rw other refl
      ] in
      let b : sum_by g second ≡ cond (ltb 1 device.count) (one_if (p (usage.Ring index 1))) 0 =
      elim (cases_Bool (ltb 1 device.count)) [
        | inl here ↦ rw here (one_memory (usage.Ring index 1) device.second.da (ring_size device.second.num device.second.align) device.second.align)
        | inr other ↦ rw other refl
      ] in
      let c : sum_by g buffers ≡ cond (eqb device.id 7) (one_if (p (usage.Buffers index))) 0 =
      elim (cases_Bool (eqb device.id 7)) [
        | inl here ↦ rw here (omega (arith, sum_by-cons g (wanted.Any (usage.Buffers index) (buffers_len device) 4096) []))
        | inr other ↦ rw other refl
      ] in
      omega (arith, a, b, c, sum_by-append g (first ++ second) buffers, sum_by-append g first second)

  -- nothing is wanted for a use by an entry that is none of its uses
  pub record Misses (index : ℕ) : Type 0 where
    pub carveout : p (usage.Carveout index) ≡ false
    pub window : p (usage.Window index) ≡ false
    pub first : p (usage.Ring index 0) ≡ false
    pub second : p (usage.Ring index 1) ≡ false
    pub buffers : p (usage.Buffers index) ≡ false

  zero_both : (b c : Bool) → c ≡ false → cond b (one_if c) 0 ≡ 0
  zero_both true c none = ap one_if none
  zero_both false c none = refl

  none_by : (index : ℕ) (one : Entry) → Misses index → wanted_for p (wanted_by index one) ≡ 0
  none_by index (entry.Carveout da pa len name) misses =
      cond_both (eqb len 0) [] (memory_wanted (usage.Carveout index) da len 4096 ∷ []) (λ all. wanted_for p all ≡ 0) (λ _. refl) (λ _. one_memory (usage.Carveout index) da len 4096 ∙ ap one_if misses.carveout)
  none_by index (entry.Devmem da pa len name) misses =
      cond_both (eqb len 0) [] (wanted.Window index da pa len ∷ []) (λ all. wanted_for p all ≡ 0) (λ _. refl)
      (λ _. let e = ap one_if misses.window in omega (arith, e, sum_by-cons (λ (one : Wanted). one_if (p (use_of one))) (wanted.Window index da pa len) []))
  none_by index (entry.Trace da len name) misses = refl
  none_by index (entry.Device device) misses =
      omega (arith, device_count index device, zero_both (ltb 0 device.count) (p (usage.Ring index 0)) misses.first, zero_both (ltb 1 device.count) (p (usage.Ring index 1)) misses.second, zero_both (eqb device.id 7) (p (usage.Buffers index)) misses.buffers)
  none_by index (entry.Skipped kind) misses = refl

  none_from : (index : ℕ) (entries : List Entry) → ((j : ℕ) → index ≤ j → Misses j) → wanted_for p (wanted_from index entries) ≡ 0
  none_from index [] misses = refl
  none_from index (one ∷ more) misses =
      let g = λ (one : Wanted). one_if (p (use_of one)) in
      omega (arith, none_by index one (misses index (omega arith)), none_from (index + 1) more (λ j past. misses j (omega arith)), sum_by-append g (wanted_by index one) (wanted_from (index + 1) more))

  -- of the entries one alone has a use
  one_from : (index k at : ℕ) (entries : List Entry) (one : Entry) → index + k ≡ at → slice_get entries k ≡ Some one → ((j : ℕ) → (j ≡ at → ⊥) → Misses j) → wanted_for p (wanted_from index entries) ≡ wanted_for p (wanted_by at one)
  one_from index k at [] one there is misses = absurd (cc)
  one_from index zero at (first ∷ more) one there is misses =
      let g = λ (one : Wanted). one_if (p (use_of one)) in
      let same : first ≡ one = cc in
      let here : index ≡ at = omega (arith, there) in
      let e : wanted_for p (wanted_by index first) ≡ wanted_for p (wanted_by at one) = ap (λ j. wanted_for p (wanted_by j first)) here ∙ ap (λ x. wanted_for p (wanted_by at x)) same in
      omega (arith, e, none_from (index + 1) more (λ j past. misses j (λ e. omega (arith, e, past, here))), sum_by-append g (wanted_by index first) (wanted_from (index + 1) more))
  one_from index (suc k) at (first ∷ more) one there is misses =
      let g = λ (one : Wanted). one_if (p (use_of one)) in
      let rest = one_from (index + 1) k at more one (omega (arith, there)) is misses in
      omega (arith, none_by index first (misses index (λ e. omega (arith, e, there))), rest, sum_by-append g (wanted_by index first) (wanted_from (index + 1) more))

  -- the blocks of a placement for uses of a device alone are as many as it has such uses
  pub device_uses : (regions : List Region) (entries : List Entry) (blocks : List Block) (at : ℕ) (device : Vdev) → placement regions entries ≡ Ok blocks → slice_get entries at ≡ Some (entry.Device device)
      → ((j : ℕ) → (j ≡ at → ⊥) → Misses j)
      → blocks_for p blocks ≡ cond (ltb 0 device.count) (one_if (p (usage.Ring at 0))) 0 + cond (ltb 1 device.count) (one_if (p (usage.Ring at 1))) 0 + cond (eqb device.id 7) (one_if (p (usage.Buffers at))) 0
  device_uses regions entries blocks at device is there misses =
      placement_count regions entries blocks is ∙ one_from 0 at at entries (entry.Device device) (omega arith) there misses ∙ device_count at device
