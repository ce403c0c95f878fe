-- Where a range of device addresses stands in memory, by the block that holds it.
use Rattle.std.proofs.Common.{◌≡◌, ℕ, ◌+◌, ◌-◌, ◌<◌, ◌≤◌, ◌⊎◌, not, true, false, inl, inr, List, [], ◌∷◌, get_or, map, Option, Some, None, cond, refl, ap, sym, subst, ◌∙◌, arith, ltb}
use Rattle.std.specs.List.{All, Contains, filter, find}
use Rattle.std.specs.Option.{is_some, option_and_then, option_map}
use Rattle.std.proofs.lemmas.Bool.{and_from, cases_Bool, le-leb, lt-ltb, le-ltb}
use Rattle.std.proofs.lemmas.List.Elements.{All-append, All-map}
use Rattle.memory_pool.specs.Ranges.{lies_in}
use Rattle.memory_pool.specs.Regions.{is_pool, memory_len}
use Rattle.memory_pool.specs.Soundness.{SoundPlacement, SoundRegions}
use Rattle.memory_pool.specs.declared.blocks.Block.{Block}
use Rattle.memory_pool.specs.declared.blocks.Use.{Use}
use Rattle.memory_pool.specs.declared.blocks.Use.TheVariants as usage
use Rattle.memory_pool.specs.declared.regions.Region.{Region}
use Rattle.memory_pool.proofs.Find.{find_is}
use Rattle.memory_pool.proofs.Meets.{within_ends}
use Rattle.memory_pool.proofs.Sound.{option_cases}
use Rattle.addr_translate.specs.Mapped.{mapped_block, mapped_blocks, mapped_region, memory_place, place_of_use}
use Rattle.addr_translate.specs.Maps.{holds, place_in}
use Rattle.addr_translate.specs.OrderedMaps.{IsInMemory}
use Rattle.addr_translate.specs.declared.mapped.Mapped.{Mapped}
use Rattle.addr_translate.specs.declared.mapped.Place.{Place}
use Rattle.addr_translate.proofs.Found.{found}
use Rattle.addr_translate.proofs.Sound.{mapped_sound}
use Rattle.fw_load.specs.Memory.{memory_at}
use Rattle.load_laws.specs.Parts.{HoldsInMemory, IsInOneBlock}

-- the device address of a place in memory, where the regions stand one after the other from a base on
abbrev pub address_of : ℕ → List Region → ℕ → Option ℕ
address_of base [] place = None
address_of base (region ∷ more) place = cond (ltb place (base + region.len)) (Some (region.da + (place - base))) (address_of (base + region.len) more place)

-- each byte of a range has its address
placed_address : (base : ℕ) (regions : List Region) (da len at k : ℕ) → memory_place base regions da len ≡ Some at → k < len → (base ≤ at) × (address_of base regions (at + k) ≡ Some (da + k))
placed_address base [] da len at k is below = absurd (cc)
placed_address base (region ∷ more) da len at k is below =
    elim (cases_Bool (lies_in da len region)) [
      | inl inside ↦
          let ends = within_ends da len region.da region.len inside in
          let e : Some (base + (da - region.da)) ≡ Some at = rw inside at is in
          let same : base + (da - region.da) ≡ at = cc in
          let within : ltb (at + k) (base + region.len) ≡ true = lt-ltb (at + k) (base + region.len) (omega (arith, same, ends.0, ends.1, below)) in
          let far : region.da + (at + k - base) ≡ da + k = omega (arith, same, ends.0) in
          (omega (arith, same), rw within (ap Some far))
      | inr outside ↦
          let e : memory_place (base + region.len) more da len ≡ Some at = rw outside at is in
          let later = placed_address (base + region.len) more da len at k e below in
          let past : ltb (at + k) (base + region.len) ≡ false = le-ltb (at + k) (base + region.len) (omega (arith, later.0)) in
          (omega (arith, later.0), rw past later.1)
    ]

-- a mapped block has no place, or that of its range among the regions
abbrev IsBased : List Region → Mapped → Type 0
IsBased regions block = (block.at ≡ None) ⊎ (block.at ≡ memory_place 0 regions block.da block.len)

use_based : (regions : List Region) (what : Use) (da len : ℕ) → (place_of_use regions what da len ≡ None) ⊎ (place_of_use regions what da len ≡ memory_place 0 regions da len)
use_based regions (usage.Window index) da len = inl refl
use_based regions (usage.Carveout index) da len = inr refl
use_based regions (usage.Ring index number) da len = inr refl
use_based regions (usage.Buffers index) da len = inr refl

all_based : (regions : List Region) (placed : List Block) → All (IsBased regions) (mapped_blocks regions placed)
all_based regions placed =
    All-append (IsBased regions) (map (mapped_region regions) (filter (λ region. not (is_pool region)) regions)) (map (mapped_block regions) placed)
    (All-map (IsBased regions) (mapped_region regions) (filter (λ region. not (is_pool region)) regions) (λ k d less. inr refl))
    (All-map (IsBased regions) (mapped_block regions) placed (λ k d less. use_based regions (get_or placed k d).what (get_or placed k d).da (get_or placed k d).len))

-- the block of memory in which a range stands
pub record StandsIn (regions : List Region) (placed : List Block) (da len at : ℕ) : Type 0 where
  pub block : Mapped
  pub among : Contains (mapped_blocks regions placed) block
  pub whole : holds da len block ≡ true
  pub base : ℕ
  pub based : block.at ≡ Some base
  pub place : base + (da - block.da) ≡ at

pub stands_in : (regions : List Region) (placed : List Block) (da len at : ℕ) → memory_at regions placed da len ≡ Some at → StandsIn regions placed da len at
stands_in regions placed da len at is =
    elim (option_cases (find (holds da len) (mapped_blocks regions placed))) [
      | inl none ↦ absurd (let e : None ≡ Some at = rw none at is in cc)
      | inr one ↦
          let held = find_is (holds da len) (mapped_blocks regions placed) one.0 one.1 in
          let e : option_map (λ (at : ℕ). at + (da - one.0.da)) one.0.at ≡ Some at = rw one.1 at is in
          elim (option_cases one.0.at) [
            | inl none ↦ absurd (let f : None ≡ Some at = rw none at e in cc)
            | inr base ↦
                let f : Some (base.0 + (da - one.0.da)) ≡ Some at = rw base.1 at e in
                record { block = one.0; among = held.1; whole = held.0; base = base.0; based = base.1; place = cc }
          ]
    ]

some_mapped : {A B : Type 0} (f : A → B) (found : Option A) → is_some (option_map f found) ≡ is_some found
some_mapped f None = refl
some_mapped f (Some x) = refl

-- what is known of each mapped block is known of one
of_block : (P : Mapped → Type 0) (blocks : List Mapped) (block : Mapped) → All P blocks → Contains blocks block → P block
of_block P blocks block all has = subst P has.2 (all has.0 block has.1)

module _ (regions : List Region) (placed : List Block) where
  -- each byte of a range that has a place has its address there
  pub address_there : (da len at k : ℕ) → memory_at regions placed da len ≡ Some at → k < len → address_of 0 regions (at + k) ≡ Some (da + k)
  address_there da len at k is below =
      let one = stands_in regions placed da len at is in
      let block = one.block in
      let ends = within_ends da len block.da block.len one.whole in
      elim (of_block (IsBased regions) (mapped_blocks regions placed) block (all_based regions placed) one.among) [
        | inl none ↦ absurd (let e : None ≡ Some one.base = sym none ∙ one.based in cc)
        | inr is_place ↦
            let there = (placed_address 0 regions block.da block.len one.base (da - block.da + k) (sym is_place ∙ one.based) (omega (arith, ends.0, ends.1, below))).1 in
            let place : at + k ≡ one.base + (da - block.da + k) = omega (arith, one.place) in
            let address : block.da + (da - block.da + k) ≡ da + k = omega (arith, ends.0) in
            ap (address_of 0 regions) place ∙ there ∙ ap Some address
      ]

  -- an address whose byte stands among those of a range is one of the range
  pub covered_there : (from len at da place : ℕ) → memory_at regions placed from len ≡ Some at → memory_at regions placed da 1 ≡ Some place → at ≤ place → place < at + len → (from ≤ da) × (da < from + len)
  covered_there from len at da place range byte low high =
      let k = place - at in
      let one = address_there from len at k range (omega (arith, low, high)) in
      let other = address_there da 1 place 0 byte (omega arith) in
      let same : at + k ≡ place + 0 = omega (arith, low) in
      let e : Some (from + k) ≡ Some (da + 0) = sym one ∙ ap (address_of 0 regions) same ∙ other in
      let f : from + k ≡ da + 0 = cc in
      (omega (arith, f), omega (arith, f, low, high))

  -- one block of memory holds a range that has a place
  pub in_one_block : (da len at : ℕ) → memory_at regions placed da len ≡ Some at → IsInOneBlock regions placed da len
  in_one_block da len at is =
      let one = stands_in regions placed da len at is in
      let holds_it : HoldsInMemory da len one.block = record { whole = one.whole; memory = ap is_some one.based } in
      (one.among.0, one.block, one.among.1, one.among.2, holds_it)

  module _ (sound : SoundRegions regions) (held : SoundPlacement regions placed) where
    -- the place of the one block that holds a range
    pub found_at : (da len : ℕ) (block : Mapped) → 1 ≤ len → Contains (mapped_blocks regions placed) block → holds da len block ≡ true
        → memory_at regions placed da len ≡ option_map (λ (at : ℕ). at + (da - block.da)) block.at
    found_at da len block some has whole =
        let blocks = mapped_blocks regions placed in
        let is = found blocks da len has.0 block (mapped_sound regions placed sound held).apart some has.1 (ap (holds da len) has.2 ∙ whole) in
        ap (λ found. option_and_then (λ (place : Place). place.at) (option_map (place_in da) found)) (is ∙ ap Some has.2)

    -- an address of a range has its byte among those of the range
    pub place_there : (from len at da place : ℕ) → memory_at regions placed from len ≡ Some at → memory_at regions placed da 1 ≡ Some place → from ≤ da → da < from + len → place ≡ at + (da - from)
    place_there from len at da place range byte low high =
        let one = stands_in regions placed from len at range in
        let block = one.block in
        let ends = within_ends from len block.da block.len one.whole in
        let whole : holds da 1 block ≡ true = and_from _ _ (le-leb block.da da (omega (arith, ends.0, low))) (le-leb (da + 1) (block.da + block.len) (omega (arith, ends.1, high))) in
        let is = found_at da 1 block (omega arith) one.among whole in
        let e : Some place ≡ Some (one.base + (da - block.da)) = sym byte ∙ is ∙ ap (option_map (λ (at : ℕ). at + (da - block.da))) one.based in
        let f : place ≡ one.base + (da - block.da) = cc in
        omega (arith, f, one.place, ends.0, low)

    -- a range that has a place lies in memory
    pub inside_memory : (da len at : ℕ) → memory_at regions placed da len ≡ Some at → at + len ≤ memory_len regions
    inside_memory da len at is =
        let one = stands_in regions placed da len at is in
        let block = one.block in
        let ends = within_ends da len block.da block.len one.whole in
        let inside : IsInMemory (memory_len regions) block = of_block (IsInMemory (memory_len regions)) (mapped_blocks regions placed) block (mapped_sound regions placed sound held).inside one.among in
        let room : one.base + block.len ≤ memory_len regions = rw one.based at inside in
        omega (arith, room, one.place, ends.0, ends.1)

    -- and a range that one block of memory holds has a place
    pub has_place : (da len : ℕ) → 1 ≤ len → IsInOneBlock regions placed da len → is_some (memory_at regions placed da len) ≡ true
    has_place da len some any =
        let block = any.1 in
        ap is_some (found_at da len block some (any.0, any.2, any.3) any.4.whole) ∙ some_mapped (λ (at : ℕ). at + (da - block.da)) block.at ∙ any.4.memory
