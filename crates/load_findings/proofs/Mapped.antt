-- Which ranges the memory of a core holds.
use Rattle.std.proofs.Common.{◌≡◌, ℕ, ◌+◌, ◌-◌, Bool, true, false, not, ◌&&◌, ◌||◌, List, [], ◌∷◌, ◌++◌, Option, Some, None, inl, inr, refl, ap, sym, ◌∙◌, append_assoc, arith}
use Rattle.std.specs.Prelude.{map, filter, option_map, option_and_then, is_some, is_none}
use Rattle.std.specs.List.{list_any}
use Rattle.std.proofs.lemmas.Bool.{cases_Bool, le-leb}
use Rattle.std.proofs.lemmas.List.Folds.{list_any-append}
use Rattle.memory_pool.specs.Places.{is_window_use}
use Rattle.memory_pool.specs.Ranges.{lies_in, lies_within}
use Rattle.memory_pool.specs.Regions.{is_pool}
use Rattle.memory_pool.specs.declared.blocks.Block.{Block}
use Rattle.memory_pool.specs.declared.blocks.Use.{Use}
use Rattle.memory_pool.specs.declared.blocks.Use.TheVariants as usage
use Rattle.memory_pool.specs.declared.regions.Region.{Region}
use Rattle.addr_translate.specs.Mapped.{mapped_block, mapped_region, memory_place, place_of_use}
use Rattle.addr_translate.specs.Maps.{place_among}
use Rattle.addr_translate.specs.declared.mapped.Mapped.{Mapped}
use Rattle.addr_translate.specs.declared.mapped.Place.{Place}
use Rattle.fw_load.specs.Memory.{memory_at}
use Rattle.load_findings.specs.Walks.{always_holds, is_block_memory}

-- whether a range has a place in memory among mapped blocks
abbrev has_place : List Mapped → ℕ → ℕ → Bool
has_place blocks da len = is_some (option_and_then (λ (place : Place). place.at) (place_among blocks da len))

-- a range has a place where a region holds it
pub placed_where_held : (base : ℕ) (regions : List Region) (da len : ℕ) → is_some (memory_place base regions da len) ≡ list_any (lies_in da len) regions
placed_where_held base [] da len = refl
placed_where_held base (region ∷ more) da len =
    elim (cases_Bool (lies_in da len region)) [
      | inl here ↦ rw here refl
      | inr other ↦ rw other (placed_where_held (base + region.len) more da len)
    ]

moved : (at : Option ℕ) (offset : ℕ) → is_some (option_map (λ at. at + offset) at) ≡ is_some at
moved None offset = refl
moved (Some at) offset = refl

use_place : (regions : List Region) (purpose : Use) (da len : ℕ) → is_some (place_of_use regions purpose da len) ≡ (not (is_window_use purpose) && list_any (lies_in da len) regions)
use_place regions (usage.Window index) da len = refl
use_place regions (usage.Carveout index) da len = placed_where_held 0 regions da len
use_place regions (usage.Ring index number) da len = placed_where_held 0 regions da len
use_place regions (usage.Buffers index) da len = placed_where_held 0 regions da len

-- among placed blocks the first that holds a range decides
pub placed_memory : (regions : List Region) (blocks : List Block) (da len : ℕ) → has_place (map (mapped_block regions) blocks) da len ≡ is_block_memory regions blocks da len
placed_memory regions [] da len = refl
placed_memory regions (block ∷ more) da len =
    elim (cases_Bool (lies_within da len block.da block.len)) [
      | inl here ↦ rw here (moved (place_of_use regions block.what block.da block.len) (da - block.da) ∙ use_place regions block.what block.da block.len)
      | inr other ↦ rw other (placed_memory regions more da len)
    ]

holds_itself : (region : Region) → lies_in region.da region.len region ≡ true
holds_itself region = rw (le-leb region.da region.da (omega arith), le-leb (region.da + region.len) (region.da + region.len) (omega arith)) refl

or_true : (a : Bool) → (a || true) ≡ true
or_true true = refl
or_true false = refl

-- a region among others is held by one
held_among : (front more : List Region) (region : Region) → list_any (lies_in region.da region.len) (front ++ region ∷ more) ≡ true
held_among front more region =
    let p = lies_in region.da region.len in
    list_any-append p front (region ∷ more) ∙ rw (holds_itself region) (or_true (list_any p front))

-- the regions that are always mapped decide before the blocks
mapped_memory : (regions front rest : List Region) (blocks : List Block) (da len : ℕ) → regions ≡ front ++ rest
    → has_place (map (mapped_region regions) (filter (λ region. not (is_pool region)) rest) ++ map (mapped_block regions) blocks) da len
    ≡ (list_any (always_holds da len) rest || is_block_memory regions blocks da len)
mapped_memory regions front [] blocks da len same = placed_memory regions blocks da len
mapped_memory regions front (region ∷ more) blocks da len same =
    let next = mapped_memory regions (front ++ region ∷ []) more blocks da len (same ∙ sym (append_assoc front (region ∷ []) more)) in
    let held = ap (list_any (lies_in region.da region.len)) same ∙ held_among front more region in
    elim (cases_Bool (is_pool region)) [
      | inl pool ↦ rw pool next
      | inr memory ↦
          elim (cases_Bool (lies_within da len region.da region.len)) [
            | inl here ↦ rw (memory, here) (moved (memory_place 0 regions region.da region.len) (da - region.da) ∙ placed_where_held 0 regions region.da region.len ∙ held)
            | inr other ↦ rw (memory, other) next
          ]
    ]

-- whether one block of memory holds a range whole
pub is_memory : (regions : List Region) (blocks : List Block) (da len : ℕ)
    → is_some (memory_at regions blocks da len) ≡ (list_any (always_holds da len) regions || is_block_memory regions blocks da len)
is_memory regions blocks da len = mapped_memory regions [] regions blocks da len refl

-- whether no memory holds it
pub lacks_is : (at : Option ℕ) → is_none at ≡ not (is_some at)
lacks_is None = refl
lacks_is (Some at) = refl
