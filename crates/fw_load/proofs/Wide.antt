-- A range from past the device addresses, or of more bytes than there are, stands nowhere.
use Rattle.std.proofs.Common.{◌≡◌, ℕ, ◌+◌, ◌-◌, ◌<◌, ◌≤◌, ◌^◌, ◌&&◌, ◌⊎◌, inl, inr, Bool, true, false, cond, List, [], ◌∷◌, Option, Some, None, IfSome, All, refl, arith}
use Rattle.std.specs.Prelude.{nat_le}
use Rattle.std.specs.List.{find}
use Rattle.std.specs.Option.{option_map, option_and_then}
use Rattle.std.proofs.lemmas.List.Elements.{All-head, All-tail}
use Rattle.memory_pool.specs.Soundness.{IsRange}
use Rattle.addr_translate.specs.Maps.{Mapping, holds, place_among, place_at, place_in}
use Rattle.addr_translate.specs.OrderedMaps.{IsInMemory, SoundMap}
use Rattle.addr_translate.specs.declared.mapped.Mapped.{Mapped}
use Rattle.addr_translate.specs.declared.mapped.Place.{Place}

-- a range that a block holds is no longer, and ends no later
held : (da len start size : ℕ) → (nat_le start da && nat_le (da + len) (start + size)) ≡ true → (len ≤ size) × (da + len ≤ start + size)
held da len start size e = (grind arith, grind arith)

no_place : (at : Option ℕ) (len size memory_len offset : ℕ) → IfSome at (λ at. at + size ≤ memory_len) → memory_len < len → len ≤ size → option_map (λ at. at + offset) at ≡ None
no_place None len size memory_len offset inside long fits = refl
no_place (Some at) len size memory_len offset inside long fits = absurd (omega arith)

first_block : (block : Mapped) (memory_len da len : ℕ) (test : Bool) (others : Option Mapped) → holds da len block ≡ test → IsRange block.da block.pa block.len → IsInMemory memory_len block → memory_len < 2 ^ 32
    → 1 ≤ len → (2 ^ 32 ≤ da) ⊎ (2 ^ 32 ≤ len) → option_and_then (λ (place : Place). place.at) (option_map (place_in da) others) ≡ None
    → option_and_then (λ (place : Place). place.at) (option_map (place_in da) (cond test (Some block) others)) ≡ None
first_block block memory_len da len true others e range inside small some wide none =
    let fits = held da len block.da block.len e in
    elim wide [
      | inl past ↦ absurd (omega (arith, range.device, fits.1))
      | inr long ↦ no_place block.at len block.len memory_len (da - block.da) inside (omega arith) fits.0
    ]
first_block block memory_len da len false others e range inside small some wide none = none

none_among : (blocks : List Mapped) (memory_len da len : ℕ) → All (λ block. IsRange block.da block.pa block.len) blocks → All (IsInMemory memory_len) blocks → memory_len < 2 ^ 32
    → 1 ≤ len → (2 ^ 32 ≤ da) ⊎ (2 ^ 32 ≤ len) → option_and_then (λ (place : Place). place.at) (place_among blocks da len) ≡ None
none_among [] memory_len da len ranges inside small some wide = refl
none_among (block ∷ more) memory_len da len ranges inside small some wide =
    first_block block memory_len da len (holds da len block) (find (holds da len) more) refl
    (All-head (λ block. IsRange block.da block.pa block.len) block more ranges) (All-head (IsInMemory memory_len) block more inside) small some wide
    (none_among more memory_len da len (All-tail (λ block. IsRange block.da block.pa block.len) block more ranges) (All-tail (IsInMemory memory_len) block more inside) small some wide)

pub none_wide : (map : Mapping) (da len : ℕ) → SoundMap map.blocks map.memory_len → 1 ≤ len → (2 ^ 32 ≤ da) ⊎ (2 ^ 32 ≤ len) → place_at map da len ≡ None
none_wide map da len sound some wide = none_among map.blocks map.memory_len da len sound.sound.ranges sound.sound.inside sound.small some wide
