-- What a map keeps of its blocks (own).
use Rattle.std.specs.Prelude.{◌≡◌, ℕ, ◌+◌, ◌^◌, ◌<◌, ◌≤◌, false, List, All, IfSome}
use Rattle.std.specs.List.{AllPairs}
use Rattle.std.specs.List.Sorted.{IsNonDecreasingBy}
use Rattle.memory_pool.specs.Ranges.{ranges_meet}
use Rattle.memory_pool.specs.Soundness.{IsRange}
use Rattle.addr_translate.specs.declared.mapped.Mapped.{Mapped}

-- the bytes of a block lie in a memory of so many bytes (own)
abbrev pub IsInMemory : ℕ → Mapped → Type 0
IsInMemory memory_len block = IfSome block.at (λ at. at + block.len ≤ memory_len)

-- no two mapped blocks meet (own)
abbrev pub AreApart : List Mapped → Type 0
AreApart blocks = AllPairs (λ a b. ranges_meet a.da a.len b.da b.len ≡ false) blocks

-- mapped blocks within the addresses and the memory, of which no two meet (own)
pub record SoundMapped (blocks : List Mapped) (memory_len : ℕ) : Type 0 where
  pub ranges : All (λ block. IsRange block.da block.pa block.len) blocks
  pub inside : All (IsInMemory memory_len) blocks
  pub apart : AreApart blocks

-- the same in the order of their device addresses, in a memory of fewer bytes than there are addresses (own)
pub record SoundMap (blocks : List Mapped) (memory_len : ℕ) : Type 0 where
  pub sound : SoundMapped blocks memory_len
  pub small : memory_len < 2 ^ 32
  pub ordered : IsNonDecreasingBy (λ block. block.da) blocks
