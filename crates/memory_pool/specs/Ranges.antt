-- Ranges of addresses, each given by its first address and its length in bytes (own).
use Rattle.std.specs.Prelude.{ℕ, ◌+◌, nat_lt, nat_le, Bool, ◌&&◌}
use Rattle.memory_pool.specs.declared.blocks.Block.{Block}
use Rattle.memory_pool.specs.declared.regions.Region.{Region}

-- whether two ranges that are not empty have an address in common (own)
abbrev pub ranges_meet : ℕ → ℕ → ℕ → ℕ → Bool
ranges_meet start len other other_len = nat_lt start (other + other_len) && nat_lt other (start + len)

-- whether a range lies in another (own)
abbrev pub lies_within : ℕ → ℕ → ℕ → ℕ → Bool
lies_within start len other other_len = nat_le other start && nat_le (start + len) (other + other_len)

-- whether a range of device addresses meets those of a region (own)
abbrev pub meets_region : ℕ → ℕ → Region → Bool
meets_region da len region = ranges_meet da len region.da region.len

-- whether a range of device addresses lies in those of a region (own)
abbrev pub lies_in : ℕ → ℕ → Region → Bool
lies_in da len region = lies_within da len region.da region.len

-- whether a range of device addresses meets those of a block (own)
abbrev pub meets_block : ℕ → ℕ → Block → Bool
meets_block da len block = ranges_meet da len block.da block.len
