-- The regions of a core's memory, and which may be added (own).
use Rattle.std.specs.Prelude.{ℕ, ◌+◌, ◌^◌, ◌==◌, nat_lt, nat_le, Bool, true, false, ◌||◌, List, [], ◌∷◌, length, Option}
use Rattle.std.specs.List.{list_any, sum_by}
use Rattle.memory_pool.specs.Ranges.{ranges_meet}
use Rattle.rp_base.specs.Faults.{fault_if, first_fault}
use Rattle.memory_pool.specs.declared.TheConstants.{REGIONS_MOST, MEMORY_MOST}
use Rattle.memory_pool.specs.declared.faults.RegionFault.{RegionFault}
use Rattle.memory_pool.specs.declared.faults.RegionFault.TheVariants as fault
use Rattle.memory_pool.specs.declared.regions.Region.{Region}
use Rattle.rp_base.specs.declared.kinds.RegionKind.{RegionKind}
use Rattle.rp_base.specs.declared.kinds.RegionKind.TheVariants.{Tcm, Pool}

-- whether blocks are placed in a region of this kind (own)
abbrev pub is_pool_kind : RegionKind → Bool
is_pool_kind Tcm = false
is_pool_kind Pool = true

-- whether blocks are placed in a region (own)
abbrev pub is_pool : Region → Bool
is_pool region = is_pool_kind region.kind

-- whether two regions meet, in device or in physical addresses (own)
abbrev pub regions_meet : Region → Region → Bool
regions_meet a b = ranges_meet a.da a.len b.da b.len || ranges_meet a.pa a.len b.pa b.len

-- the bytes of all regions (own)
abbrev pub memory_len : List Region → ℕ
memory_len regions = sum_by (λ region. region.len) regions

-- whether a region is empty or ends past the addresses, or makes the memory of all too large (own)
abbrev pub has_wrong_range : List Region → Region → Bool
has_wrong_range regions region =
    region.len == 0
    || nat_lt (2 ^ 32) (region.da + region.len)
    || nat_lt (2 ^ 32) (region.pa + region.len)
    || nat_lt MEMORY_MOST (memory_len regions + region.len)

-- the tests of a region that is added after others (own)
abbrev pub region_fault : List Region → Region → Option RegionFault
region_fault regions region = first_fault
    (fault_if (nat_le REGIONS_MOST (length regions)) fault.RegionsFull
    ∷ fault_if (has_wrong_range regions region) fault.RegionRange
    ∷ fault_if (list_any (regions_meet region) regions) fault.RegionOverlap
    ∷ [])

-- the regions of a core that declares none (own)
abbrev pub standard_regions : List Region
standard_regions =
    record { kind = Tcm; da = 0; pa = 0x20000000; len = 65536 }
    ∷ record { kind = Pool; da = 0x10000000; pa = 0x30000000; len = 1048576 }
    ∷ []
