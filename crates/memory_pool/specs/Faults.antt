-- Why a region or a placement is refused (own).
use Rattle.std.specs.Prelude.{ℕ, Option, Some, None}
use Rattle.memory_pool.specs.declared.faults.RegionFault.{RegionFault}
use Rattle.memory_pool.specs.declared.faults.RegionFault.TheVariants as region
use Rattle.memory_pool.specs.declared.faults.PlaceFault.{PlaceFault}
use Rattle.memory_pool.specs.declared.faults.PlaceFault.TheVariants as place

-- the number of a fault of a region, where it has one (own)
abbrev pub region_fault_number : RegionFault → Option ℕ
region_fault_number region.RegionOverlap = Some 30
region_fault_number region.RegionRange = Some 31
region_fault_number region.RegionsFull = Some 32
region_fault_number region.NoMemory = None

-- the number of a fault of a placement, where it has one (own)
abbrev pub place_fault_number : PlaceFault → Option ℕ
place_fault_number (place.FixedOutside index) = Some 33
place_fault_number (place.FixedOverlap index) = Some 34
place_fault_number (place.NoRoom index) = Some 35
place_fault_number (place.WindowOverlap index) = Some 36
place_fault_number (place.WindowPastEnd index) = Some 37
place_fault_number place.NoMemory = None

-- the number of the entry that a fault of a placement is about (own)
abbrev pub place_fault_index : PlaceFault → Option ℕ
place_fault_index (place.FixedOutside index) = Some index
place_fault_index (place.FixedOverlap index) = Some index
place_fault_index (place.NoRoom index) = Some index
place_fault_index (place.WindowOverlap index) = Some index
place_fault_index (place.WindowPastEnd index) = Some index
place_fault_index place.NoMemory = None
