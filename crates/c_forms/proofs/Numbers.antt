-- No fault has the number 0.
use Rattle.std.proofs.Common.{ℕ, ◌≤◌, arith}
use Rattle.elf_image.specs.Faults as elf
use Rattle.elf_image.specs.declared.faults.ElfFault.{ElfFault}
use Rattle.elf_image.specs.declared.faults.ElfFault.TheVariants as image
use Rattle.resource_table.specs.Faults as table
use Rattle.resource_table.specs.declared.faults.TableFault.{TableFault}
use Rattle.resource_table.specs.declared.faults.TableFault.TheVariants as entries
use Rattle.memory_pool.specs.declared.faults.PlaceFault.TheVariants as place
use Rattle.memory_pool.specs.declared.faults.RegionFault.{RegionFault}
use Rattle.memory_pool.specs.declared.faults.RegionFault.TheVariants as region
use Rattle.fw_load.specs.declared.faults.LoadFault.{LoadFault}
use Rattle.fw_load.specs.declared.faults.LoadFault.TheVariants as fault
use Rattle.c_forms.specs.Faults.{load_fault_form, region_fault_form}

elf_number : (why : ElfFault) → 1 ≤ elf.fault_number why
elf_number image.Short = omega arith
elf_number image.Magic = omega arith
elf_number image.Class = omega arith
elf_number image.Order = omega arith
elf_number image.EntrySize = omega arith
elf_number image.NoSegments = omega arith
elf_number image.HeadersPastEnd = omega arith
elf_number (image.SegmentPastEnd index) = omega arith
elf_number (image.FileOverMemory index) = omega arith
elf_number image.SectionsPastEnd = omega arith
elf_number image.NamesMissing = omega arith
elf_number image.Numbering = omega arith
elf_number (image.WideAddress index) = omega arith
elf_number image.WideEntry = omega arith

table_number : (why : TableFault) → 1 ≤ table.fault_number why
table_number entries.TableShort = omega arith
table_number entries.Version = omega arith
table_number entries.Reserved = omega arith
table_number entries.Offsets = omega arith
table_number (entries.EntryShort index) = omega arith
table_number (entries.EntryReserved index) = omega arith
table_number (entries.RingCount index) = omega arith
table_number (entries.RingSize index) = omega arith
table_number (entries.RingAlign index) = omega arith
table_number (entries.SecondRpmsg index) = omega arith

pub load_number : (why : LoadFault) → 1 ≤ (load_fault_form why).number
load_number (fault.Elf why) = elf_number why
load_number (fault.Table why) = table_number why
load_number (fault.Place (place.FixedOutside index)) = omega arith
load_number (fault.Place (place.FixedOverlap index)) = omega arith
load_number (fault.Place (place.NoRoom index)) = omega arith
load_number (fault.Place (place.WindowOverlap index)) = omega arith
load_number (fault.Place (place.WindowPastEnd index)) = omega arith
load_number (fault.Place place.NoMemory) = omega arith
load_number (fault.SegmentUnmapped index) = omega arith
load_number fault.EntryUnmapped = omega arith
load_number fault.NoMemory = omega arith

pub region_number : (index : ℕ) (why : RegionFault) → 1 ≤ (region_fault_form index why).number
region_number index region.RegionOverlap = omega arith
region_number index region.RegionRange = omega arith
region_number index region.RegionsFull = omega arith
region_number index region.NoMemory = omega arith
