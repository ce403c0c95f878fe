-- Why an image is not loaded (own).
use Rattle.std.specs.Prelude.{ℕ, Option, Some, None}
use Rattle.elf_image.specs.Faults as elf
use Rattle.resource_table.specs.Faults as table
use Rattle.memory_pool.specs.Faults as pool
use Rattle.memory_pool.specs.declared.faults.PlaceFault.{PlaceFault}
use Rattle.memory_pool.specs.declared.faults.PlaceFault.TheVariants as place
use Rattle.fw_load.specs.declared.faults.LoadFault.{LoadFault}
use Rattle.fw_load.specs.declared.faults.LoadFault.TheVariants as fault

-- a refusal of a placement, of which out of memory is one of the load (own)
abbrev pub of_place : PlaceFault → LoadFault
of_place place.NoMemory = fault.NoMemory
of_place refused = fault.Place refused

-- the number of a fault, where it has one (own)
abbrev pub load_fault_number : LoadFault → Option ℕ
load_fault_number (fault.Elf refused) = Some (elf.fault_number refused)
load_fault_number (fault.Table refused) = Some (table.fault_number refused)
load_fault_number (fault.Place refused) = pool.place_fault_number refused
load_fault_number (fault.SegmentUnmapped index) = Some 40
load_fault_number fault.EntryUnmapped = Some 41
load_fault_number fault.NoMemory = None

-- the number of the program header or of the entry of the table that a fault is about (own)
abbrev pub load_fault_index : LoadFault → Option ℕ
load_fault_index (fault.Elf refused) = elf.fault_index refused
load_fault_index (fault.Table refused) = table.fault_index refused
load_fault_index (fault.Place refused) = pool.place_fault_index refused
load_fault_index (fault.SegmentUnmapped index) = Some index
load_fault_index fault.EntryUnmapped = None
load_fault_index fault.NoMemory = None
