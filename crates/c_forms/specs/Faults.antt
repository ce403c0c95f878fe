-- Why something is refused, as C is given (own).
use Rattle.std.specs.Prelude.{ℕ, Option, Some, None}
use Rattle.std.specs.Option.{unwrap_or}
use Rattle.elf_image.specs.Faults as elf
use Rattle.elf_image.specs.declared.faults.ElfFault.{ElfFault}
use Rattle.resource_table.specs.Faults as table
use Rattle.resource_table.specs.declared.faults.TableFault.{TableFault}
use Rattle.memory_pool.specs.Faults.{region_fault_number}
use Rattle.memory_pool.specs.declared.faults.RegionFault.{RegionFault}
use Rattle.fw_load.specs.Faults.{load_fault_number, load_fault_index}
use Rattle.fw_load.specs.declared.faults.LoadFault.{LoadFault}
use Rattle.c_forms.specs.declared.faults.CFault.{CFault}
use Rattle.c_forms.specs.declared.TheConstants.{NO_MEMORY, NOTHING}

-- a fault of a number, about something of a number (own)
abbrev pub fault_of : Option ℕ → Option ℕ → CFault
fault_of number about = record { number = unwrap_or number NO_MEMORY; about = unwrap_or about NOTHING }

-- no fault (own)
abbrev pub no_fault : CFault
no_fault = record { number = 0; about = NOTHING }

-- out of memory (own)
abbrev pub no_memory : CFault
no_memory = record { number = NO_MEMORY; about = NOTHING }

-- the fault of an image (own)
abbrev pub elf_fault : ElfFault → CFault
elf_fault why = fault_of (Some (elf.fault_number why)) (elf.fault_index why)

-- the fault of a resource table (own)
abbrev pub table_fault_form : TableFault → CFault
table_fault_form why = fault_of (Some (table.fault_number why)) (table.fault_index why)

-- the fault of a load (own)
abbrev pub load_fault_form : LoadFault → CFault
load_fault_form why = fault_of (load_fault_number why) (load_fault_index why)

-- the fault of the region of a number (own)
abbrev pub region_fault_form : ℕ → RegionFault → CFault
region_fault_form index why = fault_of (region_fault_number why) (Some index)

-- a fault that there is, or none (own)
abbrev pub told_fault : Option CFault → CFault
told_fault None = no_fault
told_fault (Some why) = why
