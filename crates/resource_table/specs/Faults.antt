-- The faults of a table.
use Rattle.std.specs.Prelude.{ℕ, Option, Some, None}
use Rattle.resource_table.specs.declared.faults.TableFault.{TableFault}
use Rattle.resource_table.specs.declared.faults.TableFault.TheVariants as fault

-- the number of a fault, from 20 (own)
abbrev pub fault_number : TableFault → ℕ
fault_number fault.TableShort = 20
fault_number fault.Version = 21
fault_number fault.Reserved = 22
fault_number fault.Offsets = 23
fault_number (fault.EntryShort index) = 24
fault_number (fault.EntryReserved index) = 25
fault_number (fault.RingCount index) = 26
fault_number (fault.RingSize index) = 27
fault_number (fault.RingAlign index) = 28
fault_number (fault.SecondRpmsg index) = 29

-- the number of the entry that a fault is about (own)
abbrev pub fault_index : TableFault → Option ℕ
fault_index (fault.EntryShort index) = Some index
fault_index (fault.EntryReserved index) = Some index
fault_index (fault.RingCount index) = Some index
fault_index (fault.RingSize index) = Some index
fault_index (fault.RingAlign index) = Some index
fault_index (fault.SecondRpmsg index) = Some index
fault_index _ = None
