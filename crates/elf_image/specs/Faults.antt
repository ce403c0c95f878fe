-- The faults of an image.
use Rattle.std.specs.Prelude.{ℕ, Option, Some, None}
use Rattle.elf_image.specs.declared.faults.ElfFault.{ElfFault}
use Rattle.elf_image.specs.declared.faults.ElfFault.TheVariants as fault

-- the number of a fault, from 1 (own)
abbrev pub fault_number : ElfFault → ℕ
fault_number fault.Short = 1
fault_number fault.Magic = 2
fault_number fault.Class = 3
fault_number fault.Order = 4
fault_number fault.EntrySize = 5
fault_number fault.NoSegments = 6
fault_number fault.HeadersPastEnd = 7
fault_number (fault.SegmentPastEnd index) = 8
fault_number (fault.FileOverMemory index) = 9
fault_number fault.SectionsPastEnd = 10
fault_number fault.NamesMissing = 11
fault_number fault.Numbering = 12
fault_number (fault.WideAddress index) = 13
fault_number fault.WideEntry = 14

-- the number of the program header that a fault is about (own)
abbrev pub fault_index : ElfFault → Option ℕ
fault_index (fault.SegmentPastEnd index) = Some index
fault_index (fault.FileOverMemory index) = Some index
fault_index (fault.WideAddress index) = Some index
fault_index _ = None
