-- The resource table of an image, and what is written into it where it was placed (Linux include/linux/remoteproc.h).
use Rattle.std.specs.Prelude.{◌≡◌, ℕ, ◌+◌, nat_lt, true, false, List, [], ◌∷◌, take, drop, length, codes, Option, Some, None, option_map, if◌then◌else◌}
use Rattle.std.specs.List.{filter_map, sum_by}
use Rattle.elf_image.specs.Sections.{section_of}
use Rattle.elf_image.specs.declared.sections.Section.{Section}
use Rattle.resource_table.specs.Entries.{entries_of}
use Rattle.resource_table.specs.Patches.{patched_of}
use Rattle.resource_table.specs.Tables.{table_fault}
use Rattle.resource_table.specs.declared.entries.Entry.{Entry}
use Rattle.resource_table.specs.declared.entries.Entry.TheVariants as entry
use Rattle.resource_table.specs.declared.faults.TableFault.{TableFault}
use Rattle.resource_table.specs.declared.faults.TableFault.TheVariants as fault
use Rattle.resource_table.specs.declared.fixes.Fix.{Fix}
use Rattle.memory_pool.specs.declared.blocks.Block.{Block}
use Rattle.memory_pool.specs.declared.blocks.Use.{Use}
use Rattle.memory_pool.specs.declared.blocks.Use.TheVariants as usage

-- the section of the resource table (`.resource_table`, remoteproc_elf_loader.c)
abbrev pub table_section : List ℕ → Option Section
table_section image = section_of image (codes ".resource_table")

-- the bytes of a section (TIS ELF 1.2, "Sections", sh_offset, sh_size)
abbrev pub bytes_in : List ℕ → Section → List ℕ
bytes_in image section = take section.size (drop section.offset image)

-- the bytes of the resource table, where an image has one (own)
abbrev pub table_of : List ℕ → Option (List ℕ)
table_of image = option_map (bytes_in image) (table_section image)

-- the tests of the resource table: its section lies in the image, and it is good (own)
abbrev pub section_fault : List ℕ → Option Section → Option TableFault
section_fault image None = None
section_fault image (Some section) =
    if nat_lt (length image) (section.offset + section.size) then Some fault.TableShort else table_fault (bytes_in image section)

-- the entries of a table, of which there are none without one (own)
abbrev pub entries_in : Option (List ℕ) → List Entry
entries_in None = []
entries_in (Some table) = entries_of table

-- how many rings an entry has (struct fw_rsc_vdev, num_of_vrings)
abbrev pub rings_of : Entry → ℕ
rings_of (entry.Device device) = device.count
rings_of _ = 0

-- how many rings the entries before a number have (own)
abbrev pub rings_before : List Entry → ℕ → ℕ
rings_before entries index = sum_by rings_of (take index entries)

-- what is written into a table for a block: the place of a carveout, and the place of a ring with its number among all rings, by how many the entries before a number have (own)
abbrev pub fix_for : (ℕ → ℕ) → Use → ℕ → ℕ → Option Fix
fix_for before (usage.Carveout index) da pa =
    Some (record { entry = index; rings = false; ring = 0; da = da; pa = pa; notify = 0 })
fix_for before (usage.Ring index number) da pa =
    Some (record { entry = index; rings = true; ring = number; da = da; pa = pa; notify = before index + number })
fix_for before (usage.Window index) da pa = None
fix_for before (usage.Buffers index) da pa = None

-- what is written for blocks (own)
abbrev pub fixes_of : List Entry → List Block → List Fix
fixes_of entries blocks = filter_map (λ block. fix_for (rings_before entries) block.what block.da block.pa) blocks

-- the test of a patched table, which has no bytes where an image has no table (own)
abbrev pub patched_fault : List ℕ → Option TableFault
patched_fault [] = None
patched_fault (byte ∷ more) = table_fault (byte ∷ more)

-- the bytes of a patched table: a good one, or none where an image has no table (own)
abbrev pub IsPatched : List ℕ → Type 0
IsPatched bytes = patched_fault bytes ≡ None

-- a table with the places of blocks, and nothing where there is no table (own)
abbrev pub patched_in : Option (List ℕ) → List Block → List ℕ
patched_in None blocks = []
patched_in (Some table) blocks = patched_of table (fixes_of (entries_of table) blocks)
