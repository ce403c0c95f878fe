-- What is reported of an image over the standard regions of a core (own).
use Rattle.std.specs.Prelude.{◌≡◌, ℕ, Bool, true, false, List, [], ◌∷◌, ◌++◌, length, map, Option, Some, None, Result, Ok, Err}
use Rattle.std.specs.Option.{unwrap_or}
use Rattle.elf_image.specs.Images.{entry_of}
use Rattle.elf_image.specs.Segments.{SegmentAt, segments_of}
use Rattle.memory_pool.specs.declared.blocks.Block.{Block}
use Rattle.memory_pool.specs.declared.faults.PlaceFault.{PlaceFault}
use Rattle.memory_pool.specs.Placements.{placement}
use Rattle.memory_pool.specs.Regions.{standard_regions}
use Rattle.fw_load.specs.declared.faults.LoadFault.{LoadFault}
use Rattle.fw_load.specs.Faults.{load_fault_number, load_fault_index}
use Rattle.fw_load.specs.Loading.{load_fault}
use Rattle.fw_load.specs.Memory.{memory_at}
use Rattle.fw_load.specs.Rings.{traces_of}
use Rattle.resource_table.specs.Entries.{entries_of}
use Rattle.fw_load.specs.Tables.{table_of, entries_in, patched_in}
use Rattle.journal.specs.declared.tables.TableLine.{TableLine}
use Rattle.journal.specs.declared.notices.Notice.{Notice}
use Rattle.journal.specs.declared.notices.Notice.TheVariants as notice
use Rattle.image_report.specs.declared.reports.ImageReport.{ImageReport}
use Rattle.image_report.specs.TableRows.{table_rows}

-- whether an image loads, and the lines that say so
pub record Report : Type 0 where
  pub loads : Bool
  pub notices : List Notice

-- the one line of an image that doesn't load
abbrev pub refusal : Notice → Report
refusal why = record { loads = false; notices = why ∷ [] }

-- the line of a loaded segment
abbrev pub segment_notice : SegmentAt → Notice
segment_notice segment = notice.Segment segment.index segment.da (length segment.file) segment.memory_len

-- an image that loads: its entry, its loaded segments, the lines of its table, and a last line
abbrev pub loads_report : ℕ → List SegmentAt → List TableLine → Report
loads_report entry segments rows =
    record { loads = true; notices = (notice.Start entry ∷ map segment_notice segments) ++ map notice.Table rows ++ notice.Loads ∷ [] }

-- the blocks of a placement
abbrev pub blocks_in : Result (List Block) PlaceFault → List Block
blocks_in (Ok blocks) = blocks
blocks_in (Err why) = []

-- where the entries of an image's table are placed in the standard regions
abbrev pub blocks_of : List ℕ → List Block
blocks_of image = blocks_in (placement standard_regions (entries_in (table_of image)))

-- the lines of an image's table, as it is patched
abbrev pub rows_of_image : List ℕ → List TableLine
rows_of_image image =
    let table = patched_in (table_of image) (blocks_of image) in
    table_rows table (traces_of (memory_at standard_regions (blocks_of image)) (entries_of table))

-- the line of a fault
abbrev pub fault_notice : LoadFault → Notice
fault_notice why = notice.Fault (unwrap_or (load_fault_number why) 0) (load_fault_index why)

-- an image that loads, or the first of its faults
abbrev pub loaded_report : List ℕ → Option LoadFault → Report
loaded_report image None = loads_report (entry_of image) (segments_of image) (rows_of_image image)
loaded_report image (Some why) = refusal (fault_notice why)

-- the report of an image, by its bytes
unfoldable pub image_report : List ℕ → Report
image_report image = loaded_report image (load_fault image standard_regions)

-- a report as code makes it says the same, in these lines
pub record IsImageReport (made : ImageReport) (report : Report) : Type 0 where
  pub loads : made.loads ≡ report.loads
  pub notices : made.notices.items ≡ report.notices
