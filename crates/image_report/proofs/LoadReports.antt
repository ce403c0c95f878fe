-- The report of an image that loads.
use Rattle.std.proofs.Common.{◌≡◌, ℕ, List, sym, ap, ◌∙◌, subst}
use Rattle.elf_image.specs.Images.{entry_of}
use Rattle.elf_image.specs.Segments.{segments_of}
use Rattle.memory_pool.specs.declared.blocks.Block.{Block}
use Rattle.memory_pool.specs.declared.regions.Region.{Region}
use Rattle.memory_pool.specs.Regions.{standard_regions}
use Rattle.fw_load.specs.declared.loading.Loaded.{Loaded}
use Rattle.fw_load.specs.declared.traces.TraceAt.{TraceAt}
use Rattle.fw_load.specs.Loading.{IsLoaded, Loads}
use Rattle.fw_load.specs.Memory.{memory_at}
use Rattle.fw_load.specs.Rings.{traces_of}
use Rattle.resource_table.specs.Entries.{entries_of}
use Rattle.fw_load.specs.Tables.{table_of, patched_in}
use Rattle.image_report.specs.TableRows.{table_rows}
use Rattle.image_report.specs.Reports.{blocks_in, image_report, loaded_report, loads_report, rows_of_image}

-- the lines of the table are those of what was loaded
rows_same : (image : List ℕ) (loaded : Loaded) → IsLoaded image standard_regions loaded → table_rows loaded.table loaded.traces.items ≡ rows_of_image image
rows_same image loaded is =
    ap (λ (traces : List TraceAt). table_rows loaded.table traces) is.traces
    ∙ ap (λ (table : List ℕ). table_rows table (traces_of (memory_at standard_regions loaded.placed.blocks.items) (entries_of table))) is.table
    ∙ ap (λ (blocks : List Block). table_rows (patched_in (table_of image) blocks) (traces_of (memory_at standard_regions blocks) (entries_of (patched_in (table_of image) blocks)))) (sym (ap blocks_in is.placed))

-- the report is the one of an image that no test refuses
report_is : (image : List ℕ) → Loads image standard_regions → loads_report (entry_of image) (segments_of image) (rows_of_image image) ≡ image_report image
unfolding image_report
report_is image loads = sym (ap (loaded_report image) loads)

pub loaded_same : (image : List ℕ) (regions : List Region) (loaded : Loaded) → regions ≡ standard_regions → Loads image regions → IsLoaded image regions loaded
    → loads_report (entry_of image) (segments_of image) (table_rows loaded.table loaded.traces.items) ≡ image_report image
loaded_same image regions loaded standard loads is =
    ap (λ rows. loads_report (entry_of image) (segments_of image) rows)
    (rows_same image loaded (subst (λ (r : List Region). IsLoaded image r loaded) standard is))
    ∙ report_is image (subst (λ (r : List Region). Loads image r) standard loads)
