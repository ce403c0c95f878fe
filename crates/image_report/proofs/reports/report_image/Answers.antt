use Rattle.std.proofs.Common.{ℕ, List, IfOk, ap, ◌∙◌, subst}
use Rattle.elf_image.specs.Images.{entry_of}
use Rattle.elf_image.specs.Segments.{segments_of}
use Rattle.image_report.specs.TableRows.{table_rows}
use Rattle.image_report.specs.Reports.{Report, loads_report}
use Rattle.image_report.specs.Reports.{IsImageReport}
use Rattle.image_report.proofs.LoadReports.{loaded_same}
use Rattle.image_report.proofs.reports.report_image.Goals as goal

pub returns-in-Ok-load_image : goal.returns-in-Ok-load_image
returns-in-Ok-load_image c =
    let rows = table_rows c.in-Ok-load_image.loaded.table c.in-Ok-load_image.loaded.traces.items in
    subst (λ (told : Report). IfOk c.report_loaded.result (λ report. IsImageReport report told))
    (ap (λ (image : List ℕ). loads_report (entry_of image) (segments_of image) rows) c.in-Ok.ensures.image
    ∙ loaded_same c.args.bytes.now c.in_ok-regions.regions c.in-Ok-load_image.loaded c.in_ok-regions.ensures c.in-Ok-load_image.ensures.loads c.in-Ok-load_image.ensures.loaded)
    c.report_loaded.ensures
