-- What `check` reports of what a store has under a name (own).
use Rattle.std.specs.Prelude.{ℕ, List, Ok, Err}
use Rattle.rp_io.specs.declared.faults.NoImage.TheVariants as no_image
use Rattle.rp_io.specs.Images.{ImageAnswer, fetch_answer}
use Rattle.journal.specs.declared.notices.Notice.TheVariants as notice
use Rattle.image_report.specs.Reports.{Report, image_report, refusal}

-- the report of what a store has under a name
abbrev pub report_of_fetch : List ℕ → ImageAnswer → Report
report_of_fetch name (Ok image) = image_report image
report_of_fetch name (Err no_image.Missing) = refusal (notice.Missing name)
report_of_fetch name (Err (no_image.TooLarge bytes)) = refusal (notice.TooLarge name)

-- the report of `check` over a store of these images, each with its name
abbrev pub check_report : List (List ℕ × List ℕ) → List ℕ → Report
check_report images name = report_of_fetch name (fetch_answer images name)
