-- The report of what a store has under a name.
use Rattle.std.proofs.Common.{◌≡◌, ℕ, Bool, cond, List, Option, Some, None, refl, sym, ap, subst, ◌∙◌}
use Rattle.rp_io.specs.Images.{ImageAnswer, IsToldUnder}
use Rattle.journal.specs.declared.notices.Notice.{Notice}
use Rattle.journal.specs.Notices.{report_text}
use Rattle.image_report.specs.declared.reports.ImageReport.{ImageReport}
use Rattle.program_status.specs.declared.statuses.Status.TheVariants as status
use Rattle.image_report.specs.Reports.{IsImageReport, Report}
use Rattle.script_run.specs.Reports.{report_of_fetch}
use Rattle.script_run.specs.Outputs.{Output, report_output}
use Rattle.script_run.specs.Endings.{IsReportOutput}
use Rattle.script_run.specs.ImageReports.{made_output}

-- a report that says the same has the same output
made_same : (made : ImageReport) (report : Report) → IsImageReport made report → made_output made ≡ report_output report
made_same made report is =
    ap (λ (loads : Bool). record { status = cond loads status.Done status.Unsound; text = report_text made.notices.items }) is.loads
    ∙ ap (λ (notices : List Notice). record { status = cond report.loads status.Done status.Unsound; text = report_text notices }) is.notices

module _ (images : Option (List (List ℕ × List ℕ))) (name word : List ℕ) (same : name ≡ word) (made : ImageReport) where
  -- the output of a report of this name
  reported : (report : Report) → IsReportOutput images word (report_output report) → IsImageReport made report → IsReportOutput images name (made_output made)
  reported report output is =
      subst (λ (n : List ℕ). IsReportOutput images n (made_output made)) (sym same)
      (subst (λ (o : Output). IsReportOutput images word o) (sym (made_same made report is)) output)

-- the output of what the store has
told_output : (images : Option (List (List ℕ × List ℕ))) (word : List ℕ) (answer : ImageAnswer) → IsToldUnder images word answer
    → IsReportOutput images word (report_output (report_of_fetch word answer))
told_output None word answer is = (answer, refl)
told_output (Some images) word answer is = ap (λ (answer : ImageAnswer). report_output (report_of_fetch word answer)) is

-- the report of what the store has
pub told_report : (images : Option (List (List ℕ × List ℕ))) (name word : List ℕ) (made : ImageReport) (answer : ImageAnswer) → name ≡ word → IsToldUnder images word answer
    → IsImageReport made (report_of_fetch name answer) → IsReportOutput images name (made_output made)
told_report images name word made answer same is reports =
    reported images name word same made (report_of_fetch word answer) (told_output images word answer is)
    (subst (λ (n : List ℕ). IsImageReport made (report_of_fetch n answer)) same reports)
