-- What becomes of a report (own). No public clause speaks of this: it serves the contracts of the crate's own functions.
use Rattle.std.specs.Prelude.{if◌then◌else◌}
use Rattle.journal.specs.Notices.{report_text}
use Rattle.image_report.specs.declared.reports.ImageReport.{ImageReport}
use Rattle.program_status.specs.declared.statuses.Status.TheVariants as status
use Rattle.script_run.specs.Outputs.{Output}

-- the output of a report
abbrev pub made_output : ImageReport → Output
made_output made = record { status = if made.loads then status.Done else status.Unsound; text = report_text made.notices.items }
