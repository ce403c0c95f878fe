use Rattle.std.proofs.Common.{◌≡◌, ◌++◌, map, take}
use Rattle.journal.specs.declared.notices.Notice.TheVariants as notice
use Rattle.image_report.specs.Reports.{segment_notice}
use Rattle.image_report.proofs.reports.push_lines.Given as goal

-- the lines so far and those of the segments that are left
abbrev pub invariant-loop-segment : goal.invariant-loop-segment
invariant-loop-segment l = l.notices.items ++ map segment_notice l.segment-iterator ≡ l.fn.notices.items ++ map segment_notice l.fn.segments

-- the lines of the table so far
abbrev pub invariant-loop-row : goal.invariant-loop-row
invariant-loop-row l = l.notices.items ≡ (l.fn.notices.items ++ map segment_notice l.fn.segments) ++ map notice.Table (take l.row-index l.rows)
