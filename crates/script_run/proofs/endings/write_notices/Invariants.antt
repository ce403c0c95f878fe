use Rattle.std.proofs.Common.{◌≡◌, ◌++◌, drop}
use Rattle.journal.specs.Notices.{report_text}
use Rattle.script_run.proofs.endings.write_notices.Given as goal

-- the lines so far and those of what is left are all
abbrev pub invariant-loop-notice : goal.invariant-loop-notice
invariant-loop-notice g l = l.log.lines ++ report_text (drop l.notice-index l.notices) ≡ report_text l.notices
