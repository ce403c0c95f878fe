use Rattle.std.proofs.Common.{◌≡◌, ◌++◌, slice_index}
use Rattle.storm_run.specs.Storms.{caller_lines}
use Rattle.storm_run.proofs.reports.push_callers.Given as goal

-- the lines so far
abbrev pub invariant-loop-place : goal.invariant-loop-place
invariant-loop-place l = l.text.items ≡ l.fn.text.items ++ caller_lines l.first l.place l.end (slice_index l.sent)
