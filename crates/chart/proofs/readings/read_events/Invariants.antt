use Rattle.std.proofs.Common.{◌≤◌, length}
use Rattle.chart.specs.declared.limits.TheConstants.{LINES_MOST}
use Rattle.chart.proofs.LineFacts.{AreRead}
use Rattle.chart.proofs.readings.read_events.Given as goal

abbrev pub invariant-loop-rest : goal.invariant-loop-rest
invariant-loop-rest l = record { read : AreRead l.bytes l.rest l.events.items; few : length l.events.items ≤ LINES_MOST }

abbrev pub decreases-loop-rest : goal.decreases-loop-rest
decreases-loop-rest l = length l.rest
