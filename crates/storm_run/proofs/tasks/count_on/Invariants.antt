use Rattle.std.proofs.Common.{◌≡◌, take}
use Rattle.storm_run.specs.Rounds.{count_on}
use Rattle.storm_run.proofs.tasks.count_on.Given as goal

-- those found so far
abbrev pub invariant-loop-caller : goal.invariant-loop-caller
invariant-loop-caller l = l.found ≡ count_on l.end (take l.caller-index l.callers)
