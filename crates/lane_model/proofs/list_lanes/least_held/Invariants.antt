use Rattle.std.proofs.Common.{◌≡◌, take}
use Rattle.lane_model.specs.Crashes.{least_held}
use Rattle.lane_model.proofs.list_lanes.least_held.Given as goal

abbrev pub invariant-loop-holding : goal.invariant-loop-holding
invariant-loop-holding l = l.least ≡ least_held (take l.holding-index l.held)
