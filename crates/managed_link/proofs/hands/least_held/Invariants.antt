use Rattle.std.proofs.Common.{◌≡◌, map, take}
use Rattle.std.specs.Option.{option_map}
use Rattle.lane_model.specs.Crashes.{least_held}
use Rattle.managed_link.specs.Hands.{holding_of}
use Rattle.managed_link.proofs.hands.least_held.Given as goal

abbrev pub invariant-loop-hand : goal.invariant-loop-hand
invariant-loop-hand l = option_map (λ found. (found.caller, found.number)) (least_held (map holding_of (take l.hand-index l.hands))) ≡ l.least
