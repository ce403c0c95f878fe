use Rattle.std.proofs.Common.{◌≡◌, take}
use Rattle.std.specs.List.{filter_map}
use Rattle.crash_recover.specs.CoreParts.{part_at}
use Rattle.crash_recover.proofs.cores.Core.parts.Given as goal

abbrev pub invariant-loop-range : goal.invariant-loop-range
invariant-loop-range l = l.parts.items ≡ filter_map (part_at l.self) (take l.range-index l.range-items)
