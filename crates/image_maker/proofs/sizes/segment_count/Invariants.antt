use Rattle.std.proofs.Common.{◌≡◌, take}
use Rattle.std.specs.List.{sum_by}
use Rattle.image_maker.specs.Segments.{segments_of}
use Rattle.image_maker.proofs.sizes.segment_count.Given as goal

abbrev pub invariant-loop-line : goal.invariant-loop-line
invariant-loop-line l = l.count ≡ sum_by segments_of (take l.line-index l.lines)
