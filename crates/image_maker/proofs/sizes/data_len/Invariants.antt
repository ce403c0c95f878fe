use Rattle.std.proofs.Common.{◌≡◌, length, take}
use Rattle.std.specs.List.{sum_by}
use Rattle.image_maker.specs.Segments.{data_of}
use Rattle.image_maker.proofs.sizes.data_len.Given as goal

abbrev pub invariant-loop-line : goal.invariant-loop-line
invariant-loop-line l = l.len ≡ sum_by (λ line. length (data_of line)) (take l.line-index l.lines)
