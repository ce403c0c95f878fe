use Rattle.std.proofs.Common.{◌≡◌, take}
use Rattle.std.specs.List.{sum_by}
use Rattle.image_maker.specs.Tables.{entry_len}
use Rattle.image_maker.proofs.sizes.entries_len.Given as goal

abbrev pub invariant-loop-line : goal.invariant-loop-line
invariant-loop-line l = l.len ≡ sum_by entry_len (take l.line-index l.lines)
