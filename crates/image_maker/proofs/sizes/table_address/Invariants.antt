use Rattle.std.proofs.Common.{◌≡◌, None, take}
use Rattle.std.specs.List.{fold}
use Rattle.image_maker.specs.Images.{table_after}
use Rattle.image_maker.proofs.sizes.table_address.Given as goal

abbrev pub invariant-loop-line : goal.invariant-loop-line
invariant-loop-line l = l.table ≡ fold table_after None (take l.line-index l.lines)
