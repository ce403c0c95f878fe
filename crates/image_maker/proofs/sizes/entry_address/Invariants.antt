use Rattle.std.proofs.Common.{◌≡◌, take}
use Rattle.std.specs.List.{fold}
use Rattle.image_maker.specs.Images.{entry_after}
use Rattle.image_maker.proofs.sizes.entry_address.Given as goal

abbrev pub invariant-loop-line : goal.invariant-loop-line
invariant-loop-line l = l.entry ≡ fold entry_after 0 (take l.line-index l.lines)
