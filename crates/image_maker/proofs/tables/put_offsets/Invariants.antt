use Rattle.std.proofs.Common.{◌≡◌, ◌++◌, drop}
use Rattle.image_maker.specs.Tables.{offsets}
use Rattle.image_maker.proofs.tables.put_offsets.Given as goal

abbrev pub invariant-loop-line : goal.invariant-loop-line
invariant-loop-line l = l.out.items ++ offsets l.offset (drop l.line-index l.lines) ≡ l.fn.out.items ++ offsets l.start l.lines
