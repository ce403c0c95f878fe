use Rattle.std.proofs.Common.{◌≡◌, ◌++◌, length}
use Rattle.image_maker.specs.Tables.{entries}
use Rattle.image_maker.proofs.tables.put_entries.Given as goal

abbrev pub invariant-loop-rest : goal.invariant-loop-rest
invariant-loop-rest l = l.out.items ++ entries l.rest ≡ l.fn.out.items ++ entries l.lines

abbrev pub decreases-loop-rest : goal.decreases-loop-rest
decreases-loop-rest l = length l.rest
