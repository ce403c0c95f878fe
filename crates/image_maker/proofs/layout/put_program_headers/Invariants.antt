use Rattle.std.proofs.Common.{◌≡◌, ◌++◌, length}
use Rattle.image_maker.specs.Segments.{program_headers}
use Rattle.image_maker.proofs.layout.put_program_headers.Given as goal

abbrev pub invariant-loop-rest : goal.invariant-loop-rest
invariant-loop-rest l = l.out.items ++ program_headers l.offset l.rest ≡ l.fn.out.items ++ program_headers l.start l.lines

abbrev pub decreases-loop-rest : goal.decreases-loop-rest
decreases-loop-rest l = length l.rest
