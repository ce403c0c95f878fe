use Rattle.std.proofs.Common.{rules}
use Rattle.rp_io.proofs.Fronts.{LosesFront-more}
use Rattle.rp_io.proofs.sources.read_front.Goals as goal

pub returns-in_err-extend_from_slice-clause-lost : goal.returns-in_err-extend_from_slice-clause-lost
returns-in_err-extend_from_slice-clause-lost g c =
    LosesFront-more _ _ _ _ _ _ (search rules) c.loop-piece.invariant.rest c.in_ok-count.ensures.bytes.0
