use Rattle.memory_pool.proofs.LeastPlaces.{IsFreeFrom}
use Rattle.load_findings.proofs.gaps.first_gap.Given as goal

-- the blocks so far end by there, and no lesser place will do
abbrev pub invariant-loop-block : goal.invariant-loop-block
invariant-loop-block l = IsFreeFrom l.blocks l.from l.len l.align l.block-index l.free
