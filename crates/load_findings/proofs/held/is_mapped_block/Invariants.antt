use Rattle.std.proofs.Common.{◌≡◌, drop}
use Rattle.load_findings.specs.Walks.{is_block_memory}
use Rattle.load_findings.proofs.held.is_mapped_block.Given as goal

-- the blocks that are left decide
abbrev pub invariant-loop-block : goal.invariant-loop-block
invariant-loop-block l = is_block_memory l.regions (drop l.block-index l.blocks) l.da l.len ≡ is_block_memory l.regions l.blocks l.da l.len
