use Rattle.std.proofs.Common.{◌≡◌, drop}
use Rattle.fw_load.specs.Rings.{buffers_at}
use Rattle.fw_load.proofs.rings.buffers_at.Given as goal

-- the blocks that are left decide
abbrev pub invariant-loop-block : goal.invariant-loop-block
invariant-loop-block l = buffers_at l.index (drop l.block-index l.blocks) ≡ buffers_at l.index l.blocks
