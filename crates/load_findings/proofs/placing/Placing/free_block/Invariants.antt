use Rattle.std.proofs.Common.{◌≡◌, drop}
use Rattle.memory_pool.specs.Places.{least_free}
use Rattle.load_findings.proofs.placing.Placing.free_block.Given as goal

-- the regions that are left decide
abbrev pub invariant-loop-region : goal.invariant-loop-region
invariant-loop-region l =
    least_free (drop l.region-index l.regions) l.self.blocks.items l.what l.len l.align ≡ least_free l.regions l.self.blocks.items l.what l.len l.align
