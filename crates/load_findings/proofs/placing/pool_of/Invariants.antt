use Rattle.std.proofs.Common.{◌≡◌, drop}
use Rattle.memory_pool.specs.Places.{pool_of}
use Rattle.load_findings.proofs.placing.pool_of.Given as goal

-- the regions that are left decide
abbrev pub invariant-loop-region : goal.invariant-loop-region
invariant-loop-region l = pool_of (drop l.region-index l.regions) l.da l.len ≡ pool_of l.regions l.da l.len
