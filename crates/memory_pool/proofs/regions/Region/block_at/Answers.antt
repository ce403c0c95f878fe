use Rattle.std.proofs.Common.{arith}
use Rattle.memory_pool.proofs.Meets.{within_ends}
use Rattle.memory_pool.proofs.regions.Region.block_at.Goals as goal

pub overflow_add-result : goal.overflow_add-result
overflow_add-result c =
    let ends = within_ends c.args.da c.args.len c.args.self.now.da c.args.self.now.len c.requires.inside in
    omega (arith, ends.0, ends.1)
