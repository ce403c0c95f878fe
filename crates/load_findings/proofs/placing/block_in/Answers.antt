use Rattle.std.proofs.Common.{arith}
use Rattle.memory_pool.proofs.Meets.{within_ends}
use Rattle.load_findings.proofs.placing.block_in.Goals as goal

pub overflow_add-result : goal.overflow_add-result
overflow_add-result c =
    let ends = within_ends c.args.da c.args.len c.args.region.now.da c.args.region.now.len c.requires.inside in
    omega (arith, ends.0, ends.1)
