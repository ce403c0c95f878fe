use Rattle.std.proofs.Common.{arith}
use Rattle.memory_pool.proofs.Meets.{within_ends}
use Rattle.load_findings.proofs.held.address_behind.Goals as goal

pub overflow_add-result : goal.overflow_add-result
overflow_add-result c =
    let ends = within_ends c.args.da 1 c.args.alias.now.da c.args.alias.now.len c.requires.inside in
    omega (arith, ends.0, ends.1)
