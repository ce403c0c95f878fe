use Rattle.std.proofs.Common.{sym, ◌∙◌}
use Rattle.memory_pool.proofs.Sound.{free_new}
use Rattle.load_findings.proofs.placing.Placing.take_anywhere.Goals as goal

pub keep-requires-clause-new : goal.keep-requires-clause-new
keep-requires-clause-new c =
    free_new c.args.regions.now c.args.self.now.blocks.items c.args.what c.args.len c.args.align c.in-Some.block c.requires.some (sym c.free_block.ensures.block ∙ c.in-Some.is)
