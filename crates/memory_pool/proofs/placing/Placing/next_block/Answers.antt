use Rattle.std.proofs.Common.{sym, ◌∙◌}
use Rattle.memory_pool.proofs.Sound.{free_new}
use Rattle.memory_pool.proofs.placing.Placing.next_block.Goals as goal

pub returns-in-Some-clause-new : goal.returns-in-Some-clause-new
returns-in-Some-clause-new c =
    let sound = rw c.in-Any.is at c.requires.wanted in
    free_new c.args.regions.now c.args.self.now.blocks.items c.in-Any.what c.in-Any.len c.in-Any.align c.in-Some.block sound.0 (sym c.free_block.ensures ∙ c.in-Some.is)
