use Rattle.std.proofs.Common.{sym, ◌∙◌}
use Rattle.memory_pool.proofs.Ordered.{memory_more}
use Rattle.load_findings.proofs.placing.Placing.keep.Goals as goal

pub returns-in_ok-insert_by_address-clause-ordered : goal.returns-in_ok-insert_by_address-clause-ordered
returns-in_ok-insert_by_address-clause-ordered c =
    let before = c.args.self.now in
    rw c.in_ok-push.ensures.items
    (memory_more before.blocks.items before.memory.items c.insert_by_address.new.memory.items c.args.block c.requires.ordered (sym c.is_window.ensures ∙ c.if-not-is_window.true) c.in_ok-insert_by_address.ensures.ordered c.in_ok-insert_by_address.ensures.more)
