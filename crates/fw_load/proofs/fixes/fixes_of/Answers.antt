use Rattle.std.proofs.Common.{◌+◌, drop, get_or, sym, ◌∙◌, arith}
use Rattle.std.proofs.lemmas.List.{drop_more}
use Rattle.resource_table.specs.Entries.{entries_of}
use Rattle.memory_pool.specs.declared.blocks.Block.{Block}
use Rattle.memory_pool.specs.declared.blocks.Use.TheVariants as usage
use Rattle.fw_load.specs.Tables.{fix_for, rings_before}
use Rattle.fw_load.specs.Uses.{IsNumbersOf}
use Rattle.fw_load.proofs.Steps.{fix_same, kept_more, left_more}
use Rattle.fw_load.proofs.fixes.fixes_of.Goals as goal
use Rattle.fw_load.proofs.fixes.fixes_of.Goals.{in-Some+in_ok-push, in_default}

pub loop-block-preserved : goal.loop-block-preserved
loop-block-preserved c =
    let entries = entries_of c.args.table.now in
    let blocks = c.args.blocks.now in
    let index = c.loop-block.block-index in
    let nothing : Block = record { what = usage.Carveout 0; da = 0; pa = 0; len = 0 } in
    let block = get_or blocks index nothing in
    let left = drop_more blocks index nothing (omega arith) in
    let numbered : IsNumbersOf entries c.deref.result.now = rw c.deref.ensures.value c.in_ok-numbers.ensures.numbers in
    let is = c.fix_for.ensures ∙ fix_same entries c.deref.result.now block.what block.da block.pa numbered (c.requires index nothing (omega arith)) in
    let fix = λ (block : Block). fix_for (rings_before entries) block.what block.da block.pa in
    elim c.match-fix_for.branch [
      | in-Some+in_ok-push w ↦
          rw (w.fixes-is, w.in_ok-push.ensures.items)
          (kept_more fix c.loop-block.fixes.items (drop index blocks) (drop (index + 1) blocks) block w.in-Some.fix left (sym is ∙ w.in-Some.is) ∙ c.loop-block.invariant)
      | in_default w ↦
          rw w.fixes-is
          (left_more fix c.loop-block.fixes.items (drop index blocks) (drop (index + 1) blocks) block left (sym is ∙ w.in_default.is) ∙ c.loop-block.invariant)
    ]
