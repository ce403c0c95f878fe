use Rattle.resource_table.specs.Entries.{entries_of}
use Rattle.fw_load.proofs.Fitting.{fixes_fit}
use Rattle.fw_load.proofs.fixes.patched_table.Goals as goal

pub patched-requires : goal.patched-requires
patched-requires c =
    let fit = fixes_fit (entries_of c.in-Some.table) c.args.blocks.now (rw c.in-Some.is at c.requires) in
    rw (c.deref.ensures.value, c.in_ok-fixes-in-Some.ensures) fit
