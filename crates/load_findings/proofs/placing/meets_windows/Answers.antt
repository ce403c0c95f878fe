use Rattle.std.proofs.Common.{rules, tests, sym, ◌∙◌, ◌&&◌}
use Rattle.std.proofs.lemmas.Iterator.{YieldsList-from_slice}
use Rattle.std.proofs.lemmas.Iterator.Search.{any_from_yields_List}
use Rattle.memory_pool.specs.Places.{is_window}
use Rattle.memory_pool.specs.Ranges.{meets_block}
use Rattle.memory_pool.proofs.Find.{any_filter}
use Rattle.load_findings.proofs.placing.meets_windows.Goals as goal

pub returns : goal.returns
returns c =
    let meets = meets_block c.args.da c.args.len in
    let any = any_from_yields_List (λ block. is_window block && meets block) _ _ c.any.result c.any.ensures.ran (YieldsList-from_slice c.args.blocks.now cc) (λ x b q k. search (rules, tests)) in
    any ∙ sym (any_filter meets is_window c.args.blocks.now)
