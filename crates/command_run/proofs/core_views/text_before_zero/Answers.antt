use Rattle.std.proofs.Common.{rules, tests, take, ap, ◌∙◌}
use Rattle.std.proofs.lemmas.Iterator.{YieldsList-from_slice}
use Rattle.std.proofs.lemmas.Iterator.Consumers.{count_from_yields_List}
use Rattle.std.proofs.lemmas.Iterator.Search.{YieldsList-from_take_while}
use Rattle.std.proofs.lemmas.List.Folds.{length-prefix_len}
use Rattle.rp_base.proofs.Zeros.{is_text}
use Rattle.command_run.proofs.core_views.text_before_zero.Goals as goal

pub returns : goal.returns
returns c =
    let field = c.args.bytes.now in
    let count = count_from_yields_List _ c.count-len.result c.count-len.ensures.ran (YieldsList-from_take_while _ is_text (YieldsList-from_slice field cc) c.take_while.ensures.closure c.take_while.ensures.done (λ x b q k. search (rules, tests))) ∙ length-prefix_len is_text field in
    ap (λ k. take k field) count
