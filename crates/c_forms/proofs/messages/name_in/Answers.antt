use Rattle.std.proofs.Common.{rules, tests, take, ap, ◌∙◌}
use Rattle.std.proofs.lemmas.Iterator.{YieldsList-from_slice}
use Rattle.std.proofs.lemmas.Iterator.Consumers.{count_from_yields_List}
use Rattle.std.proofs.lemmas.Iterator.Search.{YieldsList-from_take_while}
use Rattle.std.proofs.lemmas.List.Folds.{length-prefix_len}
use Rattle.rp_base.proofs.Zeros.{is_text}
use Rattle.c_forms.proofs.messages.name_in.Goals as goal

pub returns-clause-text : goal.returns-clause-text
returns-clause-text c =
    let field = c.args.field.now in
    let count = count_from_yields_List _ c.count-len.result c.count-len.ensures.ran (YieldsList-from_take_while _ is_text (YieldsList-from_slice field cc) c.take_while.ensures.closure c.take_while.ensures.done (λ x b q k. search (rules, tests))) ∙ length-prefix_len is_text field in
    c.in-Some.ensures.some ∙ ap (λ k. take k field) count
