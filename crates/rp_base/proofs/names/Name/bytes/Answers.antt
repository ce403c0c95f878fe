use Rattle.std.proofs.Common.{rules, tests, ◌≡◌, take, ap, subst, ◌∙◌}
use Rattle.std.proofs.lemmas.Iterator.{YieldsList-from_slice}
use Rattle.std.proofs.lemmas.Iterator.Consumers.{count_from_yields_List}
use Rattle.std.proofs.lemmas.Iterator.Search.{YieldsList-from_take_while}
use Rattle.std.proofs.lemmas.List.Folds.{length-prefix_len}
use Rattle.rp_base.specs.Texts.{text_before_zero}
use Rattle.rp_base.proofs.Zeros.{is_text, text_before_zero-clear, text_before_zero-is_clear}
use Rattle.rp_base.proofs.names.Name.bytes.Goals as goal

pub returns-clause-bytes : goal.returns-clause-bytes
returns-clause-bytes c =
    let bytes = c.self.inside.bytes in
    let count = count_from_yields_List _ c.count-len.result c.count-len.ensures.ran (YieldsList-from_take_while _ is_text (YieldsList-from_slice bytes cc) c.take_while.ensures.closure c.take_while.ensures.done (λ x b q k. search (rules, tests))) ∙ length-prefix_len is_text bytes in
    ap (λ k. take k bytes) count ∙ c.self.view_is

pub returns-clause-nonzero : goal.returns-clause-nonzero
returns-clause-nonzero c =
    subst (λ text. text_before_zero text ≡ text) c.self.view_is
    (text_before_zero-clear _ (text_before_zero-is_clear c.self.inside.bytes))
