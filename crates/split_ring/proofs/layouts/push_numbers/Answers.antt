use Rattle.std.proofs.Common.{ℕ, List, [], ◌∷◌, ◌++◌, ap, ◌∙◌}
use Rattle.std.specs.List.{range_with_len}
use Rattle.link_words.specs.Layouts.{words_apart}
use Rattle.split_ring.proofs.Apart.{numbers_more}
use Rattle.split_ring.proofs.layouts.push_numbers.Goals as goal

pub loop-number-preserved : goal.loop-number-preserved
loop-number-preserved c =
    let old = c.args.words.now.items in let a = c.args.first in let n = c.loop-number.number in
    c.in_ok-push_entry.ensures ∙ (ap (λ (l : List ℕ). l ++ c.from.result ∷ 0 ∷ 0 ∷ 0 ∷ 0 ∷ 0 ∷ 0 ∷ 0 ∷ []) c.loop-number.invariant
    ∙ (ap (λ (k : ℕ). (old ++ words_apart 0 (range_with_len a n)) ++ k ∷ 0 ∷ 0 ∷ 0 ∷ 0 ∷ 0 ∷ 0 ∷ 0 ∷ []) c.from.ensures ∙ numbers_more old a n))
