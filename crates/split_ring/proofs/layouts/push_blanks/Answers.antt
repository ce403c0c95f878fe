use Rattle.std.proofs.Common.{ℕ, List, [], ◌∷◌, ◌++◌, ap, ◌∙◌}
use Rattle.split_ring.proofs.Apart.{blanks_more}
use Rattle.split_ring.proofs.layouts.push_blanks.Goals as goal

pub loop-preserved : goal.loop-preserved
loop-preserved c = c.in_ok-push_entry.ensures ∙ (ap (λ (l : List ℕ). l ++ 0 ∷ 0 ∷ 0 ∷ 0 ∷ 0 ∷ 0 ∷ 0 ∷ 0 ∷ []) c.loop.invariant ∙ blanks_more c.args.words.now.items c.loop.counter)
