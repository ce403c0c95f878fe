use Rattle.std.proofs.Common.{◌≡◌, ℕ, List, Bor}
use Rattle.word_kinds.specs.Rows.{kind_in}
use Rattle.word_kinds.proofs.Rows.{fit_from}
use Rattle.word_kinds.proofs.slots.fit.Given as goal

abbrev pub invariant-loop-place : goal.invariant-loop-place
invariant-loop-place l = fit_from kind_in (λ (word : Bor (List ℕ)). word.now) l.slots l.words l.place ≡ fit_from kind_in (λ (word : Bor (List ℕ)). word.now) l.slots l.words 0
