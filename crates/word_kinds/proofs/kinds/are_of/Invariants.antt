use Rattle.std.proofs.Common.{◌≡◌, ℕ, List, Bor}
use Rattle.word_kinds.proofs.Matches.{are_of_from}
use Rattle.word_kinds.proofs.kinds.are_of.Given as goal

abbrev pub invariant-loop-place : goal.invariant-loop-place
invariant-loop-place l = are_of_from (λ (word : Bor (List ℕ)). word.now) l.kinds l.words l.place ≡ are_of_from (λ (word : Bor (List ℕ)). word.now) l.kinds l.words 0
