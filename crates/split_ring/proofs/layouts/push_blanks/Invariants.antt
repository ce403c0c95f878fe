use Rattle.std.proofs.Common.{◌≡◌, ◌++◌, replicate}
use Rattle.link_words.specs.Layouts.{words_apart}
use Rattle.split_ring.proofs.layouts.push_blanks.Given as goal

-- the entries appended so far
abbrev pub invariant-loop : goal.invariant-loop
invariant-loop l = l.words.items ≡ l.fn.words.items ++ words_apart 0 (replicate l.counter 0)
