use Rattle.std.proofs.Common.{◌≡◌, ◌++◌}
use Rattle.std.specs.List.{range_with_len}
use Rattle.link_words.specs.Layouts.{words_apart}
use Rattle.split_ring.proofs.layouts.push_numbers.Given as goal

-- the entries appended so far
abbrev pub invariant-loop-number : goal.invariant-loop-number
invariant-loop-number l = l.words.items ≡ l.fn.words.items ++ words_apart 0 (range_with_len l.first l.number)
