use Rattle.std.proofs.Common.{◌≡◌, ◌≤◌, ◌++◌, length, map, take}
use Rattle.word_kinds.specs.Spellings.{words_of}
use Rattle.word_kinds.proofs.words.first_words.Given as goal

-- the words so far, and those of the rest
abbrev pub invariant-loop-count : goal.invariant-loop-count
invariant-loop-count l = record {
  places : length l.words ≡ 9;
  most : l.count ≤ 9;
  words : map (λ word. word.now) (take l.count l.words) ++ words_of l.rest ≡ words_of l.line;
}

abbrev pub decreases-loop-count : goal.decreases-loop-count
decreases-loop-count l = length l.rest
