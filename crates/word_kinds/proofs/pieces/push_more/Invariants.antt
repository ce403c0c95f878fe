use Rattle.std.proofs.Common.{◌≡◌, ◌++◌, ◌∷◌, take}
use Rattle.std.specs.List.{flat_map}
use Rattle.word_kinds.specs.Texts.{text}
use Rattle.word_kinds.specs.Lines.{word_of}
use Rattle.word_kinds.proofs.pieces.push_more.Given as goal

-- the words so far, each behind a space
abbrev pub invariant-loop-word : goal.invariant-loop-word
invariant-loop-word l = l.out.items ≡ l.fn.out.items ++ flat_map (λ word. 32 ∷ text (word_of word)) (take l.word-index l.words)
