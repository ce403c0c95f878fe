use Rattle.std.proofs.Common.{◌≡◌, ◌++◌, ◌∷◌, length, map}
use Rattle.std.specs.List.{flat_map}
use Rattle.word_kinds.specs.Texts.{text}
use Rattle.word_kinds.specs.Lines.{word_of}
use Rattle.word_kinds.specs.Fronts.{IsFront}
use Rattle.word_kinds.specs.Rows.{kind_in, filled}
use Rattle.word_kinds.proofs.pieces.push_more_places.Given as goal

-- the words so far, and those of the rest
abbrev pub invariant-loop-rest : goal.invariant-loop-rest
invariant-loop-rest l = record {
  whole : l.out.items ++ flat_map (λ word. 32 ∷ text word) (filled (map kind_in l.rest) (map word_of l.left)) ≡ l.fn.out.items ++ flat_map (λ word. 32 ∷ text word) (filled (map kind_in l.slots) (map word_of l.values));
  front : IsFront l.fn.out.items l.out.items;
}

abbrev pub decreases-loop-rest : goal.decreases-loop-rest
decreases-loop-rest l = length l.rest
