-- Where the words of a link are in its table: those that different ends write are on cache lines of their own (own).
use Rattle.std.specs.Prelude.{ℕ, zero, suc, List, [], ◌∷◌}

-- words that are apart, each followed by idle words, which are 0 throughout: so many by 16 words, the others by 8
abbrev pub words_apart : ℕ → List ℕ → List ℕ
words_apart n [] = []
words_apart zero (w ∷ ws) = w ∷ 0 ∷ 0 ∷ 0 ∷ 0 ∷ 0 ∷ 0 ∷ 0 ∷ words_apart zero ws
words_apart (suc n) (w ∷ ws) = w ∷ 0 ∷ 0 ∷ 0 ∷ 0 ∷ 0 ∷ 0 ∷ 0 ∷ 0 ∷ 0 ∷ 0 ∷ 0 ∷ 0 ∷ 0 ∷ 0 ∷ 0 ∷ words_apart n ws

-- the idle word, the era, the four turns and the four indexes are 16 words apart, the entries 8
abbrev pub layout : List ℕ → List ℕ
layout words = words_apart 10 words

-- where the word of this number is
abbrev pub place_apart : ℕ → ℕ → ℕ
place_apart n zero = 0
place_apart zero (suc i) = suc (suc (suc (suc (suc (suc (suc (suc (place_apart zero i))))))))
place_apart (suc n) (suc i) = suc (suc (suc (suc (suc (suc (suc (suc (suc (suc (suc (suc (suc (suc (suc (suc (place_apart n i))))))))))))))))

abbrev pub place_in : ℕ → ℕ
place_in i = place_apart 10 i
