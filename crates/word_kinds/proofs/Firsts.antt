-- The first words of a line, as they are put into places.
use Rattle.std.proofs.Common.{◌≡◌, ℕ, ◌+◌, ◌<◌, ◌≤◌, ◌==◌, Bool, true, false, not, cond, List, [], ◌∷◌, ◌++◌, length, take, map, filter, set, sym, ◌∙◌, ap, arith, append_assoc, append-nil, length-take}
use Rattle.std.specs.List.{slice_split}
use Rattle.std.proofs.lemmas.List.{length-map, take_more_set, map_push, take_all, take-append-le}
use Rattle.word_kinds.specs.Spellings.{words_of}

abbrev is_word : List ℕ → Bool
is_word word = not (length word == 0)

-- a part without bytes, and one with some
pub no_word : (line word : List ℕ) (parts : List (List ℕ)) → slice_split (λ byte. byte == 32) line ≡ word ∷ parts → (length word == 0) ≡ true → words_of line ≡ filter is_word parts
no_word line word parts e h = ap (filter is_word) e ∙ ap (λ b. cond (not b) (word ∷ filter is_word parts) (filter is_word parts)) h

pub one_word : (line word : List ℕ) (parts : List (List ℕ)) → slice_split (λ byte. byte == 32) line ≡ word ∷ parts → (length word == 0) ≡ false → words_of line ≡ word ∷ filter is_word parts
one_word line word parts e h = ap (filter is_word) e ∙ ap (λ b. cond (not b) (word ∷ filter is_word parts) (filter is_word parts)) h

-- a word more in the next place
pub word_in_place : {X : Type 0} (v : X → List ℕ) (words : List X) (count : ℕ) (word : X) (rest all : List (List ℕ)) → count < length words
    → map v (take count words) ++ v word ∷ rest ≡ all → map v (take (count + 1) (set words count word)) ++ rest ≡ all
word_in_place v words count word rest all h e =
    ap (λ xs. map v xs ++ rest) (take_more_set words count word h) ∙ ap (λ xs. xs ++ rest) (map_push v (take count words) word) ∙ append_assoc (map v (take count words)) (v word ∷ []) rest ∙ e

length_front : {X : Type 0} (v : X → List ℕ) (words : List X) (count : ℕ) → length words ≡ 9 → count ≤ 9 → length (map v (take count words)) ≡ count
length_front v words count e h = length-map (take count words) v ∙ omega (arith, length-take count words)

-- the line has no words behind those
pub no_more_words : {X : Type 0} (v : X → List ℕ) (words : List X) (count : ℕ) (rest all : List (List ℕ)) → length words ≡ 9 → count ≤ 9 → rest ≡ []
    → map v (take count words) ++ rest ≡ all → map v (take count words) ≡ take 9 all
no_more_words v words count rest all e h none is =
    let front = map v (take count words) in
    let whole : all ≡ front = sym is ∙ ap (λ xs. front ++ xs) none ∙ append-nil front in
    sym (ap (take 9) whole ∙ take_all 9 front (omega (arith, length_front v words count e h)))

-- there are nine
pub nine_words : {X : Type 0} (v : X → List ℕ) (words : List X) (count : ℕ) (rest all : List (List ℕ)) → length words ≡ 9 → count ≤ 9 → 9 ≤ count
    → map v (take count words) ++ rest ≡ all → map v (take count words) ≡ take 9 all
nine_words v words count rest all e h most is =
    let front = map v (take count words) in
    let len : length front ≡ 9 = length_front v words count e h ∙ omega arith in
    sym (ap (take 9) (sym is) ∙ take-append-le 9 front rest (omega arith) ∙ take_all 9 front (omega arith))
