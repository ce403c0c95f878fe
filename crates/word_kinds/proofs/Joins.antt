-- Words joined with spaces.
use Rattle.std.proofs.Common.{◌≡◌, ℕ, ◌≤◌, ◌<◌, ◌-◌, List, [], ◌∷◌, ◌++◌, length, get_or, take, drop, map, refl, sym, ◌∙◌, ap, append-nil, append_assoc, arith}
use Rattle.std.specs.List.{join_with_byte, flat_map}
use Rattle.std.proofs.lemmas.List.{take_all}
use Rattle.word_kinds.specs.declared.pieces.Piece.{Piece}
use Rattle.word_kinds.specs.Texts.{Word, text}
use Rattle.word_kinds.specs.declared.slots.Slot.{Slot}
use Rattle.word_kinds.specs.Rows.{kind_in, word_for, left_by, filled}
use Rattle.word_kinds.specs.Lines.{word_of}

joined_first : (first : List ℕ) (more : List Piece) → join_with_byte 32 (first ∷ map text (map word_of more)) ≡ first ++ flat_map (λ word. 32 ∷ text (word_of word)) more
joined_first first [] = sym (append-nil first)
joined_first first (next ∷ more) = ap (λ rest. first ++ (32 ∷ rest)) (joined_first (text (word_of next)) more)

-- the first word and those behind it
pub joined_read : (words : List Piece) (d : Piece) → 1 ≤ length words
    → join_with_byte 32 (map text (map word_of words)) ≡ text (word_of (get_or words 0 d)) ++ flat_map (λ word. 32 ∷ text (word_of word)) (take (length words - 1) (drop 1 words))
joined_read [] d h = absurd (omega arith)
joined_read (first ∷ more) d h =
    let whole : take (length (first ∷ more) - 1) more ≡ more = take_all _ more (omega arith) in
    joined_first (text (word_of first)) more ∙ ap (λ rest. text (word_of first) ++ flat_map (λ word. 32 ∷ text (word_of word)) rest) (sym whole)

pub joined_none : (words : List Piece) → length words < 1 → join_with_byte 32 (map text (map word_of words)) ≡ []
joined_none [] h = refl
joined_none (first ∷ more) h = absurd (omega arith)

-- the first word was written, and then the others
pub joined_here : (words : List Piece) (first : Piece) (old between new : List ℕ) → 1 ≤ length words → first ≡ get_or words 0 first → between ≡ old ++ text (word_of first)
    → new ≡ between ++ flat_map (λ word. 32 ∷ text (word_of word)) (take (length words - 1) (drop 1 words)) → new ≡ old ++ join_with_byte 32 (map text (map word_of words))
joined_here words first old between new h is front more =
    let rest = flat_map (λ word. 32 ∷ text (word_of word)) (take (length words - 1) (drop 1 words)) in
    more ∙ ap (λ xs. xs ++ rest) front ∙ append_assoc old (text (word_of first)) rest ∙ ap (λ x. old ++ (text (word_of x) ++ rest)) is ∙ ap (λ xs. old ++ xs) (sym (joined_read words first h))

-- the word of the first place was written, and then those of the others
joined_words : (first : List ℕ) (more : List Word) → join_with_byte 32 (first ∷ map text more) ≡ first ++ flat_map (λ word. 32 ∷ text word) more
joined_words first [] = sym (append-nil first)
joined_words first (next ∷ more) = ap (λ rest. first ++ (32 ∷ rest)) (joined_words (text next) more)

filled_read : (slots : List Slot) (values : List Word) (d : Slot) → 1 ≤ length slots
    → join_with_byte 32 (map text (filled (map kind_in slots) values)) ≡ text (word_for (kind_in (get_or slots 0 d)) values) ++ flat_map (λ word. 32 ∷ text word) (filled (map kind_in (take (length slots - 1) (drop 1 slots))) (left_by (kind_in (get_or slots 0 d)) values))
filled_read [] values d h = absurd (omega arith)
filled_read (first ∷ more) values d h =
    let whole : take (length (first ∷ more) - 1) more ≡ more = take_all _ more (omega arith) in
    joined_words (text (word_for (kind_in first) values)) (filled (map kind_in more) (left_by (kind_in first) values))
    ∙ ap (λ rest. text (word_for (kind_in first) values) ++ flat_map (λ word. 32 ∷ text word) (filled (map kind_in rest) (left_by (kind_in first) values))) (sym whole)

pub filled_here : (slots : List Slot) (values left : List Word) (d : Slot) (old between new : List ℕ) → 1 ≤ length slots → between ≡ old ++ text (word_for (kind_in (get_or slots 0 d)) values)
    → left ≡ left_by (kind_in (get_or slots 0 d)) values → new ≡ between ++ flat_map (λ word. 32 ∷ text word) (filled (map kind_in (take (length slots - 1) (drop 1 slots))) left)
    → new ≡ old ++ join_with_byte 32 (map text (filled (map kind_in slots) values))
filled_here slots values left d old between new h front same more =
    let first = text (word_for (kind_in (get_or slots 0 d)) values) in
    let rest = λ (words : List Word). flat_map (λ word. 32 ∷ text word) (filled (map kind_in (take (length slots - 1) (drop 1 slots))) words) in
    more ∙ ap (λ xs. xs ++ rest left) front ∙ append_assoc old first (rest left) ∙ ap (λ words. old ++ (first ++ rest words)) same ∙ ap (λ xs. old ++ xs) (sym (filled_read slots values d h))
