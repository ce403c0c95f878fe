-- Words against the kinds in their places.
use Rattle.std.proofs.Common.{◌≡◌, ℕ, ◌+◌, ◌<◌, ◌≤◌, Bool, true, false, ◌&&◌, List, [], ◌∷◌, length, get_or, drop, map, refl, ◌∙◌, ap, arith}
use Rattle.std.proofs.lemmas.List.{drop_more, drop_all}
use Rattle.word_kinds.specs.declared.kinds.Kind.{Kind}
use Rattle.word_kinds.specs.Kinds.{is_of, are_of}

and_false : (a b : Bool) → b ≡ false → (a && b) ≡ false
and_false true b e = e
and_false false b e = refl

pub other_length : {X : Type 0} (v : X → List ℕ) (kinds : List Kind) (words : List X) → (length kinds ≡ length words → ⊥) → are_of kinds (map v words) ≡ false
other_length v [] [] h = absurd (h refl)
other_length v [] (word ∷ more) h = refl
other_length v (kind ∷ kinds) [] h = refl
other_length v (kind ∷ kinds) (word ∷ more) h = and_false (is_of kind (v word)) _ (other_length v kinds more (λ e. h (omega arith)))

-- what the kinds from place i on say of the words from there on
abbrev pub are_of_from : {X : Type 0} → (X → List ℕ) → List Kind → List X → ℕ → Bool
are_of_from v kinds words i = are_of (drop i kinds) (map v (drop i words))

pub here_and_more : {X : Type 0} (v : X → List ℕ) (kinds : List Kind) (words : List X) (i : ℕ) (k : Kind) (d : X) → i < length kinds → i < length words
    → are_of_from v kinds words i ≡ (is_of (get_or kinds i k) (v (get_or words i d)) && are_of_from v kinds words (i + 1))
here_and_more v kinds words i k d h l =
    ap (λ ks. are_of ks (map v (drop i words))) (drop_more kinds i k h) ∙ ap (λ ws. are_of (get_or kinds i k ∷ drop (i + 1) kinds) (map v ws)) (drop_more words i d l)

pub all_seen : {X : Type 0} (v : X → List ℕ) (kinds : List Kind) (words : List X) (i : ℕ) → length kinds ≤ i → length words ≤ i → are_of_from v kinds words i ≡ true
all_seen v kinds words i h l =
    ap (λ ks. are_of ks (map v (drop i words))) (drop_all i kinds h) ∙ ap (λ ws. are_of [] (map v ws)) (drop_all i words l)
