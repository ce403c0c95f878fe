-- The first line of a text.
use Rattle.std.proofs.Common.{◌≡◌, ℕ, ◌<◌, ◌==◌, Bool, cond, List, [], ◌∷◌, length, refl, ◌∙◌, ap, arith}
use Rattle.std.specs.List.{slice_split}
use Rattle.std.proofs.lemmas.Bool.{ne_eqb}
use Rattle.std.proofs.lemmas.List.Splits.{length-slice_split}
use Rattle.script_lang.specs.Grammar.{without_empty_end, lines_of}

abbrev is_end : ℕ → Bool
is_end byte = byte == 10

stays : (line : List ℕ) (parts : List (List ℕ)) → 0 < length parts → without_empty_end (line ∷ parts) ≡ line ∷ without_empty_end parts
stays line [] h = absurd (omega arith)
stays line (next ∷ more) h = refl

pub cut_lines : (text line more : List ℕ) → slice_split (λ byte. byte == 10) text ≡ line ∷ slice_split (λ byte. byte == 10) more → lines_of text ≡ line ∷ lines_of more
cut_lines text line more e =
    ap without_empty_end e ∙ stays line (slice_split (λ byte. byte == 10) more) (omega (arith, length-slice_split (λ byte. byte == 10) more))

pub one_line : (text : List ℕ) → 0 < length text → slice_split (λ byte. byte == 10) text ≡ text ∷ [] → lines_of text ≡ text ∷ []
one_line text h e = ap without_empty_end e ∙ ap (λ b. cond b [] (text ∷ [])) (ne_eqb (length text) 0 (omega arith))
