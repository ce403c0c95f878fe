-- The walk over the lines of a script: the commands so far, and then those of the rest.
use Rattle.std.proofs.Common.{◌≡◌, ℕ, ◌+◌, List, [], ◌∷◌, ◌++◌, Option, Some, None, Result, Ok, Err, refl, sym, ◌∙◌, ap, append_assoc, append-nil}
use Rattle.word_kinds.specs.declared.causes.Cause.{Cause}
use Rattle.word_kinds.specs.declared.causes.Cause.TheVariants as cause
use Rattle.script_lang.specs.declared.commands.Command.{Command}
use Rattle.script_lang.specs.declared.progress.Progress.{Progress}
use Rattle.script_lang.specs.declared.progress.LineFault.TheVariants as fault
use Rattle.script_lang.specs.Steps.{OpenImage, Step, line_step, image_of, IsStepped}
use Rattle.script_lang.specs.Grammar.{Refusal, bad_line, onto, step_and_more, image_behind, at_end, commands_from, lines_of}

onto_onto : (front more : List Command) (said : Result (List Command) Refusal) → onto front (onto more said) ≡ onto (front ++ more) said
onto_onto front more (Ok rest) = ap Ok (sym (append_assoc front more rest))
onto_onto front more (Err refusal) = refl

-- what the lines of a text say, from this line number on, where this image is open
abbrev pub commands_left : ℕ → Option OpenImage → List ℕ → Result (List Command) Refusal
commands_left number image rest = commands_from number image (lines_of rest)

commands_here : (number : ℕ) (image : Option OpenImage) (rest line more : List ℕ) (said : Result Step Cause) → lines_of rest ≡ line ∷ lines_of more → line_step image line ≡ said
    → commands_left number image rest ≡ step_and_more number said (commands_left (number + 1) (image_behind said) more)
commands_here number image rest line more said e f =
    ap (commands_from number image) e ∙ ap (λ o. step_and_more number o (commands_left (number + 1) (image_behind o) more)) f

step_here : (old new : Progress) (number : ℕ) (rest line more : List ℕ) (all : Result (List Command) Refusal) (said : Result Step Cause) → onto old.commands.items (commands_left number (image_of old) rest) ≡ all
    → lines_of rest ≡ line ∷ lines_of more → line_step (image_of old) line ≡ said → IsStepped said old new (Ok tt) → onto new.commands.items (commands_left (number + 1) (image_of new) more) ≡ all
step_here old new number rest line more all (Ok step) so_far e f h =
    ap (λ xs. onto xs (commands_left (number + 1) (image_of new) more)) h.0
    ∙ ap (λ o. onto (old.commands.items ++ step.commands) (commands_left (number + 1) o more)) h.1
    ∙ sym (onto_onto old.commands.items step.commands (commands_left (number + 1) step.image more))
    ∙ ap (onto old.commands.items) (sym (commands_here number (image_of old) rest line more (Ok step) e f)) ∙ so_far
step_here old new number rest line more all (Err why) so_far e f h = absurd h

-- a line that was taken
pub line_here : (old new : Progress) (number : ℕ) (rest line more : List ℕ) (all : Result (List Command) Refusal) → onto old.commands.items (commands_left number (image_of old) rest) ≡ all
    → lines_of rest ≡ line ∷ lines_of more → IsStepped (line_step (image_of old) line) old new (Ok tt) → onto new.commands.items (commands_left (number + 1) (image_of new) more) ≡ all
line_here old new number rest line more all so_far e h = step_here old new number rest line more all (line_step (image_of old) line) so_far e refl h

bad : (old new : Progress) (said : Result Step Cause) (why : Cause) → IsStepped said old new (Err (fault.Bad why)) → said ≡ Err why
bad old new (Ok step) why h = h
bad old new (Err other) why h = h

-- a bad line
pub bad_here : (old new : Progress) (number : ℕ) (rest line more : List ℕ) (all : Result (List Command) Refusal) (why : Cause) → onto old.commands.items (commands_left number (image_of old) rest) ≡ all
    → lines_of rest ≡ line ∷ lines_of more → IsStepped (line_step (image_of old) line) old new (Err (fault.Bad why)) → all ≡ Err (bad_line number why)
bad_here old new number rest line more all why so_far e h =
    sym so_far ∙ ap (onto old.commands.items) (commands_here number (image_of old) rest line more (Err why) e (bad old new (line_step (image_of old) line) why h))

-- no line is left
pub end_here : (front : List Command) (number : ℕ) (image : Option OpenImage) (all : Result (List Command) Refusal) → onto front (commands_left number image []) ≡ all → image ≡ None → all ≡ Ok front
end_here front number image all so_far none = sym so_far ∙ ap (λ o. onto front (at_end number o)) none ∙ ap Ok (append-nil front)

-- no line is left, and an image is open
pub open_here : (front : List Command) (number : ℕ) (image : Option OpenImage) (found : OpenImage) (all : Result (List Command) Refusal) → onto front (commands_left number image []) ≡ all → image ≡ Some found → all ≡ Err (bad_line number cause.Block)
open_here front number image found all so_far some = sym so_far ∙ ap (λ o. onto front (at_end number o)) some
