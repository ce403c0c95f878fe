-- Nine words tell what a line says.
use Rattle.std.proofs.Common.{◌≡◌, ℕ, ◌<◌, Bool, true, false, not, cond, List, [], ◌∷◌, length, take, Option, Some, None, Result, Ok, Err, refl, sym, ◌∙◌, ap, arith, inl, inr, length-take, bytes_eq, codes}
use lib.Dec.{ltb as nat_lt, leb}
use Rattle.std.specs.Prelude.{option_map}
use Rattle.std.specs.List.{list_all}
use Rattle.std.proofs.lemmas.Bool.{leb-true, ne_eqb, le-ltb, cases_lt}
use Rattle.std.proofs.lemmas.List.{take_all, get_or-take}
use Rattle.word_kinds.specs.declared.causes.Cause.{Cause}
use Rattle.word_kinds.specs.declared.causes.Cause.TheVariants as cause
use Rattle.word_kinds.specs.declared.kinds.Kind.{Kind}
use Rattle.word_kinds.specs.Kinds.{are_of}
use Rattle.word_kinds.specs.Places.{word_at}
use Rattle.word_kinds.specs.Spellings.{words_of}
use Rattle.script_lang.specs.declared.call_forms.CallForm.{CallForm}
use Rattle.script_lang.specs.declared.call_forms.CallForm.TheVariants as call
use Rattle.script_lang.specs.declared.core_forms.CoreForm.{CoreForm}
use Rattle.script_lang.specs.declared.core_forms.CoreForm.TheVariants as core
use Rattle.script_lang.specs.declared.forms.Form.{Form}
use Rattle.script_lang.specs.declared.forms.Form.TheVariants as form
use Rattle.script_lang.specs.declared.record_forms.RecordForm.{RecordForm}
use Rattle.script_lang.specs.declared.record_forms.RecordForm.TheVariants as record_form
use Rattle.script_lang.specs.declared.recipe_forms.RecipeForm.{RecipeForm}
use Rattle.script_lang.specs.declared.recipe_forms.RecipeForm.TheVariants as recipe_form
use Rattle.script_lang.specs.declared.recipe_forms.Context.{Context}
use Rattle.script_lang.specs.CallForms.{call_kinds, begin_kinds, call_form_named}
use Rattle.script_lang.specs.CoreForms.{core_kinds}
use Rattle.script_lang.specs.Forms.{kinds, form_named}
use Rattle.script_lang.specs.RecordForms.{record_kinds}
use Rattle.script_lang.specs.Recipes.{recipe_kinds, recipe_form_named, is_allowed}
use Rattle.script_lang.specs.Lines.{is_skipped, is_printable, form_or, outside_cause, inside_cause, form_of, misfit, unless_misfit, fitting_form, fitting_line, form_of_line, recipe_form_of_line}
use Rattle.script_lang.specs.declared.progress.Progress.{Progress}
use Rattle.script_lang.specs.Steps.{OpenImage, Step, image_kinds, end_kinds, opened_step, command_step, outside_step, closed_step, added_step, inside_step, words_step, line_step, image_of}

-- no form has more than eight words
short_call : (f : CallForm) → leb (length (call_kinds f)) 8 ≡ true
short_call call.Send = refl
short_call f = refl

short_begin : (f : CallForm) → leb (length (begin_kinds f)) 8 ≡ true
short_begin call.Send = refl
short_begin f = refl

short_core : (f : CoreForm) → leb (length (core_kinds f)) 8 ≡ true
short_core core.Core = refl
short_core f = refl

short : (f : Form) → leb (length (kinds f)) 8 ≡ true
short (form.Call f) = short_call f
short (form.Begin f) = short_begin f
short (form.Core f) = short_core f
short form.Link = refl
short f = refl

short_record : (f : RecordForm) → leb (length (record_kinds f)) 8 ≡ true
short_record record_form.Halt = refl
short_record f = refl

short_line : (f : RecipeForm) → leb (length (recipe_kinds f)) 8 ≡ true
short_line (recipe_form.Record f) = short_record f
short_line recipe_form.Entry = refl
short_line f = refl

-- more words than any form has
misfit_many : (ks : List Kind) (words : List (List ℕ)) → leb (length ks) 8 ≡ true → 8 < length words → misfit ks words ≡ Some cause.Words
misfit_many ks words small h =
    let most = leb-true (length ks) 8 small in
    ap (λ b. cond (not b) (Some cause.Words) (cond (are_of ks words) None (Some cause.Value))) (ne_eqb (length words) (length ks) (λ e. absurd (omega arith)))

-- what so many words say outside of an image, by the first and by what the first words tell
abbrev many_step : Result Form Cause → Result Step Cause
many_step (Ok f) = Err cause.Words
many_step (Err why) = Err why

abbrev outside_by : List ℕ → Result Form Cause → Result Step Cause
outside_by first found = cond (bytes_eq first (codes "image")) (Err cause.Words) (many_step found)

command_many : (words : List (List ℕ)) (found : Result Form Cause) → 8 < length words → command_step words (fitting_form words found) ≡ many_step found
command_many words (Ok f) h = ap (λ o. command_step words (unless_misfit f o)) (misfit_many (kinds f) words (short f) h)
command_many words (Err why) h = refl

outside_is : (words : List (List ℕ)) → 8 < length words → outside_step words ≡ outside_by (word_at words 0) (form_of words)
outside_is words h =
    ap (λ o. cond (bytes_eq (word_at words 0) (codes "image")) (opened_step words o) (command_step words (form_of_line words))) (misfit_many image_kinds words refl h)
    ∙ ap (λ s. cond (bytes_eq (word_at words 0) (codes "image")) (Err cause.Words) s) (command_many words (form_of words) h)

-- what so many words say within an image
abbrev many_line : Context → List ℕ → Option RecipeForm → Result Step Cause
many_line context first None = Err (inside_cause first)
many_line context first (Some f) = cond (is_allowed context f) (Err cause.Words) (Err cause.Block)

abbrev inside_by : Context → List ℕ → Result Step Cause
inside_by context first = cond (bytes_eq first (codes "end")) (Err cause.Words) (many_line context first (recipe_form_named first))

refused_either : (image : OpenImage) (words : List (List ℕ)) (b : Bool) → added_step image words (cond b (Err cause.Words) (Err cause.Block)) ≡ cond b (Err cause.Words) (Err cause.Block)
refused_either image words true = refl
refused_either image words false = refl

added_many : (image : OpenImage) (words : List (List ℕ)) (found : Option RecipeForm) → 8 < length words → added_step image words (fitting_line image.context words found) ≡ many_line image.context (word_at words 0) found
added_many image words None h = refl
added_many image words (Some f) h =
    ap (λ o. added_step image words (cond (is_allowed image.context f) (unless_misfit f o) (Err cause.Block))) (misfit_many (recipe_kinds f) words (short_line f) h)
    ∙ refused_either image words (is_allowed image.context f)

inside_is : (image : OpenImage) (words : List (List ℕ)) → 8 < length words → inside_step image words ≡ inside_by image.context (word_at words 0)
inside_is image words h =
    ap (λ o. cond (bytes_eq (word_at words 0) (codes "end")) (closed_step image o) (added_step image words (recipe_form_of_line image.context words))) (misfit_many end_kinds words refl h)
    ∙ ap (λ s. cond (bytes_eq (word_at words 0) (codes "end")) (Err cause.Words) s) (added_many image words (recipe_form_named (word_at words 0)) h)

-- the form by the first word, the fourth, and whether there are fewer than four
abbrev form_by : List ℕ → List ℕ → Bool → Result Form Cause
form_by first fourth few =
    cond (bytes_eq first (codes "begin"))
    (cond few (Err cause.Words) (form_or cause.Value (option_map form.Begin (call_form_named fourth))))
    (form_or (outside_cause first) (form_named first))

form_of_front : (words : List (List ℕ)) → 8 < length words → form_of (take 9 words) ≡ form_of words
form_of_front words h =
    let few : nat_lt (length (take 9 words)) 4 ≡ nat_lt (length words) 4 = le-ltb _ 4 (omega (arith, length-take 9 words)) ∙ sym (le-ltb _ 4 (omega arith)) in
    ap (λ w. form_by w (word_at (take 9 words) 3) (nat_lt (length (take 9 words)) 4)) (get_or-take 9 words 0 [] (omega arith))
    ∙ ap (λ w. form_by (word_at words 0) w (nat_lt (length (take 9 words)) 4)) (get_or-take 9 words 3 [] (omega arith))
    ∙ ap (λ b. form_by (word_at words 0) (word_at words 3) b) few

many_words : (image : Option OpenImage) (words : List (List ℕ)) → 8 < length words → words_step image (take 9 words) ≡ words_step image words
many_words None words h =
    outside_is (take 9 words) (omega (arith, length-take 9 words))
    ∙ ap (λ w. outside_by w (form_of (take 9 words))) (get_or-take 9 words 0 [] (omega arith))
    ∙ ap (λ o. outside_by (word_at words 0) o) (form_of_front words h) ∙ sym (outside_is words h)
many_words (Some image) words h =
    inside_is image (take 9 words) (omega (arith, length-take 9 words)) ∙ ap (λ w. inside_by image.context w) (get_or-take 9 words 0 [] (omega arith)) ∙ sym (inside_is image words h)

words_front : (image : Option OpenImage) (words : List (List ℕ)) → words_step image (take 9 words) ≡ words_step image words
words_front image words =
    elim (cases_lt 8 (length words)) [ inl h ↦ many_words image words h | inr h ↦ ap (words_step image) (take_all 9 words (omega arith)) ]

skipped_front : (words : List (List ℕ)) → is_skipped (take 9 words) ≡ is_skipped words
skipped_front [] = refl
skipped_front (word ∷ more) = refl

is_skipped_here : (line : List ℕ) (words : List (List ℕ)) → words ≡ take 9 (words_of line) → is_skipped words ≡ is_skipped (words_of line)
is_skipped_here line words e = ap is_skipped e ∙ skipped_front (words_of line)

abbrev line_by : Option OpenImage → List ℕ → Bool → Bool → Result Step Cause
line_by image line skip print = cond skip (Ok (record { commands = []; image = image })) (cond print (words_step image (words_of line)) (Err cause.Byte))

pub skipped_line : (image : Option OpenImage) (line : List ℕ) (words : List (List ℕ)) → words ≡ take 9 (words_of line) → is_skipped words ≡ true → line_step image line ≡ Ok (record { commands = []; image = image })
skipped_line image line words e h = ap (λ b. line_by image line b (list_all is_printable line)) (sym (is_skipped_here line words e) ∙ h)

pub bad_byte : (image : Option OpenImage) (line : List ℕ) (words : List (List ℕ)) → words ≡ take 9 (words_of line) → is_skipped words ≡ false → list_all is_printable line ≡ false → line_step image line ≡ Err cause.Byte
bad_byte image line words e h p = ap (λ b. line_by image line b (list_all is_printable line)) (sym (is_skipped_here line words e) ∙ h) ∙ ap (λ b. line_by image line false b) p

pub words_line : (image : Option OpenImage) (line : List ℕ) (words : List (List ℕ)) → words ≡ take 9 (words_of line) → is_skipped words ≡ false → list_all is_printable line ≡ true → line_step image line ≡ words_step image words
words_line image line words e h p =
    ap (λ b. line_by image line b (list_all is_printable line)) (sym (is_skipped_here line words e) ∙ h) ∙ ap (λ b. line_by image line false b) p
    ∙ sym (ap (words_step image) e ∙ words_front image (words_of line))

-- the same where it is told by what was read whether an image is open
pub outside_line : (read : Progress) (line : List ℕ) (words : List (List ℕ)) → words ≡ take 9 (words_of line) → is_skipped words ≡ false → list_all is_printable line ≡ true → read.image ≡ None
    → line_step (image_of read) line ≡ outside_step words
outside_line read line words e h p none =
    words_line (image_of read) line words e h p ∙ ap (λ o. words_step (option_map (λ name. record { name = name; lines = read.lines.items; context = read.context }) o) words) none

pub inside_line : (read : Progress) (line : List ℕ) (words : List (List ℕ)) (name : List ℕ) → words ≡ take 9 (words_of line) → is_skipped words ≡ false → list_all is_printable line ≡ true → read.image ≡ Some name
    → line_step (image_of read) line ≡ inside_step (record { name = name; lines = read.lines.items; context = read.context }) words
inside_line read line words name e h p some =
    words_line (image_of read) line words e h p ∙ ap (λ o. words_step (option_map (λ name. record { name = name; lines = read.lines.items; context = read.context }) o) words) some
