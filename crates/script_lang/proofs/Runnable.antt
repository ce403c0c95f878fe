-- What a script says can be run.
use Rattle.std.proofs.Common.{◌≡◌, ℕ, ◌+◌, ◌==◌, Bool, true, false, not, cond, length, List, [], ◌∷◌, ◌++◌, Option, Some, None, Result, Ok, Err, refl, subst, bytes_eq, codes}
use lib.Dec.{ltb as nat_lt}
use Rattle.std.specs.List.{list_all}
use Rattle.rp_base.specs.declared.limits.TheConstants.{SCRIPT_MOST, SCRIPT_LINES_MOST}
use Rattle.word_kinds.specs.declared.causes.Cause.{Cause}
use Rattle.word_kinds.specs.declared.causes.Cause.TheVariants as cause
use Rattle.word_kinds.specs.declared.kinds.Kind.{Kind}
use Rattle.word_kinds.specs.Kinds.{are_of}
use Rattle.word_kinds.specs.Places.{word_at}
use Rattle.word_kinds.specs.Spellings.{words_of}
use Rattle.script_lang.specs.declared.commands.Command.{Command}
use Rattle.script_lang.specs.declared.call_forms.CallForm.{CallForm}
use Rattle.script_lang.specs.declared.call_forms.CallForm.TheVariants as call
use Rattle.script_lang.specs.declared.core_forms.CoreForm.{CoreForm}
use Rattle.script_lang.specs.declared.core_forms.CoreForm.TheVariants as core
use Rattle.script_lang.specs.declared.forms.Form.{Form}
use Rattle.script_lang.specs.declared.forms.Form.TheVariants as form
use Rattle.script_lang.specs.declared.recipes.RecipeLine.{RecipeLine}
use Rattle.script_lang.specs.declared.record_forms.RecordForm.{RecordForm}
use Rattle.script_lang.specs.declared.record_forms.RecordForm.TheVariants as record_form
use Rattle.script_lang.specs.declared.recipe_forms.RecipeForm.{RecipeForm}
use Rattle.script_lang.specs.declared.recipe_forms.RecipeForm.TheVariants as recipe_form
use Rattle.script_lang.specs.declared.recipe_forms.Context.{Context}
use Rattle.script_lang.specs.CallForms.{call_kinds, begin_kinds, call_command, begin_command}
use Rattle.script_lang.specs.CoreForms.{core_kinds, core_command}
use Rattle.script_lang.specs.Forms.{kinds, command_of}
use Rattle.script_lang.specs.RecordForms.{record_kinds, record_line}
use Rattle.script_lang.specs.Recipes.{recipe_kinds, recipe_line, recipe_form_named, is_allowed}
use Rattle.script_lang.specs.Lines.{is_skipped, is_printable, form_of, misfit, unless_misfit, fitting_form, form_of_line, fitting_line, recipe_form_of_line}
use Rattle.script_lang.specs.Steps.{OpenImage, Step, image_kinds, end_kinds, opened_step, command_step, closed_step, added_step, words_step, line_step}
use Rattle.script_lang.specs.Grammar.{Refusal, bad_line, onto, step_and_more, image_behind, at_end, commands_from, lines_of, script_of, IsScript}
use Rattle.script_lang.specs.Runnable.{IsLine, IsRecipe, IsRunnable, AreRunnable}
use Rattle.script_lang.proofs.Ranges.{AreInRange, all_in_range}

-- the command of a form: its numbers, place by place
call_runs : (f : CallForm) (w : List (List ℕ)) → AreInRange (call_kinds f) w 0 → IsRunnable (call_command f w)
call_runs call.Send w m = (m.1.1.0, m.1.1.1.0, m.1.1.1.1.0, m.1.1.1.1.1.0)
call_runs call.Raw w m = (m.1.1.0, m.1.1.1.0)
call_runs call.Take w m = m.1.1.0
call_runs call.Give w m = (m.1.1.0, m.1.1.1.0)
call_runs call.Bind w m = (m.1.1.0, m.1.1.1.0)
call_runs call.Unbind w m = (m.1.1.0, m.1.1.1.0)

begin_runs : (f : CallForm) (w : List (List ℕ)) → AreInRange (begin_kinds f) w 0 → IsRunnable (begin_command f w)
begin_runs call.Send w m = (m.1.1.0, m.1.1.1.1.0, m.1.1.1.1.1.0, m.1.1.1.1.1.1.0)
begin_runs call.Raw w m = (m.1.1.0, m.1.1.1.1.0)
begin_runs call.Take w m = m.1.1.0
begin_runs call.Give w m = (m.1.1.0, m.1.1.1.1.0)
begin_runs call.Bind w m = (m.1.1.0, m.1.1.1.1.0)
begin_runs call.Unbind w m = (m.1.1.0, m.1.1.1.1.0)

core_runs : (f : CoreForm) (w : List (List ℕ)) → AreInRange (core_kinds f) w 0 → IsRunnable (core_command f w)
core_runs core.Core w m = m.1.1.1.0
core_runs core.Region w m = (m.1.1.1.0, m.1.1.1.1.0, m.1.1.1.1.1.0)
core_runs core.Boot w m = tt
core_runs core.Handover w m = tt
core_runs core.Shutdown w m = tt
core_runs core.Detach w m = tt
core_runs core.State w m = tt
core_runs core.Table w m = tt
core_runs core.Trace w m = m.1.1.0
core_runs core.Mem w m = (m.1.1.0, m.1.1.1.0)
core_runs core.Crash w m = tt
core_runs core.Recover w m = tt
core_runs core.Recovery w m = tt
core_runs core.Driver w m = tt
core_runs core.Drive w m = m.1.1.0
core_runs core.Dump w m = tt

form_runs : (f : Form) (w : List (List ℕ)) → AreInRange (kinds f) w 0 → IsRunnable (command_of f w)
form_runs (form.Call f) w m = call_runs f w m
form_runs (form.Begin f) w m = begin_runs f w m
form_runs (form.Core f) w m = core_runs f w m
form_runs form.Link w m = (m.1.1.0, m.1.1.1.0, m.1.1.1.1.0)
form_runs form.NsLink w m = (m.1.1.0, m.1.1.1.0, m.1.1.1.1.0)
form_runs form.Caller w m = tt
form_runs form.Step w m = (m.1.1.0, m.1.1.1.0)
form_runs form.Finish w m = m.1.1.0
form_runs form.Pump w m = (m.1.1.0, m.1.1.1.0, m.1.1.1.1.0)
form_runs form.Books w m = tt
form_runs form.Ring w m = m.1.1.0
form_runs form.Channels w m = tt
form_runs form.Close w m = tt
form_runs form.Reclaim w m = m.1.1.0
form_runs form.Reopen w m = tt
form_runs form.Quiet w m = tt

same_Ok : {A E : Type 0} (x y : A) → ◌≡◌ {A = Result A E} (Ok x) (Ok y) → x ≡ y
same_Ok x y e = cc

-- a record likewise
record_runs : (f : RecordForm) (w : List (List ℕ)) → AreInRange (record_kinds f) w 0 → IsLine (record_line f w)
record_runs record_form.Halt w m = tt
record_runs record_form.Announce w m = (m.1.0, m.1.1.0, m.1.1.1.0)
record_runs record_form.Bind w m = m.1.0
record_runs record_form.Send w m = (m.1.0, m.1.1.0, m.1.1.1.0, m.1.1.1.1.0)
record_runs record_form.Raw w m = (m.1.0, m.1.1.0)
record_runs record_form.Take w m = tt
record_runs record_form.Log w m = (m.1.0, m.1.1.0, m.1.1.1.0)
record_runs record_form.Crash w m = m.1.0
record_runs record_form.Loop w m = (m.1.0, m.1.1.0)

-- a recipe line likewise
line_runs : (f : RecipeForm) (w : List (List ℕ)) → AreInRange (recipe_kinds f) w 0 → IsLine (recipe_line f w)
line_runs recipe_form.Entry w m = m.1.0
line_runs recipe_form.Load w m = (m.1.0, m.1.1.0, m.1.1.1.0)
line_runs recipe_form.Table w m = m.1.0
line_runs recipe_form.Carveout w m = (m.1.0, m.1.1.0, m.1.1.1.0)
line_runs recipe_form.Devmem w m = (m.1.0, m.1.1.0, m.1.1.1.0, m.1.1.1.1.0)
line_runs recipe_form.Trace w m = (m.1.0, m.1.1.0, m.1.1.1.0)
line_runs recipe_form.Vdev w m = (m.1.0, m.1.1.0)
line_runs recipe_form.Vring w m = (m.1.0, m.1.1.0, m.1.1.1.0)
line_runs recipe_form.Vendor w m = m.1.0
line_runs recipe_form.Code w m = m.1.0
line_runs (recipe_form.Record f) w m = record_runs f w m

-- words that fit their kinds
fits : (ks : List Kind) (words : List (List ℕ)) (count kept : Bool) → are_of ks words ≡ kept → cond (not count) (Some cause.Words) (cond kept None (Some cause.Value)) ≡ None → AreInRange ks words 0
fits ks words false kept h e = absurd (cc)
fits ks words true false h e = absurd (cc)
fits ks words true true h e = all_in_range ks words 0 h

fit_of : {F : Type 0} (ks : List Kind) (words : List (List ℕ)) (g f : F) (found : Option Cause) → misfit ks words ≡ found → unless_misfit g found ≡ Ok f → (g ≡ f) × AreInRange ks words 0
fit_of ks words g f None h e = (cc, fits ks words (length words == length ks) (are_of ks words) refl h)
fit_of ks words g f (Some why) h e = absurd (cc)

form_of_line_runs : (words : List (List ℕ)) (found : Result Form Cause) (f : Form) → fitting_form words found ≡ Ok f → IsRunnable (command_of f words)
form_of_line_runs words (Ok g) f e =
    let both = fit_of (kinds g) words g f (misfit (kinds g) words) refl e in
    subst (λ x. IsRunnable (command_of x words)) both.0 (form_runs g words both.1)
form_of_line_runs words (Err why) f e = absurd (cc)

fitting_runs : (words : List (List ℕ)) (g f : RecipeForm) (allowed : Bool) → cond allowed (unless_misfit g (misfit (recipe_kinds g) words)) (Err cause.Block) ≡ Ok f → IsLine (recipe_line f words)
fitting_runs words g f false e = absurd (cc)
fitting_runs words g f true e =
    let both = fit_of (recipe_kinds g) words g f (misfit (recipe_kinds g) words) refl e in
    subst (λ x. IsLine (recipe_line x words)) both.0 (line_runs g words both.1)

recipe_form_of_line_runs : (context : Context) (words : List (List ℕ)) (found : Option RecipeForm) (f : RecipeForm) → fitting_line context words found ≡ Ok f → IsLine (recipe_line f words)
recipe_form_of_line_runs context words None f e = absurd (cc)
recipe_form_of_line_runs context words (Some g) f e = fitting_runs words g f (is_allowed context g) e

recipe_more : (lines : List RecipeLine) (line : RecipeLine) → IsRecipe lines → IsLine line → IsRecipe (lines ++ line ∷ [])
recipe_more [] line h l = (l, tt)
recipe_more (first ∷ more) line h l = (h.0, recipe_more more line h.1 l)

-- the lines of an image that is open
abbrev IsOpen : Option OpenImage → Type 0
IsOpen None = Unit {0}
IsOpen (Some image) = IsRecipe image.lines

abbrev Runs : Step → Type 0
Runs step = AreRunnable step.commands × IsOpen step.image

opened_runs : (words : List (List ℕ)) (why : Option Cause) (step : Step) → opened_step words why ≡ Ok step → Runs step
opened_runs words None step e = let same = same_Ok _ step e in subst Runs same (tt, tt)
opened_runs words (Some why) step e = absurd (cc)

command_runs : (words : List (List ℕ)) (found : Result Form Cause) (step : Step) → form_of_line words ≡ found → command_step words found ≡ Ok step → Runs step
command_runs words (Ok f) step h e = subst Runs (same_Ok _ step e) ((form_of_line_runs words (form_of words) f h, tt), tt)
command_runs words (Err why) step h e = absurd (cc)

closed_runs : (image : OpenImage) (why : Option Cause) (step : Step) → IsRecipe image.lines → closed_step image why ≡ Ok step → Runs step
closed_runs image None step h e = subst Runs (same_Ok _ step e) ((h, tt), tt)
closed_runs image (Some why) step h e = absurd (cc)

added_runs : (image : OpenImage) (words : List (List ℕ)) (found : Result RecipeForm Cause) (step : Step) → IsRecipe image.lines → recipe_form_of_line image.context words ≡ found → added_step image words found ≡ Ok step → Runs step
added_runs image words (Ok f) step h j e =
    subst Runs (same_Ok _ step e) (tt, recipe_more image.lines (recipe_line f words) h (recipe_form_of_line_runs image.context words (recipe_form_named (word_at words 0)) f j))
added_runs image words (Err why) step h j e = absurd (cc)

outside_runs : (words : List (List ℕ)) (test : Bool) (step : Step) → cond test (opened_step words (misfit image_kinds words)) (command_step words (form_of_line words)) ≡ Ok step → Runs step
outside_runs words true step e = opened_runs words (misfit image_kinds words) step e
outside_runs words false step e = command_runs words (form_of_line words) step refl e

inside_runs : (image : OpenImage) (words : List (List ℕ)) (test : Bool) (step : Step) → IsRecipe image.lines
    → cond test (closed_step image (misfit end_kinds words)) (added_step image words (recipe_form_of_line image.context words)) ≡ Ok step → Runs step
inside_runs image words true step h e = closed_runs image (misfit end_kinds words) step h e
inside_runs image words false step h e = added_runs image words (recipe_form_of_line image.context words) step h refl e

words_run : (image : Option OpenImage) (words : List (List ℕ)) (step : Step) → IsOpen image → words_step image words ≡ Ok step → Runs step
words_run None words step h e = outside_runs words (bytes_eq (word_at words 0) (codes "image")) step e
words_run (Some image) words step h e = inside_runs image words (bytes_eq (word_at words 0) (codes "end")) step h e

step_runs : (image : Option OpenImage) (line : List ℕ) (skip print : Bool) (step : Step) → IsOpen image
    → cond skip (Ok (record { commands = []; image = image })) (cond print (words_step image (words_of line)) (Err cause.Byte)) ≡ Ok step → Runs step
step_runs image line true print step h e = subst Runs (same_Ok _ step e) (tt, h)
step_runs image line false false step h e = absurd (cc)
step_runs image line false true step h e = words_run image (words_of line) step h e

append_runs : (front more : List Command) → AreRunnable front → AreRunnable more → AreRunnable (front ++ more)
append_runs [] more f m = m
append_runs (first ∷ front) more f m = (f.0, append_runs front more f.1 m)

onto_runs : (front : List Command) (more : Result (List Command) Refusal) (commands : List Command) → AreRunnable front → ((ys : List Command) → more ≡ Ok ys → AreRunnable ys) → onto front more ≡ Ok commands → AreRunnable commands
onto_runs front (Ok ys) commands f g e = subst AreRunnable (same_Ok (front ++ ys) commands e) (append_runs front ys f (g ys refl))
onto_runs front (Err refusal) commands f g e = absurd (cc)

here_runs : (number : ℕ) (image : Option OpenImage) (line : List ℕ) (said : Result Step Cause) (more : Option OpenImage → Result (List Command) Refusal) (commands : List Command) → IsOpen image → line_step image line ≡ said
    → ((next : Option OpenImage) (ys : List Command) → IsOpen next → more next ≡ Ok ys → AreRunnable ys) → step_and_more number said (more (image_behind said)) ≡ Ok commands → AreRunnable commands
here_runs number image line (Ok step) more commands h f rest e =
    let runs = step_runs image line (is_skipped (words_of line)) (list_all is_printable line) step h f in
    onto_runs step.commands (more step.image) commands runs.0 (λ ys. rest step.image ys runs.1) e
here_runs number image line (Err why) more commands h f rest e = absurd (cc)

end_runs : (number : ℕ) (image : Option OpenImage) (commands : List Command) → at_end number image ≡ Ok commands → AreRunnable commands
end_runs number None commands e = subst AreRunnable (same_Ok [] commands e) tt
end_runs number (Some image) commands e = absurd (cc)

lines_run : (number : ℕ) (image : Option OpenImage) (lines : List (List ℕ)) (commands : List Command) → IsOpen image → commands_from number image lines ≡ Ok commands → AreRunnable commands
lines_run number image [] commands h e = end_runs number image commands e
lines_run number image (line ∷ more) commands h e =
    here_runs number image line (line_step image line) (λ next. commands_from (number + 1) next more) commands h refl (λ next ys. lines_run (number + 1) next more ys) e

past : (test : Bool) (refusal : Refusal) (more : Result (List Command) Refusal) (commands : List Command) → cond test (Err refusal) more ≡ Ok commands → more ≡ Ok commands
past true refusal more commands e = absurd (cc)
past false refusal more commands e = e

pub are_runnable : (commands : List Command) → IsScript commands → AreRunnable commands
unfolding script_of
are_runnable commands script =
    let lines = lines_of script.text in
    let rest = commands_from 1 None lines in
    lines_run 1 None lines commands tt
    (past (nat_lt SCRIPT_LINES_MOST (length lines)) (bad_line (SCRIPT_LINES_MOST + 1) cause.Lines) rest commands
    (past (nat_lt SCRIPT_MOST (length script.text)) (bad_line 0 cause.Size) (cond (nat_lt SCRIPT_LINES_MOST (length lines)) (Err (bad_line (SCRIPT_LINES_MOST + 1) cause.Lines)) rest) commands script.says))
