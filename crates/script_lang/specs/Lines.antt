-- The form of a line, or why it has none (own).
use Rattle.std.specs.Prelude.{ℕ, Bool, true, ◌==◌, ◌&&◌, ◌||◌, not, nat_le, nat_lt, if◌then◌else◌, List, [], ◌∷◌, length, Option, Some, None, option_map, is_some, Result, Ok, Err, bytes_eq, codes}
use Rattle.std.specs.List.{slice_index}
use Rattle.word_kinds.specs.declared.kinds.Kind.{Kind}
use Rattle.word_kinds.specs.Kinds.{are_of}
use Rattle.word_kinds.specs.Places.{word_at}
use Rattle.word_kinds.specs.declared.causes.Cause.{Cause}
use Rattle.word_kinds.specs.declared.causes.Cause.TheVariants as cause
use Rattle.script_lang.specs.declared.forms.Form.{Form}
use Rattle.script_lang.specs.declared.forms.Form.TheVariants as form
use Rattle.script_lang.specs.declared.recipe_forms.RecipeForm.{RecipeForm}
use Rattle.script_lang.specs.declared.recipe_forms.Context.{Context}
use Rattle.script_lang.specs.CallForms.{call_form_named}
use Rattle.script_lang.specs.Forms.{kinds, form_named}
use Rattle.script_lang.specs.Recipes.{recipe_form_named, recipe_kinds, is_allowed}

-- a line without words, or whose first word begins with `#`, says nothing
abbrev pub is_skipped : List (List ℕ) → Bool
is_skipped [] = true
is_skipped (word ∷ more) = slice_index word 0 == 35

-- a space or a visible character of ASCII
abbrev pub is_printable : ℕ → Bool
is_printable byte = nat_le 32 byte && nat_le byte 126

-- the form, or why there is none
abbrev pub form_or : Cause → Option Form → Result Form Cause
form_or why None = Err why
form_or why (Some form) = Ok form

-- a call that is begun is known by the fourth word
abbrev pub begin_form : List (List ℕ) → Result Form Cause
begin_form words =
    if nat_lt (length words) 4 then Err cause.Words else form_or cause.Value (option_map form.Begin (call_form_named (word_at words 3)))

-- the word that begins no command: outside of an image a recipe line or an `end` is out of place
abbrev pub outside_cause : List ℕ → Cause
outside_cause word = if is_some (recipe_form_named word) || bytes_eq word (codes "end") then cause.Block else cause.Command

-- any other command by the first
abbrev pub form_of : List (List ℕ) → Result Form Cause
form_of words =
    if bytes_eq (word_at words 0) (codes "begin") then begin_form words
    else form_or (outside_cause (word_at words 0)) (form_named (word_at words 0))

-- why words don't fit these kinds: their number before their kinds
abbrev pub misfit : List Kind → List (List ℕ) → Option Cause
misfit kinds words =
    if not (length words == length kinds) then Some cause.Words else (if are_of kinds words then None else Some cause.Value)

-- a form that the words fit
abbrev pub unless_misfit : {F : Type 0} → F → Option Cause → Result F Cause
unless_misfit form None = Ok form
unless_misfit form (Some why) = Err why

abbrev pub fitting_form : List (List ℕ) → Result Form Cause → Result Form Cause
fitting_form words (Ok form) = unless_misfit form (misfit (kinds form) words)
fitting_form words (Err why) = Err why

-- the form of these words outside of an image, or the first cause by which they have none
abbrev pub form_of_line : List (List ℕ) → Result Form Cause
form_of_line words = fitting_form words (form_of words)

-- the word that begins no line of a recipe: within an image a command is out of place
abbrev pub inside_cause : List ℕ → Cause
inside_cause word =
    if is_some (form_named word) || bytes_eq word (codes "begin") || bytes_eq word (codes "image") then cause.Block else cause.Command

abbrev pub fitting_line : Context → List (List ℕ) → Option RecipeForm → Result RecipeForm Cause
fitting_line context words None = Err (inside_cause (word_at words 0))
fitting_line context words (Some form) =
    if is_allowed context form then unless_misfit form (misfit (recipe_kinds form) words) else Err cause.Block

-- the form of these words within an image, or the first cause by which they have none: the place comes before the other words
abbrev pub recipe_form_of_line : Context → List (List ℕ) → Result RecipeForm Cause
recipe_form_of_line context words = fitting_line context words (recipe_form_named (word_at words 0))
