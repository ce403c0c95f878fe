-- What a line adds to a script: nothing, a command, the begin or the end of an image, or a line of its recipe (own).
use Rattle.std.specs.Prelude.{ℕ, ◌≡◌, if◌then◌else◌, List, [], ◌∷◌, ◌++◌, Option, Some, None, option_map, Result, Ok, Err, bytes_eq, codes}
use Rattle.std.specs.List.{list_all}
use Rattle.word_kinds.specs.declared.causes.Cause.{Cause}
use Rattle.word_kinds.specs.declared.causes.Cause.TheVariants as cause
use Rattle.word_kinds.specs.declared.kinds.Kind.{Kind}
use Rattle.word_kinds.specs.declared.kinds.Kind.TheVariants as kind
use Rattle.word_kinds.specs.Spellings.{words_of}
use Rattle.word_kinds.specs.Places.{word_at, name_at}
use Rattle.script_lang.specs.declared.commands.Command.{Command}
use Rattle.script_lang.specs.declared.commands.Command.TheVariants as command
use Rattle.script_lang.specs.declared.forms.Form.{Form}
use Rattle.script_lang.specs.declared.recipes.RecipeLine.{RecipeLine}
use Rattle.script_lang.specs.declared.recipe_forms.RecipeForm.{RecipeForm}
use Rattle.script_lang.specs.declared.recipe_forms.Context.{Context}
use Rattle.script_lang.specs.declared.progress.Progress.{Progress}
use Rattle.script_lang.specs.declared.progress.LineFault.{LineFault}
use Rattle.script_lang.specs.declared.progress.LineFault.TheVariants as fault
use Rattle.script_lang.specs.Forms.{command_of}
use Rattle.script_lang.specs.Recipes.{recipe_line, first_context, context_after}
use Rattle.script_lang.specs.Lines.{is_skipped, is_printable, misfit, form_of_line, recipe_form_of_line}

-- an image whose `end` has not come yet
pub record OpenImage : Type 0 where
  pub name : List ℕ
  pub lines : List RecipeLine
  pub context : Context

-- the command that a line completes, if it does, and the image that is open after it
pub record Step : Type 0 where
  pub commands : List Command
  pub image : Option OpenImage

-- the words of `image NAME` and of `end`
abbrev pub image_kinds : List Kind
image_kinds = kind.Keyword ∷ kind.Name ∷ []

abbrev pub end_kinds : List Kind
end_kinds = kind.Keyword ∷ []

-- an image begins
abbrev pub opened_step : List (List ℕ) → Option Cause → Result Step Cause
opened_step words None = Ok (record { commands = []; image = Some (record { name = name_at words 1; lines = []; context = first_context }) })
opened_step words (Some why) = Err why

-- a command of one line
abbrev pub command_step : List (List ℕ) → Result Form Cause → Result Step Cause
command_step words (Ok form) = Ok (record { commands = command_of form words ∷ []; image = None })
command_step words (Err why) = Err why

-- a line outside of an image
abbrev pub outside_step : List (List ℕ) → Result Step Cause
outside_step words =
    if bytes_eq (word_at words 0) (codes "image") then opened_step words (misfit image_kinds words) else command_step words (form_of_line words)

-- an image ends
abbrev pub closed_step : OpenImage → Option Cause → Result Step Cause
closed_step image None = Ok (record { commands = command.Image image.name image.lines ∷ []; image = None })
closed_step image (Some why) = Err why

-- a line more of a recipe
abbrev pub added_step : OpenImage → List (List ℕ) → Result RecipeForm Cause → Result Step Cause
added_step image words (Ok form) =
    Ok (record {
      commands = [];
      image = Some (record { name = image.name; lines = image.lines ++ recipe_line form words ∷ []; context = context_after image.context form });
    })
added_step image words (Err why) = Err why

-- a line within an image
abbrev pub inside_step : OpenImage → List (List ℕ) → Result Step Cause
inside_step image words =
    if bytes_eq (word_at words 0) (codes "end") then closed_step image (misfit end_kinds words)
    else added_step image words (recipe_form_of_line image.context words)

abbrev pub words_step : Option OpenImage → List (List ℕ) → Result Step Cause
words_step None words = outside_step words
words_step (Some image) words = inside_step image words

-- a line: a bad byte comes before all else
abbrev pub line_step : Option OpenImage → List ℕ → Result Step Cause
line_step image line =
    if is_skipped (words_of line) then Ok (record { commands = []; image = image })
    else (if list_all is_printable line then words_step image (words_of line) else Err cause.Byte)

-- the image that is open in what was read
abbrev pub image_of : Progress → Option OpenImage
image_of progress = option_map (λ name. record { name = name; lines = progress.lines.items; context = progress.context }) progress.image

-- what was read grew as a line says, unless memory ran out
abbrev pub IsStepped : Result Step Cause → Progress → Progress → Result (Unit {0}) LineFault → Type 0
IsStepped (Ok step) old new (Ok done) = (new.commands.items ≡ old.commands.items ++ step.commands) × (image_of new ≡ step.image)
IsStepped (Err why) old new (Ok done) = ⊥
IsStepped said old new (Err (fault.Bad why)) = said ≡ Err why
IsStepped said old new (Err fault.NoMemory) = Unit {0}
