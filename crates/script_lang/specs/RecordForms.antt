-- The lines of recipes that say the records of a worker's code: the words of each form, and what they say (own).
use Rattle.std.specs.Prelude.{ℕ, List, [], ◌∷◌, codes}
use Rattle.word_kinds.specs.declared.kinds.Kind.{Kind}
use Rattle.word_kinds.specs.declared.kinds.Kind.TheVariants as kind
use Rattle.word_kinds.specs.Places.{number_at, address_at, destination_at}
use Rattle.script_lang.specs.declared.recipes.RecipeLine.{RecipeLine}
use Rattle.script_lang.specs.declared.recipes.RecipeLine.TheVariants as recipe
use Rattle.script_lang.specs.declared.record_forms.RecordForm.{RecordForm}
use Rattle.script_lang.specs.declared.record_forms.RecordForm.TheVariants as record_form

-- the first word of a form
abbrev pub record_keyword : RecordForm → List ℕ
record_keyword record_form.Halt = codes "halt"
record_keyword record_form.Announce = codes "announce"
record_keyword record_form.Bind = codes "bind"
record_keyword record_form.Send = codes "send"
record_keyword record_form.Raw = codes "raw"
record_keyword record_form.Take = codes "take"
record_keyword record_form.Log = codes "log"
record_keyword record_form.Crash = codes "crash"
record_keyword record_form.Loop = codes "loop"

-- the kinds of all words of a form
abbrev pub record_kinds : RecordForm → List Kind
record_kinds record_form.Halt = kind.Keyword ∷ []
record_kinds record_form.Announce = kind.Keyword ∷ kind.Number ∷ kind.Number ∷ kind.Number ∷ []
record_kinds record_form.Bind = kind.Keyword ∷ kind.Address ∷ []
record_kinds record_form.Send = kind.Keyword ∷ kind.Number ∷ kind.Destination ∷ kind.Number ∷ kind.RecordLength ∷ []
record_kinds record_form.Raw = kind.Keyword ∷ kind.Number ∷ kind.RecordLength ∷ []
record_kinds record_form.Take = kind.Keyword ∷ []
record_kinds record_form.Log = kind.Keyword ∷ kind.Number ∷ kind.Number ∷ kind.RecordLength ∷ []
record_kinds record_form.Crash = kind.Keyword ∷ kind.Number ∷ []
record_kinds record_form.Loop = kind.Keyword ∷ kind.Number ∷ kind.Number ∷ []

-- the line of a form that the words say, each in its place
abbrev pub record_line : RecordForm → List (List ℕ) → RecipeLine
record_line record_form.Halt w = recipe.Halt
record_line record_form.Announce w = recipe.Announce (number_at w 1) (number_at w 2) (number_at w 3)
record_line record_form.Bind w = recipe.Bind (address_at w 1)
record_line record_form.Send w = recipe.Send (number_at w 1) (destination_at w 2) (number_at w 3) (number_at w 4)
record_line record_form.Raw w = recipe.Raw (number_at w 1) (number_at w 2)
record_line record_form.Take w = recipe.Take
record_line record_form.Log w = recipe.Log (number_at w 1) (number_at w 2) (number_at w 3)
record_line record_form.Crash w = recipe.Crash (number_at w 1)
record_line record_form.Loop w = recipe.Loop (number_at w 1) (number_at w 2)
