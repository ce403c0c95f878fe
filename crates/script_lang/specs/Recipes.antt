-- The lines of recipes: the words of each form, what they say, and where they may be (own).
use Rattle.std.specs.Prelude.{ℕ, ◌+◌, Bool, true, false, not, nat_lt, List, [], ◌∷◌, find, Option, bytes_eq, codes}
use Rattle.word_kinds.specs.declared.kinds.Kind.{Kind}
use Rattle.word_kinds.specs.declared.kinds.Kind.TheVariants as kind
use Rattle.word_kinds.specs.Places.{name_at, number_at, address_at, bytes_at}
use Rattle.script_lang.specs.declared.recipes.RecipeLine.{RecipeLine}
use Rattle.script_lang.specs.declared.recipes.RecipeLine.TheVariants as recipe
use Rattle.script_lang.specs.declared.record_forms.RecordForm.TheVariants as record_form
use Rattle.script_lang.specs.RecordForms.{record_keyword, record_kinds, record_line}
use Rattle.script_lang.specs.declared.recipe_forms.RecipeForm.{RecipeForm}
use Rattle.script_lang.specs.declared.recipe_forms.RecipeForm.TheVariants as form
use Rattle.script_lang.specs.declared.recipe_forms.Behind.{Behind}
use Rattle.script_lang.specs.declared.recipe_forms.Behind.TheVariants as behind
use Rattle.script_lang.specs.declared.recipe_forms.Context.{Context}

-- the forms of recipe lines
abbrev pub recipe_forms : List RecipeForm
recipe_forms =
    form.Entry ∷ form.Load ∷ form.Table ∷ form.Carveout ∷ form.Devmem ∷ form.Trace ∷ form.Vdev ∷ form.Vring ∷ form.Vendor ∷ form.Code
    ∷ form.Record record_form.Halt ∷ form.Record record_form.Announce ∷ form.Record record_form.Bind ∷ form.Record record_form.Send ∷ form.Record record_form.Raw
    ∷ form.Record record_form.Take ∷ form.Record record_form.Log ∷ form.Record record_form.Crash ∷ form.Record record_form.Loop ∷ []

-- the word by which a form is known
abbrev pub recipe_keyword : RecipeForm → List ℕ
recipe_keyword form.Entry = codes "entry"
recipe_keyword form.Load = codes "load"
recipe_keyword form.Table = codes "table"
recipe_keyword form.Carveout = codes "carveout"
recipe_keyword form.Devmem = codes "devmem"
recipe_keyword form.Trace = codes "trace"
recipe_keyword form.Vdev = codes "vdev"
recipe_keyword form.Vring = codes "vring"
recipe_keyword form.Vendor = codes "vendor"
recipe_keyword form.Code = codes "code"
recipe_keyword (form.Record said) = record_keyword said

-- the form that is known by this word
abbrev pub recipe_form_named : List ℕ → Option RecipeForm
recipe_form_named word = find (λ form. bytes_eq word (recipe_keyword form)) recipe_forms

-- the kinds of all words of a form
abbrev pub recipe_kinds : RecipeForm → List Kind
recipe_kinds form.Entry = kind.Keyword ∷ kind.Number ∷ []
recipe_kinds form.Load = kind.Keyword ∷ kind.Number ∷ kind.Payload ∷ kind.Number ∷ []
recipe_kinds form.Table = kind.Keyword ∷ kind.Number ∷ []
recipe_kinds form.Carveout = kind.Keyword ∷ kind.Address ∷ kind.Number ∷ kind.Name ∷ []
recipe_kinds form.Devmem = kind.Keyword ∷ kind.Number ∷ kind.Number ∷ kind.Number ∷ kind.Name ∷ []
recipe_kinds form.Trace = kind.Keyword ∷ kind.Number ∷ kind.Number ∷ kind.Name ∷ []
recipe_kinds form.Vdev = kind.Keyword ∷ kind.Number ∷ kind.Number ∷ []
recipe_kinds form.Vring = kind.Keyword ∷ kind.Address ∷ kind.Number ∷ kind.Number ∷ []
recipe_kinds form.Vendor = kind.Keyword ∷ kind.Vendor ∷ []
recipe_kinds form.Code = kind.Keyword ∷ kind.Number ∷ []
recipe_kinds (form.Record said) = record_kinds said

-- the line of a form that the words say, each in its place
abbrev pub recipe_line : RecipeForm → List (List ℕ) → RecipeLine
recipe_line form.Entry w = recipe.Entry (number_at w 1)
recipe_line form.Load w = recipe.Load (number_at w 1) (bytes_at w 2) (number_at w 3)
recipe_line form.Table w = recipe.Table (number_at w 1)
recipe_line form.Carveout w = recipe.Carveout (address_at w 1) (number_at w 2) (name_at w 3)
recipe_line form.Devmem w = recipe.Devmem (number_at w 1) (number_at w 2) (number_at w 3) (name_at w 4)
recipe_line form.Trace w = recipe.Trace (number_at w 1) (number_at w 2) (name_at w 3)
recipe_line form.Vdev w = recipe.Vdev (number_at w 1) (number_at w 2)
recipe_line form.Vring w = recipe.Vring (address_at w 1) (number_at w 2) (number_at w 3)
recipe_line form.Vendor w = recipe.Vendor (number_at w 1)
recipe_line form.Code w = recipe.Code (number_at w 1)
recipe_line (form.Record said) w = record_line said w

-- how many rings the device of the last line has
abbrev pub rings_of : Behind → ℕ
rings_of behind.Other = 0
rings_of behind.Code = 0
rings_of behind.Table = 0
rings_of (behind.Device rings) = rings

-- the last line is one of the table
abbrev pub is_table_line : Behind → Bool
is_table_line behind.Other = false
is_table_line behind.Code = false
is_table_line behind.Table = true
is_table_line (behind.Device rings) = true

-- the last line is a device or a ring of it, and the device has fewer than 255 rings
abbrev pub has_ring_place : Behind → Bool
has_ring_place behind.Other = false
has_ring_place behind.Code = false
has_ring_place behind.Table = false
has_ring_place (behind.Device rings) = nat_lt rings 255

-- the last line begins a code or is a record of it
abbrev pub is_code_line : Behind → Bool
is_code_line behind.Other = false
is_code_line behind.Code = true
is_code_line behind.Table = false
is_code_line (behind.Device rings) = false

-- a line of this form may be here: one table, entries after it or after each other, rings after their device, records after their code
abbrev pub is_allowed : Context → RecipeForm → Bool
is_allowed context form.Entry = true
is_allowed context form.Load = true
is_allowed context form.Table = not context.has_table
is_allowed context form.Carveout = is_table_line context.behind
is_allowed context form.Devmem = is_table_line context.behind
is_allowed context form.Trace = is_table_line context.behind
is_allowed context form.Vdev = is_table_line context.behind
is_allowed context form.Vring = has_ring_place context.behind
is_allowed context form.Vendor = is_table_line context.behind
is_allowed context form.Code = true
is_allowed context (form.Record said) = is_code_line context.behind

-- before the first line
abbrev pub first_context : Context
first_context = record { has_table = false; behind = behind.Other }

-- after a line of this form
abbrev pub context_after : Context → RecipeForm → Context
context_after context form.Entry = record context { behind = behind.Other }
context_after context form.Load = record context { behind = behind.Other }
context_after context form.Table = record { has_table = true; behind = behind.Table }
context_after context form.Carveout = record context { behind = behind.Table }
context_after context form.Devmem = record context { behind = behind.Table }
context_after context form.Trace = record context { behind = behind.Table }
context_after context form.Vdev = record context { behind = behind.Device 0 }
context_after context form.Vring = record context { behind = behind.Device (rings_of context.behind + 1) }
context_after context form.Vendor = record context { behind = behind.Table }
context_after context form.Code = record context { behind = behind.Code }
context_after context (form.Record said) = record context { behind = behind.Code }
