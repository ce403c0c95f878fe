-- The forms of calls, whole or begun: the words of each, and the command that they say (own).
use Rattle.std.specs.Prelude.{ℕ, List, [], ◌∷◌, find, Option, bytes_eq, codes}
use Rattle.word_kinds.specs.declared.kinds.Kind.{Kind}
use Rattle.word_kinds.specs.declared.kinds.Kind.TheVariants as kind
use Rattle.word_kinds.specs.Places.{name_at, number_at, address_at, bytes_at}
use Rattle.script_lang.specs.declared.commands.Command.{Command}
use Rattle.script_lang.specs.declared.commands.Command.TheVariants as command
use Rattle.script_lang.specs.declared.call_forms.CallForm.{CallForm}
use Rattle.script_lang.specs.declared.call_forms.CallForm.TheVariants as call

-- the calls
abbrev pub call_forms : List CallForm
call_forms = call.Send ∷ call.Take ∷ call.Give ∷ call.Raw ∷ call.Bind ∷ call.Unbind ∷ []

-- the word by which a call is known
abbrev pub call_keyword : CallForm → List ℕ
call_keyword call.Send = codes "send"
call_keyword call.Raw = codes "raw"
call_keyword call.Take = codes "take"
call_keyword call.Give = codes "give"
call_keyword call.Bind = codes "bind"
call_keyword call.Unbind = codes "unbind"

-- the call that is known by this word
abbrev pub call_form_named : List ℕ → Option CallForm
call_form_named word = find (λ form. bytes_eq word (call_keyword form)) call_forms

-- the kinds of what a call is made of
abbrev pub argument_kinds : CallForm → List Kind
argument_kinds call.Send = kind.Number ∷ kind.Number ∷ kind.Payload ∷ []
argument_kinds call.Raw = kind.Payload ∷ []
argument_kinds call.Take = []
argument_kinds call.Give = kind.Number ∷ []
argument_kinds call.Bind = kind.Address ∷ []
argument_kinds call.Unbind = kind.Number ∷ []

-- the kinds of all words of a whole call: `CALL X C` and the call's words
abbrev pub call_kinds : CallForm → List Kind
call_kinds form = kind.Keyword ∷ kind.Name ∷ kind.Caller ∷ argument_kinds form

-- the kinds of all words of a call that is begun: `begin X C CALL` and the call's words
abbrev pub begin_kinds : CallForm → List Kind
begin_kinds form = kind.Keyword ∷ kind.Name ∷ kind.Caller ∷ kind.Keyword ∷ argument_kinds form

-- the command of a whole call that the words say, each in its place
abbrev pub call_command : CallForm → List (List ℕ) → Command
call_command call.Send w = command.Send (name_at w 1) (number_at w 2) (number_at w 3) (number_at w 4) (bytes_at w 5)
call_command call.Raw w = command.Raw (name_at w 1) (number_at w 2) (bytes_at w 3)
call_command call.Take w = command.Take (name_at w 1) (number_at w 2)
call_command call.Give w = command.Give (name_at w 1) (number_at w 2) (number_at w 3)
call_command call.Bind w = command.Bind (name_at w 1) (number_at w 2) (address_at w 3)
call_command call.Unbind w = command.Unbind (name_at w 1) (number_at w 2) (number_at w 3)

-- the command that begins a call, likewise
abbrev pub begin_command : CallForm → List (List ℕ) → Command
begin_command call.Send w = command.BeginSend (name_at w 1) (number_at w 2) (number_at w 4) (number_at w 5) (bytes_at w 6)
begin_command call.Raw w = command.BeginRaw (name_at w 1) (number_at w 2) (bytes_at w 4)
begin_command call.Take w = command.BeginTake (name_at w 1) (number_at w 2)
begin_command call.Give w = command.BeginGive (name_at w 1) (number_at w 2) (number_at w 4)
begin_command call.Bind w = command.BeginBind (name_at w 1) (number_at w 2) (address_at w 4)
begin_command call.Unbind w = command.BeginUnbind (name_at w 1) (number_at w 2) (number_at w 4)
