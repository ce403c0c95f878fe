-- The forms of commands: the words of each, and the command that they say (own).
use Rattle.std.specs.Prelude.{ℕ, List, [], ◌∷◌, find, Option, bytes_eq, codes}
use Rattle.word_kinds.specs.declared.kinds.Kind.{Kind}
use Rattle.word_kinds.specs.declared.kinds.Kind.TheVariants as kind
use Rattle.word_kinds.specs.Places.{word_at, name_at, number_at, end_at}
use Rattle.word_kinds.specs.Readings.{switch_read}
use Rattle.script_lang.specs.declared.commands.Command.{Command}
use Rattle.script_lang.specs.declared.commands.Command.TheVariants as command
use Rattle.script_lang.specs.declared.call_forms.CallForm.TheVariants as call
use Rattle.script_lang.specs.declared.core_forms.CoreForm.TheVariants as core
use Rattle.script_lang.specs.declared.forms.Form.{Form}
use Rattle.script_lang.specs.declared.forms.Form.TheVariants as form
use Rattle.script_lang.specs.CallForms.{call_keyword, call_kinds, begin_kinds, call_command, begin_command}
use Rattle.script_lang.specs.CoreForms.{core_keyword, core_kinds, core_command}

-- the forms that are known by their first word: all but those of `begin`
abbrev pub plain_forms : List Form
plain_forms =
    form.Call call.Send ∷ form.Call call.Take ∷ form.Call call.Give ∷ form.Call call.Raw ∷ form.Call call.Bind ∷ form.Call call.Unbind
    ∷ form.Step ∷ form.Finish ∷ form.Link ∷ form.NsLink ∷ form.Caller ∷ form.Pump ∷ form.Books ∷ form.Ring
    ∷ form.Channels ∷ form.Close ∷ form.Reclaim ∷ form.Reopen
    ∷ form.Core core.Core ∷ form.Core core.Region ∷ form.Core core.Boot ∷ form.Core core.Handover ∷ form.Core core.Shutdown ∷ form.Core core.Detach ∷ form.Core core.State ∷ form.Core core.Table
    ∷ form.Core core.Trace ∷ form.Core core.Mem ∷ form.Core core.Crash ∷ form.Core core.Recover ∷ form.Core core.Recovery
    ∷ form.Core core.Driver ∷ form.Core core.Drive ∷ form.Core core.Dump ∷ form.Quiet ∷ []

-- the first word of a form
abbrev pub keyword : Form → List ℕ
keyword (form.Call call) = call_keyword call
keyword (form.Begin call) = codes "begin"
keyword (form.Core core) = core_keyword core
keyword form.Link = codes "link"
keyword form.NsLink = codes "nslink"
keyword form.Caller = codes "caller"
keyword form.Step = codes "step"
keyword form.Finish = codes "finish"
keyword form.Pump = codes "pump"
keyword form.Books = codes "books"
keyword form.Ring = codes "ring"
keyword form.Channels = codes "channels"
keyword form.Close = codes "close"
keyword form.Reclaim = codes "reclaim"
keyword form.Reopen = codes "reopen"
keyword form.Quiet = codes "quiet"

-- the form that is known by this first word
abbrev pub form_named : List ℕ → Option Form
form_named word = find (λ form. bytes_eq word (keyword form)) plain_forms

-- the kinds of all words of a form
abbrev pub kinds : Form → List Kind
kinds (form.Call call) = call_kinds call
kinds (form.Begin call) = begin_kinds call
kinds (form.Core core) = core_kinds core
kinds form.Link = kind.Keyword ∷ kind.Name ∷ kind.Ring ∷ kind.Ring ∷ kind.Book ∷ []
kinds form.NsLink = kind.Keyword ∷ kind.Name ∷ kind.Ring ∷ kind.Ring ∷ kind.Book ∷ []
kinds form.Caller = kind.Keyword ∷ kind.Name ∷ kind.End ∷ []
kinds form.Step = kind.Keyword ∷ kind.Name ∷ kind.Caller ∷ kind.Count ∷ []
kinds form.Finish = kind.Keyword ∷ kind.Name ∷ kind.Caller ∷ []
kinds form.Pump = kind.Keyword ∷ kind.Name ∷ kind.Caller ∷ kind.Caller ∷ kind.Count ∷ []
kinds form.Books = kind.Keyword ∷ kind.Name ∷ []
kinds form.Ring = kind.Keyword ∷ kind.Name ∷ kind.Lane ∷ []
kinds form.Channels = kind.Keyword ∷ kind.Name ∷ []
kinds form.Close = kind.Keyword ∷ kind.Name ∷ []
kinds form.Reclaim = kind.Keyword ∷ kind.Name ∷ kind.Caller ∷ []
kinds form.Reopen = kind.Keyword ∷ kind.Name ∷ []
kinds form.Quiet = kind.Keyword ∷ kind.Switch ∷ []

-- the command of a form that the words say, each in its place
abbrev pub command_of : Form → List (List ℕ) → Command
command_of (form.Call call) w = call_command call w
command_of (form.Begin call) w = begin_command call w
command_of (form.Core core) w = core_command core w
command_of form.Link w = command.Link (name_at w 1) (number_at w 2) (number_at w 3) (number_at w 4)
command_of form.NsLink w = command.NsLink (name_at w 1) (number_at w 2) (number_at w 3) (number_at w 4)
command_of form.Caller w = command.Caller (name_at w 1) (end_at w 2)
command_of form.Step w = command.Step (name_at w 1) (number_at w 2) (number_at w 3)
command_of form.Finish w = command.Finish (name_at w 1) (number_at w 2)
command_of form.Pump w = command.Pump (name_at w 1) (number_at w 2) (number_at w 3) (number_at w 4)
command_of form.Books w = command.Books (name_at w 1)
command_of form.Ring w = command.Ring (name_at w 1) (number_at w 2)
command_of form.Channels w = command.Channels (name_at w 1)
command_of form.Close w = command.Close (name_at w 1)
command_of form.Reclaim w = command.Reclaim (name_at w 1) (number_at w 2)
command_of form.Reopen w = command.Reopen (name_at w 1)
command_of form.Quiet w = command.Quiet (switch_read (word_at w 1))
