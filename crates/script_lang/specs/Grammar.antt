-- Which texts are scripts, and what each says (own).
use Rattle.std.specs.Prelude.{◌≡◌, ℕ, ◌+◌, ◌==◌, nat_lt, if◌then◌else◌, List, [], ◌∷◌, ◌++◌, length, Option, Some, None, Result, Ok, Err}
use Rattle.std.specs.List.{slice_split}
use Rattle.rp_base.specs.declared.limits.TheConstants.{SCRIPT_MOST, SCRIPT_LINES_MOST}
use Rattle.script_lang.specs.declared.commands.Command.{Command}
use Rattle.word_kinds.specs.declared.causes.Cause.{Cause}
use Rattle.word_kinds.specs.declared.causes.Cause.TheVariants as cause
use Rattle.script_lang.specs.declared.commands.Script.{Script}
use Rattle.script_lang.specs.declared.commands.ParseFault.{ParseFault}
use Rattle.script_lang.specs.declared.commands.ParseFault.TheVariants as fault
use Rattle.script_lang.specs.Steps.{OpenImage, Step, line_step}

-- the lines of a text end in a line feed, which the last may lack
abbrev pub without_empty_end : List (List ℕ) → List (List ℕ)
without_empty_end [] = []
without_empty_end (line ∷ []) = if length line == 0 then [] else line ∷ []
without_empty_end (line ∷ next ∷ more) = line ∷ without_empty_end (next ∷ more)

-- the lines of a text, without their line feeds
abbrev pub lines_of : List ℕ → List (List ℕ)
lines_of bytes = without_empty_end (slice_split (λ byte. byte == 10) bytes)

-- where a text is refused, and why: the number of the line from 1, or 0 for the text as a whole
pub record Refusal : Type 0 where
  pub line : ℕ
  pub cause : Cause

-- the refusal of a line
abbrev pub bad_line : ℕ → Cause → Refusal
bad_line line why = record { line = line; cause = why }

-- the commands before those of the later lines, or the refusal of one of these
abbrev pub onto : List Command → Result (List Command) Refusal → Result (List Command) Refusal
onto front (Ok more) = Ok (front ++ more)
onto front (Err refusal) = Err refusal

-- what a line says, and then the lines after it
abbrev pub step_and_more : ℕ → Result Step Cause → Result (List Command) Refusal → Result (List Command) Refusal
step_and_more line (Ok step) more = onto step.commands more
step_and_more line (Err why) more = Err (bad_line line why)

-- the image that is open after a line
abbrev pub image_behind : Result Step Cause → Option OpenImage
image_behind (Ok step) = step.image
image_behind (Err why) = None

-- no line is left: no image may be open
abbrev pub at_end : ℕ → Option OpenImage → Result (List Command) Refusal
at_end line None = Ok []
at_end line (Some image) = Err (bad_line line cause.Block)

-- the commands of these lines, the first of which has this number, where this image is open before them
abbrev pub commands_from : ℕ → Option OpenImage → List (List ℕ) → Result (List Command) Refusal
commands_from line image [] = at_end line image
commands_from line image (text ∷ more) =
    let step = line_step image text in step_and_more line step (commands_from (line + 1) (image_behind step) more)

-- what a text says: its commands, or where and why it is refused
unfoldable pub script_of : List ℕ → Result (List Command) Refusal
script_of bytes =
    if nat_lt SCRIPT_MOST (length bytes) then Err (bad_line 0 cause.Size)
    else (if nat_lt SCRIPT_LINES_MOST (length (lines_of bytes)) then Err (bad_line (SCRIPT_LINES_MOST + 1) cause.Lines)
    else commands_from 1 None (lines_of bytes))

-- the parser answered what the text says, unless memory ran out
abbrev pub IsParsed : Result (List Command) Refusal → Result Script ParseFault → Type 0
IsParsed said (Ok script) = said ≡ Ok script.commands.items
IsParsed said (Err (fault.Refused line why)) = said ≡ Err (bad_line line why)
IsParsed said (Err fault.NoMemory) = Unit {0}

-- a list of commands that some text says
pub record IsScript (commands : List Command) : Type 0 where
  pub text : List ℕ
  pub says : script_of text ≡ Ok commands
