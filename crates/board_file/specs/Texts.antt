-- Which texts are board files, and what each says (own).
use Rattle.std.specs.Prelude.{◌≡◌, ℕ, ◌+◌, ◌==◌, nat_lt, if◌then◌else◌, List, [], ◌∷◌, length, Result, Ok, Err}
use Rattle.script_lang.specs.Grammar.{lines_of}
use Rattle.board_file.specs.declared.reading.TheConstants.{BOARD_MOST}
use Rattle.board_file.specs.declared.troubles.BoardFault.{BoardFault}
use Rattle.board_file.specs.declared.troubles.BoardFault.TheVariants as fault
use Rattle.board_file.specs.declared.troubles.LineFault.{LineFault}
use Rattle.board_file.specs.declared.troubles.LineFault.TheVariants as line_fault
use Rattle.board_file.specs.declared.troubles.Trouble.{Trouble}
use Rattle.board_file.specs.declared.troubles.Why.TheVariants as why
use Rattle.board_file.specs.Boards.{BoardSaid, no_board, trouble}
use Rattle.board_file.specs.Lines.{line_step}

-- where a text is refused, from line 1, or 0 for the text as a whole, and why
pub record Refusal : Type 0 where
  pub line : ℕ
  pub trouble : Trouble

-- a board after its last line: it has a region
abbrev pub at_end : ℕ → BoardSaid → Result BoardSaid Refusal
at_end line board = if length board.regions == 0 then Err (record { line = line; trouble = trouble 0 why.NoRegion }) else Ok board

-- the lines after one, where it is good
abbrev pub and_more : ℕ → (BoardSaid → Result BoardSaid Refusal) → Result BoardSaid Trouble → Result BoardSaid Refusal
and_more line more (Ok board) = more board
and_more line more (Err wrong) = Err (record { line = line; trouble = wrong })

-- the board after lines, of which the first comes after so many
abbrev pub board_from : ℕ → BoardSaid → List (List ℕ) → Result BoardSaid Refusal
board_from before board [] = at_end before board
board_from before board (line ∷ more) = and_more (before + 1) (λ next. board_from (before + 1) next more) (line_step board line)

-- what a text says: a board, or where and why it is refused
unfoldable pub board_of : List ℕ → Result BoardSaid Refusal
board_of text =
    if nat_lt BOARD_MOST (length text) then Err (record { line = 0; trouble = trouble 0 why.Size }) else board_from 0 no_board (lines_of text)

-- a reader answered what a text says, unless memory ran out
abbrev pub IsRead : Result BoardSaid Refusal → Result BoardSaid BoardFault → Type 0
IsRead said (Ok board) = said ≡ Ok board
IsRead said (Err (fault.Refused line wrong)) = said ≡ Err (record { line = line; trouble = wrong })
IsRead said (Err fault.NoMemory) = Unit {0}

-- a line was taken as it says, unless memory ran out
abbrev pub IsTaken : {A : Type 0} → Result BoardSaid Trouble → BoardSaid → Result A LineFault → Type 0
IsTaken said board (Ok done) = said ≡ Ok board
IsTaken said board (Err (line_fault.Bad wrong)) = said ≡ Err wrong
IsTaken said board (Err line_fault.NoMemory) = Unit {0}
