use Rattle.std.proofs.Common.{◌≡◌, ◌+◌, ◌≤◌, length}
use Rattle.script_lang.specs.Grammar.{lines_of}
use Rattle.board_file.specs.Boards.{no_board}
use Rattle.board_file.specs.Texts.{board_from}
use Rattle.board_file.proofs.reading.board_in.Given as goal

-- the board so far, and the lines that are left
abbrev pub invariant-loop-words : goal.invariant-loop-words
invariant-loop-words l = record {
  said : board_from l.number l.board (lines_of l.rest) ≡ board_from 0 no_board (lines_of l.text);
  short : l.number + length l.rest ≤ length l.text;
}

abbrev pub decreases-loop-words : goal.decreases-loop-words
decreases-loop-words l = length l.rest
