use Rattle.std.proofs.Common.{arith}
use Rattle.script_lang.proofs.Cuts.{cut_lines, one_line}
use Rattle.board_file.proofs.reading.cut_line.Goals as goal

pub returns-in-Some-clause-lines : goal.returns-in-Some-clause-lines
returns-in-Some-clause-lines c = cut_lines c.args.text.now c.in-Some.parts.0.now c.in-Some.parts.1.now c.in-Some.ensures.parts

pub returns-in-None-clause-lines : goal.returns-in-None-clause-lines
returns-in-None-clause-lines c = one_line c.args.text.now (omega arith) c.in-None.ensures.none
