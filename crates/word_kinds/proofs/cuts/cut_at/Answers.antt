use Rattle.std.proofs.Common.{sym}
use Rattle.word_kinds.proofs.Splits.{cut_here, no_cut}
use Rattle.word_kinds.proofs.cuts.cut_at.Goals as goal

pub returns-in-Some-clause-parts : goal.returns-in-Some-clause-parts
returns-in-Some-clause-parts c = cut_here c.args.text.now c.args.byte c.in-Some.place (sym c.in-Some.ensures)

pub returns-in-None-clause-none : goal.returns-in-None-clause-none
returns-in-None-clause-none c = no_cut c.args.text.now c.args.byte (sym c.in-None.ensures)
