use Rattle.std.proofs.Common.{◌∷◌, sym, ◌∙◌}
use Rattle.journal_check.specs.Lines.{lines_of}
use Rattle.journal_check.proofs.AuditFacts.{line_at, one_line}
use Rattle.chart.proofs.readings.cut_line.Goals as goal

pub returns-in-Some-clause-lines : goal.returns-in-Some-clause-lines
returns-in-Some-clause-lines c =
    line_at c.args.text.now c.in-Some.place (sym c.first_feed.ensures ∙ c.in-Some.is) ∙ (λ i. sym c.split_at.ensures.front i ∷ lines_of (sym c.split_at.ensures.back i))

pub returns-in-None-clause-lines : goal.returns-in-None-clause-lines
returns-in-None-clause-lines c = one_line c.args.text.now c.requires (sym c.first_feed.ensures ∙ c.in-None.is)
