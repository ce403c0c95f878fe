use Rattle.std.proofs.Common.{sym, ap, ◌∙◌}
use Rattle.chart.specs.Rows.{behind}
use Rattle.chart.proofs.rows.behind_space.Goals as goal

pub returns-in-Some : goal.returns-in-Some
returns-in-Some c = c.split_at.ensures.back ∙ sym (ap (behind c.args.text.now) (sym c.first_space.ensures ∙ c.in-Some.is))

pub returns-in-None : goal.returns-in-None
returns-in-None c = sym (ap (behind c.args.text.now) (sym c.first_space.ensures ∙ c.in-None.is))
