use Rattle.std.proofs.Common.{◌≤◌, [], length, sym, ◌∙◌, subst}
use Rattle.chart.specs.declared.limits.TheConstants.{LINES_MOST}
use Rattle.chart.proofs.RowFacts.{rows_len}
use Rattle.chart.proofs.charts.chart_of.Goals as goal

pub places_of-requires-clause-few : goal.places_of-requires-clause-few
places_of-requires-clause-few c =
    subst (λ rows. length rows ≤ LINES_MOST) (sym (c.deref-2.ensures.value ∙ c.in_ok-rows.ensures)) (subst (λ n. n ≤ LINES_MOST) (sym (rows_len [] c.args.events.now)) c.requires)
