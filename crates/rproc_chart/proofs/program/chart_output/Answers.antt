use Rattle.std.proofs.Common.{◌++◌, ◌∷◌, [], codes, ap}
use Rattle.std.specs.Prelude.{Err}
use Rattle.chart.specs.declared.limits.TheConstants.{LINES_MOST}
use Rattle.rproc_chart.specs.declared.statuses.Status.TheVariants as ended
use Rattle.rproc_chart.specs.Outputs.{IsChartOutput, wide}
use Rattle.rproc_chart.proofs.OutputFacts.{as_told, drawn, few_rows}
use Rattle.rproc_chart.proofs.program.chart_output.Goals as goal

pub draw-requires-clause-few : goal.draw-requires-clause-few
draw-requires-clause-few c = few_rows c.args.events.now c.in-Ok.chart.rows.items LINES_MOST c.in-Ok.ensures.rows c.requires

pub returns-in_ok-svg-in-Ok : goal.returns-in_ok-svg-in-Ok
returns-in_ok-svg-in-Ok c =
    let chart = c.in-Ok.chart in
    let picture = c.in_ok-picture-in-Ok.picture in
    let told = c.in_ok-picture-in-Ok.ensures in
    let made = c.in-Ok.ensures in
    drawn c.args.events.now picture.width picture.height picture.shapes.items c.in_ok-svg-in-Ok.field-0.items chart.lifelines.items chart.rows.items chart.places.items
    c.in_ok-svg-in-Ok.ensures told.width told.height told.shapes made.lifelines made.rows made.places

pub returns-in-Err-TooWide : goal.returns-in-Err-TooWide
returns-in-Err-TooWide c =
    as_told (IsChartOutput c.args.events.now) (codes "* refused 0 lifelines" ++ 10 ∷ []) ended.Refused c.refusal.result (wide (c.in-Err-TooWide.ensures.wide (ap Err c.in-Err-TooWide.field-0-is))) c.refusal.ensures
