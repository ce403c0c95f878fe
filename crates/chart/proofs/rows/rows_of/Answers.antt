use Rattle.std.proofs.Common.{[], ◌∷◌, ◌++◌, ◌+◌, drop, ap, ◌∙◌}
use Rattle.std.specs.List.{cons_option}
use Rattle.chart.specs.Marks.{said_by}
use Rattle.chart.specs.Rows.{rows_from}
use Rattle.chart.proofs.RowFacts.{left_at, one_row}
use Rattle.chart.proofs.rows.rows_of.Goals as goal

pub loop-event-preserved : goal.loop-event-preserved
loop-event-preserved c =
    let events = c.args.events.now in
    let i = c.loop-event.event-index in
    let event = c.event-item.result in
    let past = c.loop-event.invariant.past in
    let kept = c.loop-event.invariant.kept in
    let now = cons_option (said_by event) past in
    record {
      past = now;
      kept = c.in_ok-row.ensures.kept past kept;
      rows =
          ap (λ rows. rows ++ rows_from now (drop (i + 1) events)) (c.in_ok-push.ensures.items ∙ ap (λ row. c.loop-event.rows.items ++ row ∷ []) (c.in_ok-row.ensures.row past kept))
          ∙ one_row past event (drop i events) (drop (i + 1) events) c.loop-event.rows.items (rows_from [] events) (left_at events i event c.loop-event-test.true c.event-item.is) c.loop-event.invariant.rows;
    }
