use Rattle.std.proofs.Common.{◌≡◌, ◌≤◌, length, sym, subst, arith}
use Rattle.chart.specs.declared.limits.TheConstants.{LINES_MOST}
use Rattle.chart.proofs.LineFacts.{AreRead, few_more, more_read}
use Rattle.chart.proofs.readings.read_events.Goals as goal

pub loop-rest-preserved : goal.loop-rest-preserved
loop-rest-preserved c =
    let seen = c.loop-rest.invariant in
    let cut = c.cut_line.result in
    let count : c.len.result ≡ length c.loop-rest.events.items = omega (arith, c.len.ensures, c.loop-rest.events.ok) in
    record {
      read = subst (AreRead c.args.bytes.now cut.1.now) (sym c.in_ok-push-in-Ok.ensures.items)
          (more_read c.args.bytes.now c.loop-rest.rest.now cut.0.now cut.1.now c.loop-rest.events.items c.in-Ok.event seen.read c.cut_line.ensures.lines c.in-Ok.ensures.is_line c.in-Ok.ensures.written);
      few = subst (λ events. length events ≤ LINES_MOST) (sym c.in_ok-push-in-Ok.ensures.items)
          (few_more c.loop-rest.events.items c.in-Ok.event c.len.result LINES_MOST count c.if-len-ge-LINES_MOST.false);
    }
