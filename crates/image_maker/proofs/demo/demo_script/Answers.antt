use Rattle.image_maker.proofs.DemoTexts.{number_next, session_written}
use Rattle.image_maker.proofs.demo.demo_script.Goals as goal

pub loop-session-preserved : goal.loop-session-preserved
loop-session-preserved c =
    let at = number_next c.args.sessions c.loop-session.session _ _ c.loop-session.invariant.place c.next_number-number.ensures.next in
    record {
      written = session_written c.args.sessions c.loop-session.session _ _ _ c.loop-session.invariant.written at c.in_ok-push_session.ensures;
      place = at;
      range = c.next_number-number.ensures.range;
    }
