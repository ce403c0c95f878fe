use Rattle.image_maker.proofs.DemoTexts.{core_appended}
use Rattle.image_maker.proofs.demo.push_core.Goals as goal

pub returns-in_ok-extend_from_slice-5 : goal.returns-in_ok-extend_from_slice-5
returns-in_ok-extend_from_slice-5 c =
    rw (c.in_ok-extend_from_slice-5.ensures.items, c.in_ok-extend_from_slice-4.ensures.items, c.in_ok-extend_from_slice-3.ensures.items, c.in_ok-extend_from_slice-2.ensures.items, c.in_ok-extend_from_slice.ensures.items, c.session_core-core.ensures)
    (core_appended c.args.text.now.items c.args.session c.if-session-lt8.true)
