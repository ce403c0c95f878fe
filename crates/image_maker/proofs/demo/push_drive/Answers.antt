use Rattle.image_maker.proofs.DemoTexts.{drive_appended}
use Rattle.image_maker.proofs.demo.push_drive.Goals as goal

pub returns : goal.returns
returns c =
    rw (c.in_ok-extend_from_slice-8.ensures.items, c.in_ok-extend_from_slice-7.ensures.items, c.in_ok-extend_from_slice-6.ensures.items, c.in_ok-extend_from_slice-5.ensures.items, c.in_ok-extend_from_slice-4.ensures.items, c.in_ok-push_number.ensures, c.in_ok-extend_from_slice-3.ensures.items, c.in_ok-extend_from_slice-2.ensures.items, c.in_ok-extend_from_slice.ensures.items, c.session_core-core.ensures)
    (drive_appended c.args.text.now.items c.args.session)
