use Rattle.image_maker.proofs.DemoTexts.{session_appended}
use Rattle.image_maker.proofs.demo.push_session.Goals as goal

pub returns : goal.returns
returns c =
    rw (c.in_ok-push_drive.ensures, c.in_ok-push_image.ensures, c.in_ok-push_core.ensures)
    (session_appended c.args.text.now.items c.args.session c.args.reply)
