use Rattle.image_maker.proofs.DemoTexts.{image_appended}
use Rattle.image_maker.proofs.demo.push_image.Goals as goal

pub returns : goal.returns
returns c =
    rw (c.in_ok-extend_from_slice-4.ensures.items, c.in_ok-push_reply.ensures, c.in_ok-extend_from_slice-3.ensures.items, c.in_ok-push_number-2.ensures, c.in_ok-extend_from_slice-2.ensures.items, c.in_ok-push_number.ensures, c.in_ok-extend_from_slice.ensures.items)
    (image_appended c.args.text.now.items c.args.session c.args.reply)
