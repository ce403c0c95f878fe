use Rattle.rp_base.proofs.Framed.{take_two_parts}
use Rattle.rp_base.proofs.messages.Message.set.Goals as goal

pub returns : goal.returns
returns c = take_two_parts c.args.head.now c.args.body.now _ _ _ _ c.copy_from_slice.ensures.after c.copy_from_slice-2.ensures.after
