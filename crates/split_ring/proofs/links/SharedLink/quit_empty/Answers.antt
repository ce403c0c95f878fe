use Rattle.link_words.specs.declared.rule.Slot.TheVariants.{Receiver}
use Rattle.split_ring.proofs.AloneEnds.{aside_left, lent_aside}
use Rattle.split_ring.proofs.links.SharedLink.quit_empty.Goals as goal

pub slot_mut-requires : goal.slot_mut-requires
slot_mut-requires g c = let h = c.requires.holds in (c.requires.seat.at_table, (Receiver h.side, lent_aside c.args.who c.args.seat.now.me h c.receiver_slot.result c.receiver_slot.ensures))

pub returns-clause-left : goal.returns-clause-left
returns-clause-left g c =
    aside_left c.args.who c.args.seat.now.me c.requires.holds c.receiver_slot.result c.slot_mut.result.now c.put_aside_in.new.slot c.receiver_slot.ensures c.slot_mut.ensures.value c.put_aside_in.ensures c.quit.new.seat.me c.quit.ensures.left
