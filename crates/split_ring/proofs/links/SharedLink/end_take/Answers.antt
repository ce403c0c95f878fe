use Rattle.std.proofs.Common.{length, true, sym, ap, ◌∙◌}
use Rattle.link_words.specs.declared.rule.Slot.TheVariants.{Receiver}
use Rattle.split_ring.specs.Focus.{seat_of}
use Rattle.split_ring.proofs.EndSteps.{receive_finds, lent_slot}
use Rattle.split_ring.proofs.SeatEnds.{leaves_then, behind_side, side_out, aside_is, aside_leaves, aside_left, aside_stays}
use Rattle.split_ring.proofs.links.SharedLink.end_take.Goals as goal

pub find_end-requires-clause-turn : goal.find_end-requires-clause-turn
find_end-requires-clause-turn g c = receive_finds c.args.self.now.sizes c.args.who true (seat_of c.args.who.number c.args.seat.now.me) c.requires.stands

pub slot_mut-requires : goal.slot_mut-requires
slot_mut-requires g c =
    let z = c.args.self.now.sizes in let who = c.args.who in let me = c.args.seat.now.me in let me1 = c.find_end.new.seat.me in let h = c.requires.stands in let closed = c.in_default.ensures.closed in let t = c.turn.new.self.me in
    (c.turn.ensures.0 ∙ c.in_default.ensures.seat.at_table, (Receiver h.side, lent_slot who h.side t.1 (behind_side z who me me1 h closed) c.receiver_slot.result (side_out z who me me1 h closed t c.turn.ensures.2) c.receiver_slot.ensures))

pub quit-requires-clause-turn : goal.quit-requires-clause-turn
quit-requires-clause-turn g c =
    let z = c.args.self.now.sizes in let who = c.args.who in let me = c.args.seat.now.me in let me1 = c.find_end.new.seat.me in let me2 = c.turn_by.new.seat.me in let h = c.requires.stands in let closed = c.in_default.ensures.closed in
    let is = aside_is z who me me1 h closed c.turn.new.self.me me2 c.receiver_slot.result c.slot_mut.result.now c.put_aside_in.new.slot c.args.all c.turn.ensures.2 c.receiver_slot.ensures c.slot_mut.ensures.value c.put_aside_in.ensures
    (c.requires.all ∙ ap length (sym c.find_end.ensures.slots)) c.turn_by.ensures.turned in
    aside_leaves z who me me1 h closed me2 is c.requires.number c.requires.seat.told

pub returns-clause-ended : goal.returns-clause-ended
returns-clause-ended g c =
    let z = c.args.self.now.sizes in let who = c.args.who in let me = c.args.seat.now.me in let me1 = c.find_end.new.seat.me in let me2 = c.turn_by.new.seat.me in let h = c.requires.stands in let closed = c.in_default.ensures.closed in
    let is = aside_is z who me me1 h closed c.turn.new.self.me me2 c.receiver_slot.result c.slot_mut.result.now c.put_aside_in.new.slot c.args.all c.turn.ensures.2 c.receiver_slot.ensures c.slot_mut.ensures.value c.put_aside_in.ensures
    (c.requires.all ∙ ap length (sym c.find_end.ensures.slots)) c.turn_by.ensures.turned in
    aside_left z who me me1 h closed me2 is (seat_of who.number c.quit.new.seat.me) c.quit.ensures.left

pub returns-clause-leaves : goal.returns-clause-leaves
returns-clause-leaves g c =
    let z = c.args.self.now.sizes in let who = c.args.who in let me = c.args.seat.now.me in let me1 = c.find_end.new.seat.me in let me2 = c.turn_by.new.seat.me in let h = c.requires.stands in let closed = c.in_default.ensures.closed in
    let is = aside_is z who me me1 h closed c.turn.new.self.me me2 c.receiver_slot.result c.slot_mut.result.now c.put_aside_in.new.slot c.args.all c.turn.ensures.2 c.receiver_slot.ensures c.slot_mut.ensures.value c.put_aside_in.ensures
    (c.requires.all ∙ ap length (sym c.find_end.ensures.slots)) c.turn_by.ensures.turned in
    leaves_then who.number me me2 c.quit.new.seat.me (leaves_then who.number me me1 me2 c.find_end.ensures.alone.leaves (aside_stays z who me me1 h closed me2 is)) c.quit.ensures.alone.leaves
