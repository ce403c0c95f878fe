use Rattle.std.proofs.Common.{arith, subst}
use Rattle.link_words.specs.PlacedDesks.{placed_coded, placed_meaning}
use Rattle.link_words.specs.Steps.{EndsAt, LeavesReceiver, LeavesSender}
use Rattle.link_words.proofs.Apart.{sender_low, receiver_low}
use Rattle.link_words.proofs.Told.{by_store, leaves_sender, leaves_receiver}
use Rattle.link_words.proofs.turns.leave_turn.Goals as goal

pub store-requires : goal.store-requires
store-requires g c =
    let s = subst (λ u. EndsAt u c.args.seat.now.me c.args.lane) c.in-Sender.is c.requires.call in let wide = c.requires.table.1 in let is = c.sender_place.ensures in let low = sender_low c.args.lane in
    (c.requires.table.0, omega (arith, wide, is, low), by_store g.row.D.coded g.D.Desk.meaning c.args.table.now.key _ _ c.args.seat.now.me _ _ (LeavesSender c.args.seat.now.me) c.requires.table.2 (leaves_sender (placed_coded g.row.D.coded c.args.seat.now.me.0.sizes.desks) (placed_meaning g.row.D.coded c.args.seat.now.me.0.sizes.desks g.D.Desk.meaning) c.args.seat.now.me.0.sizes _ _ c.args.seat.now.me c.args.lane s _ is))

pub store-requires-in-Receiver : goal.store-requires-in-Receiver
store-requires-in-Receiver g c =
    let s = subst (λ u. EndsAt u c.args.seat.now.me c.args.lane) c.in-Receiver.is c.requires.call in let wide = c.requires.table.1 in let is = c.receiver_place.ensures in let low = receiver_low c.args.lane in
    (c.requires.table.0, omega (arith, wide, is, low), by_store g.row.D.coded g.D.Desk.meaning c.args.table.now.key _ _ c.args.seat.now.me _ _ (LeavesReceiver c.args.seat.now.me) c.requires.table.2 (leaves_receiver (placed_coded g.row.D.coded c.args.seat.now.me.0.sizes.desks) (placed_meaning g.row.D.coded c.args.seat.now.me.0.sizes.desks g.D.Desk.meaning) c.args.seat.now.me.0.sizes _ _ c.args.seat.now.me c.args.lane s _ is))
