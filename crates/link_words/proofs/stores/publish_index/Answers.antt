use Rattle.std.proofs.Common.{arith, refl, subst}
use Rattle.link_words.specs.PlacedDesks.{placed_coded, placed_meaning}
use Rattle.link_words.specs.Steps.{MayPublish, GivePublishes, SendPublishes}
use Rattle.link_words.proofs.Apart.{forward_low, return_low}
use Rattle.link_words.proofs.Told.{by_store, send_publishes, give_publishes}
use Rattle.link_words.proofs.stores.publish_index.Goals as goal

pub store-requires : goal.store-requires
store-requires g c =
    let s = subst (λ u. MayPublish u c.args.lane c.args.count c.args.seat.now.me) c.in-Forward.is c.requires.call in let wide = c.requires.table.1 in let is = c.forward_place.ensures in let low = forward_low c.args.lane in
    (c.requires.table.0, omega (arith, wide, is, low), by_store g.row.D.coded g.D.Desk.meaning c.args.table.now.key _ _ c.args.seat.now.me _ _ (SendPublishes c.args.seat.now.me) c.requires.table.2 (send_publishes (placed_coded g.row.D.coded c.args.seat.now.me.0.sizes.desks) (placed_meaning g.row.D.coded c.args.seat.now.me.0.sizes.desks g.D.Desk.meaning) c.args.seat.now.me.0.sizes _ _ c.args.seat.now.me c.args.lane s.at c.args.count _ _ is s.count refl refl s.slots))

pub store-requires-in-Return : goal.store-requires-in-Return
store-requires-in-Return g c =
    let s = subst (λ u. MayPublish u c.args.lane c.args.count c.args.seat.now.me) c.in-Return.is c.requires.call in let wide = c.requires.table.1 in let is = c.return_place.ensures in let low = return_low c.args.lane in
    (c.requires.table.0, omega (arith, wide, is, low), by_store g.row.D.coded g.D.Desk.meaning c.args.table.now.key _ _ c.args.seat.now.me _ _ (GivePublishes c.args.seat.now.me) c.requires.table.2 (give_publishes (placed_coded g.row.D.coded c.args.seat.now.me.0.sizes.desks) (placed_meaning g.row.D.coded c.args.seat.now.me.0.sizes.desks g.D.Desk.meaning) c.args.seat.now.me.0.sizes _ _ c.args.seat.now.me c.args.lane s.given s.at c.args.count _ _ is refl s.count refl))
