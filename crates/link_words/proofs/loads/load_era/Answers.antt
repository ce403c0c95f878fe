use Rattle.std.proofs.Common.{arith, subst, ⊎_elim, refl}
use Rattle.link_words.specs.PlacedDesks.{placed_coded, placed_meaning}
use Rattle.lane_model.specs.declared.stages.Work.TheVariants as work
use Rattle.link_words.specs.Calls.{WorkAt}
use Rattle.link_words.specs.Steps.{MayLoadEra, BindLoadsEra, SendLoadsEra, TakeHands, TakeLoadsEra}
use Rattle.link_words.proofs.Told.{by_load, send_loads_era, take_loads_era, take_hands, bind_loads_era, unbind_loads_era}
use Rattle.link_words.proofs.loads.load_era.Goals as goal

pub load-requires : goal.load-requires
load-requires g c =
    let s = subst (λ u. MayLoadEra u c.args.seat.now.me) c.in-Send.is c.requires.call in let wide = c.requires.table.1 in
    (c.requires.table.0, omega (arith, wide), by_load g.row.D.coded g.D.Desk.meaning c.args.table.now.key _ _ c.args.seat.now.me _ (SendLoadsEra c.args.seat.now.me) c.requires.table.2 (send_loads_era (placed_coded g.row.D.coded c.args.seat.now.me.0.sizes.desks) (placed_meaning g.row.D.coded c.args.seat.now.me.0.sizes.desks g.D.Desk.meaning) c.args.seat.now.me.0.sizes _ _ c.args.seat.now.me s.0 s.1))

pub load-requires-in-Take : goal.load-requires-in-Take
load-requires-in-Take g c =
    let s = subst (λ u. MayLoadEra u c.args.seat.now.me) c.in-Take.is c.requires.call in let wide = c.requires.table.1 in
    (c.requires.table.0, omega (arith, wide), by_load g.row.D.coded g.D.Desk.meaning c.args.table.now.key _ _ c.args.seat.now.me _ (TakeLoadsEra c.args.seat.now.me) c.requires.table.2 (take_loads_era (placed_coded g.row.D.coded c.args.seat.now.me.0.sizes.desks) (placed_meaning g.row.D.coded c.args.seat.now.me.0.sizes.desks g.D.Desk.meaning) c.args.seat.now.me.0.sizes _ _ c.args.seat.now.me s.0 s.1))

pub load-requires-in-Hand : goal.load-requires-in-Hand
load-requires-in-Hand g c =
    let s = subst (λ u. MayLoadEra u c.args.seat.now.me) c.in-Hand.is c.requires.call in let wide = c.requires.table.1 in
    (c.requires.table.0, omega (arith, wide), by_load g.row.D.coded g.D.Desk.meaning c.args.table.now.key _ _ c.args.seat.now.me _ (TakeHands g.row.D.coded g.D.Desk.meaning c.args.seat.now.me.0.sizes.desks c.args.seat.now.me) c.requires.table.2 (take_hands g.row.D.coded c.args.seat.now.me.0.sizes.desks (placed_coded g.row.D.coded c.args.seat.now.me.0.sizes.desks) g.D.Desk.meaning c.args.seat.now.me.0.sizes _ _ c.args.seat.now.me s.lane s.at refl s.slots))

pub load-requires-in-Bind : goal.load-requires-in-Bind
load-requires-in-Bind g c =
    let s = subst (λ u. MayLoadEra u c.args.seat.now.me) c.in-Bind.is c.requires.call in let wide = c.requires.table.1 in let me = c.args.seat.now.me in (
      c.requires.table.0,
      omega (arith, wide),
      ⊎_elim
          (λ (w : WorkAt me s.0 (work.Bind s.1)). by_load g.row.D.coded g.D.Desk.meaning c.args.table.now.key _ _ c.args.seat.now.me _ (BindLoadsEra g.row.D.coded g.D.Desk.meaning c.args.seat.now.me.0.sizes.desks c.args.seat.now.me) c.requires.table.2 (bind_loads_era g.row.D.coded c.args.seat.now.me.0.sizes.desks (placed_coded g.row.D.coded c.args.seat.now.me.0.sizes.desks) g.D.Desk.meaning c.args.seat.now.me.0.sizes _ _ me s.0 s.1 w))
          (λ (w : WorkAt me s.0 (work.Unbind s.1)). by_load g.row.D.coded g.D.Desk.meaning c.args.table.now.key _ _ c.args.seat.now.me _ (BindLoadsEra g.row.D.coded g.D.Desk.meaning c.args.seat.now.me.0.sizes.desks c.args.seat.now.me) c.requires.table.2 (unbind_loads_era g.row.D.coded c.args.seat.now.me.0.sizes.desks (placed_coded g.row.D.coded c.args.seat.now.me.0.sizes.desks) g.D.Desk.meaning c.args.seat.now.me.0.sizes _ _ me s.0 s.1 w)) s.2,
    )
