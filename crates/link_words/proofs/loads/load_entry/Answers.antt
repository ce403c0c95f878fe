use Rattle.std.proofs.Common.{◌%◌, arith, ◌∙◌, subst, refl, sym}
use Rattle.link_words.specs.PlacedDesks.{placed_coded, placed_meaning}
use Rattle.link_words.specs.declared.rule.Ring.TheVariants as ring
use Rattle.link_words.specs.Layouts.{place_in}
use Rattle.link_words.specs.Words.{entry_number, IsSized}
use Rattle.link_words.specs.Steps.{MayLoadEntry, SendTakesBuffer, TakeTakesBuffer}
use Rattle.link_words.proofs.Apart.{entry_low}
use Rattle.link_words.proofs.Told.{by_load, send_loads_entry, take_loads_entry}
use Rattle.link_words.proofs.loads.load_entry.Goals as goal

pub load-requires : goal.load-requires
load-requires g c =
    let s = subst (λ u. MayLoadEntry u c.args.lane c.args.count c.args.seat.now.me) c.in-Return.is c.requires.call in let wide = c.requires.table.1 in
    let is = c.entry_place-word.ensures ∙ (λ i. place_in (entry_number ((c.requires.sizes.0 ∙ sym c.requires.table.2) i) c.args.lane (c.in-Return.is i) c.args.count)) in
    let there = c.entry_place-word.ensures ∙ (λ i. place_in (entry_number (c.requires.sizes.0 i) c.args.lane (c.in-Return.is i) c.args.count)) in
    let low = entry_low c.args.table.now.key c.args.lane ring.Return c.args.count (subst IsSized c.requires.sizes.0 c.requires.sizes.1) in
    (c.requires.table.0, omega (arith, wide, there, low), by_load g.row.D.coded g.D.Desk.meaning c.args.table.now.key _ _ c.args.seat.now.me _ (λ y. SendTakesBuffer (y % 4294967296) c.args.seat.now.me) c.requires.table.2 (send_loads_entry (placed_coded g.row.D.coded c.args.seat.now.me.0.sizes.desks) (placed_meaning g.row.D.coded c.args.seat.now.me.0.sizes.desks g.D.Desk.meaning) c.args.seat.now.me.0.sizes _ _ c.args.seat.now.me c.args.lane s.0 c.args.count _ is refl s.1))

pub load-requires-in-Forward : goal.load-requires-in-Forward
load-requires-in-Forward g c =
    let s = subst (λ u. MayLoadEntry u c.args.lane c.args.count c.args.seat.now.me) c.in-Forward.is c.requires.call in let wide = c.requires.table.1 in
    let is = c.entry_place-word.ensures ∙ (λ i. place_in (entry_number ((c.requires.sizes.0 ∙ sym c.requires.table.2) i) c.args.lane (c.in-Forward.is i) c.args.count)) in
    let there = c.entry_place-word.ensures ∙ (λ i. place_in (entry_number (c.requires.sizes.0 i) c.args.lane (c.in-Forward.is i) c.args.count)) in
    let low = entry_low c.args.table.now.key c.args.lane ring.Forward c.args.count (subst IsSized c.requires.sizes.0 c.requires.sizes.1) in
    (c.requires.table.0, omega (arith, wide, there, low), by_load g.row.D.coded g.D.Desk.meaning c.args.table.now.key _ _ c.args.seat.now.me _ (λ y. TakeTakesBuffer (y % 4294967296) c.args.seat.now.me) c.requires.table.2 (take_loads_entry (placed_coded g.row.D.coded c.args.seat.now.me.0.sizes.desks) (placed_meaning g.row.D.coded c.args.seat.now.me.0.sizes.desks g.D.Desk.meaning) c.args.seat.now.me.0.sizes _ _ c.args.seat.now.me c.args.lane s.0 c.args.count _ is refl s.1))
