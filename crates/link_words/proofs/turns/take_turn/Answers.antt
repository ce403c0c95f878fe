use Rattle.std.proofs.Common.{◌≤◌, ◌+◌, eqb, arith, refl}
use prog.Atomic.{either}
use Rattle.link_words.specs.PlacedDesks.{placed_coded, placed_meaning}
use Rattle.link_words.specs.Steps.{TakesTurn, Begins, HasWord}
use Rattle.link_words.proofs.Told.{by_first}
use Rattle.link_words.proofs.Beginnings.{call_begins, wish_low}
use Rattle.link_words.proofs.turns.take_turn.Goals as goal

pub compare_exchange_with-requires : goal.compare_exchange_with-requires
compare_exchange_with-requires g c =
    let q = c.requires.caller in let start = c.args.start in let wide = c.requires.table.1 in let is = c.place-word.ensures in let low = wish_low start.end start.wish in
    (c.requires.table.0, omega (arith, wide, is, low), by_first g.row.D.coded g.D.Desk.meaning c.args.table.now.key _ _ c.args.seat.now.me c.place-word.result (λ y. either (eqb y 0) (start.caller + 1) y) (λ y me'. TakesTurn start.end start.caller start.follows start.wish c.args.seat.now.me y me' × (y ≤ 65) × Begins g.row.D.coded g.D.Desk.meaning c.args.seat.now.me (HasWord c.place-word.result y) start.caller start.follows start.wish me') c.requires.table.2 (call_begins (placed_coded g.row.D.coded c.args.seat.now.me.0.sizes.desks) (placed_meaning g.row.D.coded c.args.seat.now.me.0.sizes.desks g.D.Desk.meaning) c.args.seat.now.me.0.sizes _ _ c.args.seat.now.me start.end start.caller start.follows q.0 _ _ refl start.wish q.1 is))
