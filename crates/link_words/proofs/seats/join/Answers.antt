use Rattle.link_words.specs.PlacedDesks.{placed_coded, placed_meaning}
use Rattle.std.proofs.Common.{arith}
use Rattle.link_words.proofs.Apart.{joins_apart}
use Rattle.link_words.proofs.Endings.{joins_ended}
use Rattle.link_words.proofs.seats.join.Goals as goal

pub join_seat-requires : goal.join_seat-requires
join_seat-requires g c = let q = c.requires.caller in let wide = c.requires.table.3 in
    (c.requires.table.0, c.requires.table.1, c.requires.table.2, omega (arith, wide), joins_apart (placed_coded g.row.D.coded c.args.table.now.key.desks) (placed_meaning g.row.D.coded c.args.table.now.key.desks g.D.Desk.meaning) c.args.table.now.key _ _ _ _ _ _ (joins_ended (placed_coded g.row.D.coded c.args.table.now.key.desks) (placed_meaning g.row.D.coded c.args.table.now.key.desks g.D.Desk.meaning) c.args.table.now.key _ _ _ _ q.0 q.1 c.requires.manager.0 c.requires.manager.1 q.2 q.3 q.4))
