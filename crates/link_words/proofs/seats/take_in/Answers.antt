use Rattle.link_words.specs.PlacedDesks.{placed_coded, placed_meaning}
use Rattle.std.proofs.Common.{arith}
use Rattle.link_words.proofs.Apart.{joins_apart}
use Rattle.link_words.proofs.Moving.{joins}
use Rattle.link_words.proofs.seats.take_in.Goals as goal

pub join_seat-requires : goal.join_seat-requires
join_seat-requires g c = let wide = c.requires.table.3 in
    (c.requires.table.0, c.requires.table.1, c.requires.table.2, omega (arith, wide), joins_apart (placed_coded g.row.D.coded c.args.table.now.key.desks) (placed_meaning g.row.D.coded c.args.table.now.key.desks g.D.Desk.meaning) c.args.table.now.key _ _ _ _ _ _ (joins (placed_coded g.row.D.coded c.args.table.now.key.desks) (placed_meaning g.row.D.coded c.args.table.now.key.desks g.D.Desk.meaning) c.args.table.now.key _ _ _ _ c.requires.manager))
