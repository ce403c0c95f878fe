use Rattle.link_words.specs.PlacedDesks.{placed_coded, placed_meaning}
use Rattle.std.proofs.Common.{arith}
use Rattle.link_words.proofs.Apart.{splits_apart}
use Rattle.link_words.proofs.Moving.{splits}
use Rattle.link_words.proofs.seats.let_go.Goals as goal

pub split_seat-requires : goal.split_seat-requires
split_seat-requires g c = let wide = c.requires.table.1 in (c.requires.table.0, omega (arith, wide), splits_apart (placed_coded g.row.D.coded c.args.table.now.key.desks) (placed_meaning g.row.D.coded c.args.table.now.key.desks g.D.Desk.meaning) c.args.table.now.key _ _ _ _ (splits (placed_coded g.row.D.coded c.args.table.now.key.desks) (placed_meaning g.row.D.coded c.args.table.now.key.desks g.D.Desk.meaning) c.args.table.now.key _ _ c.requires.manager.0 c.requires.manager.1))
