use Rattle.link_words.specs.PlacedDesks.{placed_coded, placed_meaning}
use Rattle.std.proofs.Common.{arith, refl}
use Rattle.link_words.specs.Seats.{Settles}
use Rattle.link_words.proofs.Apart.{apart}
use Rattle.link_words.proofs.Endings.{settles}
use Rattle.link_words.proofs.Orderly.{orders}
use Rattle.link_words.proofs.seats.settle.Goals as goal

pub load-requires : goal.load-requires
load-requires g c = let wide = c.requires.table.1 in (c.requires.table.0, omega (arith, wide), orders (placed_coded g.row.D.coded c.args.table.now.key.desks) (placed_meaning g.row.D.coded c.args.table.now.key.desks g.D.Desk.meaning) c.args.table.now.key _ _ _ 0 (λ y. y) (λ y me'. Settles c.args.manager.now.me me') (apart (placed_coded g.row.D.coded c.args.table.now.key.desks) (placed_meaning g.row.D.coded c.args.table.now.key.desks g.D.Desk.meaning) c.args.table.now.key _ _ _ 0 0 (λ y. y) (λ y me'. Settles c.args.manager.now.me me') refl (settles (placed_coded g.row.D.coded c.args.table.now.key.desks) (placed_meaning g.row.D.coded c.args.table.now.key.desks g.D.Desk.meaning) c.args.table.now.key _ _ _ c.requires.manager c.requires.back)))
