use Rattle.std.proofs.Common.{ℕ, arith, refl}
use Rattle.rp_base.specs.declared.kinds.End.TheVariants as side
use Rattle.link_words.specs.Calls.{SeatState}
use Rattle.link_words.specs.PlacedDesks.{placed_coded, placed_meaning}
use Rattle.link_words.specs.Seats.{EnlistsCaller}
use Rattle.link_words.specs.Steps.{MakesCaller}
use Rattle.link_words.proofs.Apart.{apart}
use Rattle.link_words.proofs.Moving.{enlists_caller}
use Rattle.link_words.proofs.Told.{by_first}
use Rattle.link_words.proofs.seats.enlist_carried.Goals as goal

pub load-requires : goal.load-requires
load-requires g c =
    let me = c.args.manager.now.me in let q = c.requires.manager in let wide = c.requires.table.1 in (
      c.requires.table.0,
      omega (arith, wide),
      by_first g.row.D.coded g.D.Desk.meaning c.args.table.now.key _ _ me 0 (λ y. y) (λ (y : ℕ) (me' : SeatState). EnlistsCaller side.Host me me' × MakesCaller g.row.D.coded g.D.Desk.meaning side.Host me me') c.requires.table.2
          (apart (placed_coded g.row.D.coded c.args.manager.now.me.0.sizes.desks) (placed_meaning g.row.D.coded c.args.manager.now.me.0.sizes.desks g.D.Desk.meaning) me.0.sizes _ _ me 0 0 (λ y. y) (λ (y : ℕ) (me' : SeatState). EnlistsCaller side.Host me me' × MakesCaller g.row.D.coded g.D.Desk.meaning side.Host me me') refl (enlists_caller (placed_coded g.row.D.coded c.args.manager.now.me.0.sizes.desks) (placed_meaning g.row.D.coded c.args.manager.now.me.0.sizes.desks g.D.Desk.meaning) me.0.sizes _ _ me side.Host q.1.0 q.0 q.1.1)),
    )

pub load-requires-in-Remote : goal.load-requires-in-Remote
load-requires-in-Remote g c =
    let me = c.args.manager.now.me in let q = c.requires.manager in let wide = c.requires.table.1 in (
      c.requires.table.0,
      omega (arith, wide),
      by_first g.row.D.coded g.D.Desk.meaning c.args.table.now.key _ _ me 0 (λ y. y) (λ (y : ℕ) (me' : SeatState). EnlistsCaller side.Remote me me' × MakesCaller g.row.D.coded g.D.Desk.meaning side.Remote me me') c.requires.table.2
          (apart (placed_coded g.row.D.coded c.args.manager.now.me.0.sizes.desks) (placed_meaning g.row.D.coded c.args.manager.now.me.0.sizes.desks g.D.Desk.meaning) me.0.sizes _ _ me 0 0 (λ y. y) (λ (y : ℕ) (me' : SeatState). EnlistsCaller side.Remote me me' × MakesCaller g.row.D.coded g.D.Desk.meaning side.Remote me me') refl (enlists_caller (placed_coded g.row.D.coded c.args.manager.now.me.0.sizes.desks) (placed_meaning g.row.D.coded c.args.manager.now.me.0.sizes.desks g.D.Desk.meaning) me.0.sizes _ _ me side.Remote q.1.0 q.0 q.1.1)),
    )
