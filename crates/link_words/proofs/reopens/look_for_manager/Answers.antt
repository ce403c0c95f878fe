use Rattle.std.proofs.Common.{◌≡◌, ℕ}
use Rattle.link_words.specs.Calls.{SeatState}
use Rattle.link_words.specs.Deeds.{Nothing}
use Rattle.link_words.specs.PlacedDesks.{placed_coded, placed_meaning}
use Rattle.link_words.specs.Reopens.{ManagerDoes}
use Rattle.link_words.specs.Looks.{SeesWord}
use Rattle.link_words.proofs.ManagerTold.{looks_told}
use Rattle.link_words.proofs.Told.{by_first}
use Rattle.link_words.proofs.reopens.look_for_manager.Goals as goal

pub load-requires : goal.load-requires
load-requires g c =
    let me = c.args.manager.now.me in let z = me.0.sizes in let coded = g.row.D.coded in let meaning = g.D.Desk.meaning in let place = c.args.place in let there = c.requires.place.1 in (
      c.requires.table.0,
      c.requires.place.0,
      by_first coded meaning c.args.table.now.key _ _ me place (λ y. y) (λ (y : ℕ) (me' : SeatState). (me' ≡ me) × ManagerDoes coded meaning me (SeesWord z place y) Nothing me') c.requires.table.1
          (looks_told (placed_coded coded z.desks) (placed_meaning coded z.desks meaning) z _ _ me there.0 place c.requires.manager there.1),
    )
